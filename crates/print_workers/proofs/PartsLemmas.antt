-- The text of a module in parts, and where the parts begin.
use Rattle.std.proofs.Common.{◌≡◌, ℕ, zero, suc, ◌+◌, ◌<◌, ◌≤◌, List, [], ◌∷◌, ◌++◌, length, take, map, get_or, Result, Ok, Some, IfOk, refl, sym, ap, subst, ◌∙◌, arith, add-one, append_assoc, length-append, inl, inr}
use Rattle.std.proofs.lemmas.Bool.{cases_lt}
use Rattle.std.proofs.lemmas.List.{append-nil, length-map, get_or_append_left, get_or_push, take_all, get_or-map}
use Rattle.std.specs.List.{slice_get, flat_map}
use Rattle.std.specs.Prelude.{slice_index}
use Rattle.ir_core.specs.Module.{Function, Module}
use Rattle.ir_text.specs.TextTree.{spelled}
use Rattle.ir_text.specs.Text.{more_functions, text_of, function_text_of}
use Rattle.text_output.specs.Output.{Start, Puts}
use Rattle.print_workers.specs.Parts.{IsPart, PutsPart, before_function, AreCuts}
use Rattle.text_output.proofs.Puts.{◌▸◌}

-- ---- one function more

more_at : (m : Module) (i : ℕ) (f : Function) → slice_get m i ≡ Some f → spelled (more_functions (take i m)) ++ (10 ∷ function_text_of f) ≡ spelled (more_functions (take (suc i) m))
more_at [] i f e = absurd cc
more_at (g ∷ m) zero f e = let same : g ≡ f = cc in ap (λ (h : Function). 10 ∷ function_text_of h) (sym same) ∙ ap (λ (l : List ℕ). 10 ∷ l) (sym (append-nil (function_text_of g)))
more_at (g ∷ m) (suc i) f e =
    ap (λ (l : List ℕ). 10 ∷ l)
    (append_assoc (function_text_of g) (spelled (more_functions (take i m))) (10 ∷ function_text_of f) ∙ ap (λ (l : List ℕ). function_text_of g ++ l) (more_at m i f e))

part_suc : (m : Module) (i : ℕ) (f : Function) → slice_get m i ≡ Some f → text_of (take i m) ++ (before_function i ++ function_text_of f) ≡ text_of (take (suc i) m)
part_suc [] i f e = absurd cc
part_suc (g ∷ m) zero f e = let same : g ≡ f = cc in ap function_text_of (sym same) ∙ sym (append-nil (function_text_of g))
part_suc (g ∷ m) (suc i) f e =
    append_assoc (function_text_of g) (spelled (more_functions (take i m))) (10 ∷ function_text_of f) ∙ ap (λ (l : List ℕ). function_text_of g ++ l) (more_at m i f e)

part_of_one : (m : Module) (i : ℕ) (f : Function) → slice_get m i ≡ Some f → IsPart m i (i + 1) (before_function i ++ function_text_of f)
part_of_one m i f e = part_suc m i f e ∙ ap (λ (k : ℕ). text_of (take k m)) (sym (add-one i))

-- ---- parts one behind the other

pub part_goes : {S : Type 0} {H : Start → S → List ℕ → Type 0} {a b c : S} {m : Module} {from i : ℕ} (f : Function) → PutsPart H a b m from i → slice_get m i ≡ Some f
    → Puts H b c (before_function i ++ function_text_of f) → PutsPart H a c m from (i + 1)
part_goes {S} {H} {a} {b} {c} {m} {from} {i} f p e q = record {
  part = p.part ++ (before_function i ++ function_text_of f);
  puts = p.puts ▸ q;
  is = sym (append_assoc (text_of (take from m)) p.part (before_function i ++ function_text_of f)) ∙ ap (λ (l : List ℕ). l ++ (before_function i ++ function_text_of f)) p.is ∙ part_of_one m i f e;
}

-- the part that is the whole text
pub whole_part : {S : Type 0} {H : Start → S → List ℕ → Type 0} {a b : S} {m : Module} {count : ℕ} → count ≡ length m → PutsPart H a b m 0 count → Puts H a b (text_of m)
whole_part {S} {H} {a} {b} {m} {count} e p = subst (λ (l : List ℕ). Puts H a b l) (p.is ∙ ap text_of (take_all count m (omega (arith, e)))) p.puts

-- texts each of which leads from one to the next of a row
joined : {T : Type 0} (view : T → List ℕ) (row : ℕ → List ℕ) (ts : List T) → ((i : ℕ) (d : T) → i < length ts → row i ++ view (get_or ts i d) ≡ row (suc i)) → row 0 ++ flat_map view ts ≡ row (length ts)
joined view row [] each = append-nil (row 0)
joined view row (t ∷ ts) each =
    sym (append_assoc (row 0) (view t) (flat_map view ts)) ∙ ap (λ (l : List ℕ). l ++ flat_map view ts) (each 0 t (omega arith)) ∙ joined view (λ i. row (suc i)) ts (λ i d l. each (suc i) d (omega arith))

-- All parts, each of which was written, are the text of the module.
pub whole_text : {T E : Type 0} (view : T → List ℕ) (m : Module) (parts : ℕ) (cuts : List ℕ) (answers : List (Result T E)) (texts : List T) → AreCuts (length m) parts cuts → answers ≡ map (λ t. Ok t) texts → length answers ≡ parts
    → ((i : ℕ) (d : Result T E) → i < parts → IfOk (get_or answers i d) (λ t. IsPart m (slice_index cuts i) (slice_index cuts (i + 1)) (view t))) → flat_map view texts ≡ text_of m
whole_text {T} {E} view m parts cuts answers texts are is count each =
    let row : ℕ → List ℕ = λ i. text_of (take (slice_index cuts i) m) in
    let ok : T → Result T E = λ t. Ok t in
    let number : length texts ≡ parts = sym (length-map texts ok) ∙ ap length (sym is) ∙ count in
    let step : (i : ℕ) (d : T) → i < length texts → row i ++ view (get_or texts i d) ≡ row (suc i) = λ i d l.
    let at : get_or answers i (ok d) ≡ ok (get_or texts i d) = ap (λ (rs : List (Result T E)). get_or rs i (ok d)) is ∙ get_or-map ok texts i d (Ok d) l in
    let one : IfOk (ok (get_or texts i d)) (λ t. IsPart m (slice_index cuts i) (slice_index cuts (i + 1)) (view t)) =
    subst (λ (r : Result T E). IfOk r (λ t. IsPart m (slice_index cuts i) (slice_index cuts (i + 1)) (view t))) at (each i (ok d) (omega (arith, number))) in
    one ∙ ap row (add-one i) in
    ap (λ (k : ℕ). text_of (take k m) ++ flat_map view texts) (sym are.first) ∙ joined view row texts step ∙ ap row number ∙ ap (λ (k : ℕ). text_of (take k m)) are.last
    ∙ ap text_of (take_all (length m) m (omega arith))

-- ---- cuts

pub no_cuts : AreCuts 0 0 (0 ∷ [])
no_cuts = record { number = refl; first = refl; last = refl; ordered = λ i l. omega arith; within = λ i l. let e : i ≡ 0 = omega arith in rw e (omega arith) }

one_behind : (count parts next : ℕ) (cuts : List ℕ) → AreCuts count parts cuts → count ≤ next → AreCuts next (parts + 1) (cuts ++ next ∷ [])
one_behind count parts next cuts are up = record {
  number = length-append cuts (next ∷ []) ∙ ap (λ (n : ℕ). n + 1) are.number;
  first = get_or_append_left cuts (next ∷ []) 0 0 (omega (arith, are.number)) ∙ are.first;
  last = get_or_push cuts next 0 (parts + 1) are.number;
  ordered = λ i l. elim (cases_lt i parts) [
    | inl below ↦ rw (before i (omega arith), before (i + 1) (omega arith)) (are.ordered i below)
    | inr top ↦ let e : i ≡ parts = omega arith in rw (e, before parts (omega arith), are.last, get_or_push cuts next 0 (parts + 1) are.number) up
  ];
  within = λ i l. elim (cases_lt i (parts + 1)) [
    | inl below ↦ let h = are.within i (omega arith) in rw (before i below) (omega (arith, h, up))
    | inr top ↦ let e : i ≡ parts + 1 = omega arith in rw (e, get_or_push cuts next 0 (parts + 1) are.number) (omega arith)
  ];
}
  where
    before : (i : ℕ) → i < parts + 1 → slice_index (cuts ++ next ∷ []) i ≡ slice_index cuts i
    before i l = get_or_append_left cuts (next ∷ []) 0 i (omega (arith, are.number))

pub one_more : (count parts next more : ℕ) (cuts : List ℕ) → more ≡ parts + 1 → AreCuts count parts cuts → count ≤ next → AreCuts next more (cuts ++ next ∷ [])
one_more count parts next more cuts is are up = rw is (one_behind count parts next cuts are up)
