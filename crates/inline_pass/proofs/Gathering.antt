-- The module of finished bodies grows by one body, and a body that is the finished one up to numbering is whole.
use Rattle.std.proofs.Common.{◌≡◌, inl, inr, ℕ, zero, suc, ◌+◌, ◌<◌, ◌≤◌, List, [], ◌∷◌, ◌++◌, length, map, sum, take, Some, None, Bool, true, false, refl, sym, ap, ap₂, ◌∙◌, subst, arith}
use Rattle.std.specs.Prelude.{slice_get, if◌then◌else◌}
use Rattle.std.specs.List.{enumerate_from}
use Rattle.std.proofs.lemmas.Bool.{cases_eq}
use Rattle.std.proofs.lemmas.List.Sums.{sum_by-append}
use mathlib.Core.List.{map-append}
use Rattle.ir_core.specs.declared.names.FuncName.{FuncName}
use Rattle.ir_core.specs.declared.signatures.Ty.{Ty}
use Rattle.ir_core.specs.Module.{Function, Module}
use Rattle.ir_core.specs.Lookup.{same_name, find_function}
use Rattle.ir_core.specs.Lists.{In, Each}
use Rattle.ir_core.specs.Sound.{IsSound, IsWhole}
use Rattle.ir_core.specs.WellFormed.{WellFormed, DifferentNames}
use Rattle.ir_core.proofs.Equal.{name_equal}
use Rattle.ir_core.proofs.Keeping.{length_numbered}
use Rattle.ir_semantics.specs.Canon.{canonical, canonical_module, SameFunction, SameUpToNumbering}
use Rattle.call_graph.proofs.Numbers.{one_place}
use Rattle.inline_pass.specs.Policy.{Policy}
use Rattle.inline_pass.specs.Finished.{finished}
use Rattle.inline_pass.proofs.InOrder.{finished_named}

-- ---- a front of a list, and the next item

pub take_more : {A : Type 0} (l : List A) (i : ℕ) (a : A) → slice_get l i ≡ Some a → take (suc i) l ≡ take i l ++ a ∷ []
take_more [] i a e = absurd cc
take_more (x ∷ xs) zero a e = let q : x ≡ a = cc in ap (λ z. z ∷ []) q
take_more (x ∷ xs) (suc i) a e = ap (λ z. x ∷ z) (take_more xs i a e)

zero_add : (n : ℕ) → 0 + n ≡ n
zero_add n = omega arith

pub sum_next : (g : Function → ℕ) (m : Module) (i j : ℕ) (f : Function) → slice_get m i ≡ Some f → j ≡ i + 1
    → sum (map g (take j m)) ≡ sum (map g (take i m)) + g f
sum_next g m i j f e is =
    let q : suc i ≡ j = omega (arith, is) in
    subst (λ (z : ℕ). sum (map g (take z m)) ≡ sum (map g (take i m)) + g f) q
    (ap (λ (l : List Function). sum (map g l)) (take_more m i f e) ∙ (ap sum (map-append g (take i m) (f ∷ [])) ∙ (sum_by-append (λ (z : ℕ). z) (map g (take i m)) (g f ∷ []) ∙ ap (λ (z : ℕ). sum (map g (take i m)) + z) (zero_add (g f)))))

-- what is made of one more item of a front of a list
pub map_next :
    (g : Function → ℕ) (m : Module) (i : ℕ) (f : Function) → slice_get m i ≡ Some f
    → map g (take (i + 1) m) ≡ map g (take i m) ++ g f ∷ []
map_next g m i f e =
    let next : suc i ≡ i + 1 = omega arith in
    ap (λ (n : ℕ). map g (take n m)) (sym next) ∙ (ap (map g) (take_more m i f e) ∙ map-append g (take i m) (f ∷ []))

-- ---- modules that are the same up to numbering

each_more : {A : Type 0} (P : A → Type 0) (xs : List A) (a : A) → Each P xs → P a → Each P (xs ++ a ∷ [])
each_more P [] a h p = (p, tt)
each_more P (x ∷ xs) a h p = (h.0, each_more P xs a h.1 p)

same_more : (m r : Module) (f h : Function) → SameUpToNumbering m r → SameFunction f h → SameUpToNumbering (m ++ f ∷ []) (r ++ h ∷ [])
same_more m r f h s t = (
  each_more WellFormed m f s.0 t.0,
  each_more WellFormed r h s.1 t.1,
  map-append canonical m (f ∷ []) ∙ (ap₂ (λ (l : List Function) (g : Function). l ++ g ∷ []) s.2 t.2 ∙ sym (map-append canonical r (h ∷ []))),
)

pub same_next : (g : Function → Function) (m r : Module) (i j : ℕ) (f h : Function) → slice_get m i ≡ Some f → j ≡ i + 1
    → SameUpToNumbering (map g (take i m)) r → SameFunction (g f) h → SameUpToNumbering (map g (take j m)) (r ++ h ∷ [])
same_next g m r i j f h e is s t =
    let q : suc i ≡ j = omega (arith, is) in
    subst (λ (z : ℕ). SameUpToNumbering (map g (take z m)) (r ++ h ∷ [])) q
    (subst (λ (l : Module). SameUpToNumbering l (r ++ h ∷ [])) (sym (ap (map g) (take_more m i f e) ∙ map-append g (take i m) (f ∷ [])))
    (same_more (map g (take i m)) r (g f) h s t))

-- ---- no function so far has the name of the next

name_of_same : (f h : Function) → SameFunction f h → h.name ≡ f.name
name_of_same f h s = sym (ap (λ (z : Function). z.name) s.2)

-- modules with the same canonical forms have the same names
none_in_same : (x : FuncName) (m r : Module) → canonical_module m ≡ canonical_module r → find_function x m ≡ None → find_function x r ≡ None
none_in_same x [] [] e n = refl
none_in_same x [] (h ∷ r) e n = absurd cc
none_in_same x (f ∷ m) [] e n = absurd cc
none_in_same x (f ∷ m) (h ∷ r) e n =
    let heads : canonical f ≡ canonical h = cc in
    let tails : canonical_module m ≡ canonical_module r = cc in
    go (same_name f.name x) (same_name h.name x) (ap (λ (z : Function). same_name z.name x) heads) n (none_in_same x m r tails)
  where
    go : (b c : Bool) → b ≡ c → (if b then Some f else find_function x m) ≡ None → (find_function x m ≡ None → find_function x r ≡ None)
        → (if c then Some h else find_function x r) ≡ None
    go true c q n ih = absurd cc
    go false true q n ih = absurd cc
    go false false q n ih = ih n

-- in a front of a module with different names
none_before : (g : Function → Function) → ((z : Function) → (g z).name ≡ z.name) → (m : Module) → DifferentNames m → (i : ℕ) (f : Function)
    → slice_get m i ≡ Some f → find_function f.name (map g (take i m)) ≡ None
none_before g keeps [] d i f e = absurd cc
none_before g keeps (a ∷ m) d zero f e = refl
none_before g keeps (a ∷ m) d (suc i) f e =
    go (same_name (g a).name f.name) refl (none_before g keeps m d.1 i f e)
  where
    go : (b : Bool) → same_name (g a).name f.name ≡ b → find_function f.name (map g (take i m)) ≡ None
        → (if b then Some (g a) else find_function f.name (map g (take i m))) ≡ None
    go true q ih = let p = one_place (a ∷ m) d 0 (suc i) a f refl e (sym (keeps a) ∙ name_equal (g a).name f.name q) in absurd (omega (arith, p))
    go false q ih = ih

pub new_name : (p : Policy) (m : Module) → DifferentNames m → (i : ℕ) (f h : Function) → slice_get m i ≡ Some f → SameFunction (finished p m f) h
    → (r : Module) → SameUpToNumbering (map (finished p m) (take i m)) r → find_function h.name r ≡ None
new_name p m d i f h e s r made =
    subst (λ (x : FuncName). find_function x r ≡ None) (sym (name_of_same (finished p m f) h s ∙ finished_named p m f))
    (none_in_same f.name (map (finished p m) (take i m)) r made.2 (none_before (finished p m) (finished_named p m) m d i f e))

-- ---- a function that keeps what every function keeps, and is well formed, is whole

numbered : (k : ℕ) (ts : List Ty) (v : ℕ) → k ≤ v → v < k + length ts → In v (map (λ x. x.0) (enumerate_from k ts))
numbered k [] v low high = absurd (omega (arith, low, high))
numbered k (t ∷ ts) v low high = elim (cases_eq v k) [
  | inl e ↦ inl e
  | inr e ↦ inr (numbered (k + 1) ts v (omega (arith, low, e)) (omega (arith, high)))
]

pub whole_of : (f : Function) → IsSound f → WellFormed f → IsWhole f
whole_of f s w =
    let ts : List Ty = map (λ typed. typed.1) f.types in
    let long : length f.types ≡ length ts = ap length s.numbered ∙ length_numbered 0 ts in
    record {
      has_block = some f.blocks w.begins;
      defined = λ v l. w.defined v (subst (In v) (sym (ap (map (λ x. x.0)) s.numbered)) (numbered 0 ts v (omega arith) (omega (arith, l, long))));
      once = w.defined_once;
    }
  where
    some : {A : Type 0} (l : List A) → (l ≡ [] → ⊥) → 0 < length l
    some [] h = absurd (h refl)
    some (x ∷ xs) h = omega arith
