-- New results: their numbers and their types.
use Rattle.std.proofs.Common.{◌≡◌, ℕ, zero, suc, ◌+◌, ◌*◌, ◌≤◌, List, [], ◌∷◌, ◌++◌, map, length, get_or, slice_set, Bool, true, false, Some, inl, inr, refl, sym, ap, ap₂, ◌∙◌, subst, arith, append_assoc, append-nil, length-append}
use Rattle.std.specs.Prelude.{if◌then◌else◌}
use Rattle.std.specs.List.{enumerate_from}
use Rattle.std.proofs.lemmas.List.{get_or-set_same, get_or-set_other, length-set}
use Rattle.ir_core.specs.declared.signatures.Ty.{Ty}
use Rattle.ir_core.specs.Module.{Instruction, Plain, Branches, SequencePoint, Return, Call, ReturnCall, TryCall, Line, Block}
use Rattle.ir_core.specs.Lookup.{type_in, block_numbers}
use Rattle.ir_core.specs.Lists.{In, Different, Below}
use Rattle.ir_semantics.specs.Renaming.{Renaming, typed_under}
use Rattle.ir_semantics.specs.Splice.{Splicing, Kind, Within, kind_of, with_type, typed_results, new_types_by, line_types, new_types}
use Rattle.ir_core.specs.Edits.{lines_of, block_at}
use Rattle.inline_body.specs.Results.{is_tail_call, tail_calls, tail_calls_in, starts_along, repeated, with_values, OneTail}

-- ---- a table with values at different keys

still : (t ks vs : List ℕ) (k : ℕ) → (In k ks → ⊥) → get_or (with_values t ks vs) k 0 ≡ get_or t k 0
still t [] vs k h = refl
still t (j ∷ ks) [] k h = refl
still t (j ∷ ks) (v ∷ vs) k h = still (slice_set t j v) ks vs k (λ i. h (inr i)) ∙ get_or-set_other t j k v 0 (λ e. h (inl e))

pub values_at : (t ks vs : List ℕ) → length ks ≡ length vs → Different ks → Below (length t) ks → map (λ k. get_or (with_values t ks vs) k 0) ks ≡ vs
values_at t [] [] l d b = refl
values_at t [] (v ∷ vs) l d b = absurd (omega (arith, l))
values_at t (k ∷ ks) [] l d b = absurd (omega (arith, l))
values_at t (k ∷ ks) (v ∷ vs) l d b =
    ap₂ (λ (x : ℕ) (xs : List ℕ). x ∷ xs) (still (slice_set t k v) ks vs k d.0 ∙ get_or-set_same t k v 0 b.0) (values_at (slice_set t k v) ks vs (omega (arith, l)) d.1 (subst (λ n. Below n ks) (sym (length-set t k v)) b.1))

pub starts_length : (n count : ℕ) (bs : List Block) → length (starts_along n count bs) ≡ length bs
starts_length n count [] = refl
starts_length n count (b ∷ bs) = ap suc (starts_length (n + count * tail_calls b.lines) count bs)

pub next_written : (t ks : List ℕ) (k j n count h : ℕ) (rest : List ℕ) (bs : List Block) (all : List ℕ) → ks ≡ k ∷ rest → j ≡ k → h ≡ tail_calls (lines_of k bs) → with_values t ks (starts_along n count (map (block_at bs) ks)) ≡ all → with_values (slice_set t j n) rest (starts_along (n + count * h) count (map (block_at bs) rest)) ≡ all
next_written t ks k j n count h rest bs all e g q i =
    ap₂ (λ (x y : ℕ). with_values (slice_set t x n) rest (starts_along (n + count * y) count (map (block_at bs) rest))) g q
    ∙ (sym (ap (λ (z : List ℕ). with_values t z (starts_along n count (map (block_at bs) z))) e) ∙ i)

pub next_counted : (k n count h : ℕ) (ks rest : List ℕ) (bs : List Block) (all : ℕ) → ks ≡ k ∷ rest → h ≡ tail_calls (lines_of k bs) → n + count * tail_calls_in (map (block_at bs) ks) ≡ all → (n + count * h) + count * tail_calls_in (map (block_at bs) rest) ≡ all
next_counted k n count h ks rest bs all e q i =
    let a : n + count * (tail_calls (lines_of k bs) + tail_calls_in (map (block_at bs) rest)) ≡ all = sym (ap (λ (z : List ℕ). n + count * tail_calls_in (map (block_at bs) z)) e) ∙ i in
    let b : count * h ≡ count * tail_calls (lines_of k bs) = ap (λ (z : ℕ). count * z) q in
    omega (arith, a, b)

-- ---- lists of types

pub repeated_behind : {A : Type 0} (n : ℕ) (xs : List A) → repeated (suc n) xs ≡ repeated n xs ++ xs
repeated_behind zero xs = append-nil xs
repeated_behind (suc n) xs = ap (λ z. xs ++ z) (repeated_behind n xs) ∙ sym (append_assoc xs (repeated n xs) xs)

pub repeated_next : {A : Type 0} (front list list' : List A) (n : ℕ) (xs : List A) → list ≡ front ++ repeated n xs → list' ≡ list ++ xs → list' ≡ front ++ repeated (n + 1) xs
repeated_next front list list' n xs e g =
    let m : suc n ≡ n + 1 = omega arith in
    g ∙ (ap (λ z. z ++ xs) e ∙ (append_assoc front (repeated n xs) xs ∙ ap (λ z. front ++ z) (sym (repeated_behind n xs) ∙ ap (λ (z : ℕ). repeated z xs) m)))

pub repeated_sum : {A : Type 0} (m n k : ℕ) (xs : List A) → k ≡ m + n → repeated k xs ≡ repeated m xs ++ repeated n xs
repeated_sum zero n k xs e = ap (λ z. repeated z xs) (omega (arith, e))
repeated_sum (suc m) n zero xs e = absurd (omega (arith, e))
repeated_sum (suc m) n (suc k) xs e = ap (λ z. xs ++ z) (repeated_sum m n k xs (omega (arith, e))) ∙ sym (append_assoc xs (repeated m xs) (repeated n xs))

pub repeated_length : {A : Type 0} (n : ℕ) (xs : List A) → length (repeated n xs) ≡ length xs * n
repeated_length zero xs = omega arith
repeated_length (suc n) xs = let a = length-append xs (repeated n xs) in let b = repeated_length n xs in omega (arith, a, b)

pub enumerate_join : (n m : ℕ) (xs ys : List Ty) → m ≡ n + length xs → enumerate_from n xs ++ enumerate_from m ys ≡ enumerate_from n (xs ++ ys)
enumerate_join n m [] ys e = ap (λ z. enumerate_from z ys) (omega (arith, e))
enumerate_join n m (x ∷ xs) ys e = ap (λ z. (n, x) ∷ z) (enumerate_join (n + 1) m xs ys (omega (arith, e)))

-- ---- the types of a splice

pub types_moved : (r : Renaming) (base n m : ℕ) (ts : List Ty) → ((v : ℕ) → r.value v ≡ base + v) → m ≡ base + n → map (typed_under r) (enumerate_from n ts) ≡ enumerate_from m ts
types_moved r base n m [] h e = refl
types_moved r base n m (t ∷ ts) h e = ap₂ (λ (v : ℕ) z. (v, t) ∷ z) (h n ∙ sym e) (types_moved r base (n + 1) (m + 1) ts h (omega (arith, e)))

module _ (p : Splicing) (ts : List Ty) (within : kind_of p.site.inst ≡ Within) (typed : map Some ts ≡ map (type_in p.caller.types) p.site.results) where
  results_typed : (c i n : ℕ) (vs : List ℕ) (us : List Ty) → map Some us ≡ map (type_in p.caller.types) vs → ((j : ℕ) → p.naming.new_value c j ≡ n + j) → (m : ℕ) → m ≡ n + i → typed_results p c i vs ≡ enumerate_from m us
  results_typed c i n [] [] e h m q = refl
  results_typed c i n [] (u ∷ us) e h m q = cc
  results_typed c i n (v ∷ vs) [] e h m q = cc
  results_typed c i n (v ∷ vs) (u ∷ us) e h m q =
      let a : type_in p.caller.types v ≡ Some u = cc in
      let r : map Some us ≡ map (type_in p.caller.types) vs = cc in
      ap (λ z. with_type (p.naming.new_value c i) z ++ typed_results p c (suc i) vs) a
      ∙ ap₂ (λ (x : ℕ) z. (x, u) ∷ z) (h i ∙ sym q) (results_typed c (suc i) n vs us r h (m + 1) (omega (arith, q)))

  here : (c n : ℕ) → ((j : ℕ) → p.naming.new_value c j ≡ n + j) → typed_results p c 0 p.site.results ≡ enumerate_from n ts
  here c n h = results_typed c 0 n p.site.results ts typed h n (omega arith)

  by_line : (c : ℕ) (i : Instruction) → new_types_by p c (kind_of p.site.inst) i ≡ (if is_tail_call i then typed_results p c 0 p.site.results else [])
  by_line c i = ap (λ (k : Kind). new_types_by p c k i) within ∙ go i
    where
      go : (i : Instruction) → new_types_by p c Within i ≡ (if is_tail_call i then typed_results p c 0 p.site.results else [])
      go (Plain q) = refl
      go (Branches b) = refl
      go SequencePoint = refl
      go (Return vs) = refl
      go (Call t args) = refl
      go (ReturnCall t args) = refl
      go (TryCall t sig args normal table) = refl

  lines_typed : (c n : ℕ) (ls : List Line) → ((j : ℕ) → p.naming.new_value c j ≡ n + j) → tail_calls ls ≤ 1 → line_types p c ls ≡ enumerate_from n (repeated (tail_calls ls) ts)
  lines_typed c n [] h o = refl
  lines_typed c n (l ∷ ls) h o = ap (λ z. z ++ line_types p c ls) (by_line c l.inst) ∙ go (is_tail_call l.inst) o (lines_typed c n ls h)
    where
      go : (b : Bool) → (if b then 1 else 0) + tail_calls ls ≤ 1 → (tail_calls ls ≤ 1 → line_types p c ls ≡ enumerate_from n (repeated (tail_calls ls) ts)) → (if b then typed_results p c 0 p.site.results else []) ++ line_types p c ls ≡ enumerate_from n (repeated ((if b then 1 else 0) + tail_calls ls) ts)
      go false o ih = ih (omega (arith, o)) ∙ ap (λ z. enumerate_from n (repeated z ts)) (omega arith)
      go true o ih =
          let none : tail_calls ls ≡ 0 = omega (arith, o) in
          ap₂ (λ x y. x ++ y) (here c n h) (ih (omega (arith, o)) ∙ ap (λ z. enumerate_from n (repeated z ts)) none)
          ∙ (append-nil (enumerate_from n ts)
          ∙ ap (enumerate_from n) (sym (append-nil ts) ∙ ap (λ z. repeated z ts) (let q : 1 ≡ 1 + tail_calls ls = omega (arith, none) in q)))

  pub blocks_typed : (starts : List ℕ) (n : ℕ) (bs : List Block) → ((c j : ℕ) → p.naming.new_value c j ≡ get_or starts c 0 + j) → map (λ b. get_or starts b 0) (block_numbers bs) ≡ starts_along n (length ts) bs → OneTail bs → new_types p bs ≡ enumerate_from n (repeated (tail_calls_in bs) ts)
  blocks_typed starts n [] h e o = refl
  blocks_typed starts n (b ∷ bs) h e o =
      let first : get_or starts b.number 0 ≡ n = cc in
      let rest : map (λ k. get_or starts k 0) (block_numbers bs) ≡ starts_along (n + length ts * tail_calls b.lines) (length ts) bs = cc in
      let m = repeated_length (tail_calls b.lines) ts in
      ap₂ (λ x y. x ++ y) (lines_typed b.number n b.lines (λ j. h b.number j ∙ ap (λ (z : ℕ). z + j) first) o.0) (blocks_typed starts (n + length ts * tail_calls b.lines) bs h rest o.1)
      ∙ (enumerate_join n (n + length ts * tail_calls b.lines) (repeated (tail_calls b.lines) ts) (repeated (tail_calls_in bs) ts) (omega (arith, m))
      ∙ ap (enumerate_from n) (sym (repeated_sum (tail_calls b.lines) (tail_calls_in bs) (tail_calls b.lines + tail_calls_in bs) ts refl)))
