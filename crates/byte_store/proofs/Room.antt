-- A cell read, after more room and after a write.
use Rattle.std.proofs.Common.{◌≡◌, ℕ, zero, suc, ◌<◌, ◌≤◌, List, [], ◌∷◌, ◌++◌, length, Option, Some, None, get_or, set, refl, arith, if◌then◌else◌, nat_eq, ap, sym, ◌∙◌}
use Rattle.std.proofs.Math.Dec.{eqb-suc-zero, eqb-zero-suc, eqb-suc-suc}
use Rattle.std.proofs.Math.Path.{fun_ext}
use Rattle.std.specs.Prelude.{Result, Ok, Err, OnErr}
use Rattle.byte_store.specs.Cells.{cell_of, put_cell}

pub cell_within : {A : Type 0} → (xs : List (Option A)) (i : ℕ) (d : Option A) → i < length xs → get_or xs i d ≡ cell_of xs i
cell_within [] i d h = absurd (omega arith)
cell_within (x ∷ xs) zero d h = refl
cell_within (x ∷ xs) (suc i) d h = cell_within xs i d (omega arith)

pub cell_past : {A : Type 0} → (xs : List (Option A)) (i : ℕ) → length xs ≤ i → cell_of xs i ≡ None
cell_past [] i h = refl
cell_past (x ∷ xs) zero h = absurd (omega arith)
cell_past (x ∷ xs) (suc i) h = cell_past xs i (omega arith)

cell_more : {A : Type 0} → (xs : List (Option A)) (v : ℕ) → cell_of (xs ++ None ∷ []) v ≡ cell_of xs v
cell_more [] zero = refl
cell_more [] (suc v) = refl
cell_more (x ∷ xs) zero = refl
cell_more (x ∷ xs) (suc v) = cell_more xs v

pub more_room : {A : Type 0} → (xs : List (Option A)) → cell_of (xs ++ None ∷ []) ≡ cell_of xs
more_room xs = fun_ext (λ v. cell_more xs v)

pub cell_set : {A : Type 0} → (xs : List (Option A)) (i : ℕ) (x : A) → i < length xs → (v : ℕ) → cell_of (set xs i (Some x)) v ≡ (if nat_eq v i then Some x else cell_of xs v)
cell_set [] i x h v = absurd (omega arith)
cell_set (y ∷ ys) zero x h zero = refl
cell_set (y ∷ ys) zero x h (suc v) = ap (λ c. if c then Some x else cell_of ys v) (sym (eqb-suc-zero v))
cell_set (y ∷ ys) (suc i) x h zero = ap (λ c. if c then Some x else y) (sym (eqb-zero-suc i))
cell_set (y ∷ ys) (suc i) x h (suc v) = cell_set ys i x (omega arith) v ∙ ap (λ c. if c then Some x else cell_of ys v) (sym (eqb-suc-suc v i))

pub set_is_put : {A : Type 0} → (xs : List (Option A)) (i : ℕ) (x : A) → i < length xs → cell_of (set xs i (Some x)) ≡ put_cell (cell_of xs) i x
set_is_put xs i x h = fun_ext (λ v. cell_set xs i x h v)

-- what holds in any case holds of an error
pub on_err : {T E : Type 0} (r : Result T E) (P : Type 0) → P → OnErr r P
on_err (Ok x) P p = tt
on_err (Err e) P p = p
