-- Walks over lists by a place: what is left equals the whole.
use Rattle.std.proofs.Common.{◌≡◌, ℕ, ◌+◌, ◌-◌, ◌<◌, List, length, drop, Some, None, Bool, true, false, ◌&&◌, sym, ap, ◌∙◌, arith}
use Rattle.std.specs.Prelude.{slice_get}
use Rattle.std.specs.List.{list_all}
use Rattle.std.proofs.lemmas.Option.{slice_get_within}
use Rattle.avail_flow.proofs.Listing.{left_past}
use Rattle.ir_core.proofs.Gets.{next_left}

step_all : {A : Type 0} (p : A → Bool) (xs : List A) (i : ℕ) (x : A) → slice_get xs i ≡ Some x → list_all p (drop i xs) ≡ (p x && list_all p (drop (i + 1) xs))
step_all p xs i x at = ap (list_all p) (next_left xs i x at)

pub all_more : {A : Type 0} (p : A → Bool) (xs : List A) (i : ℕ) (x : A) (whole : Bool) → slice_get xs i ≡ Some x → p x ≡ true → list_all p (drop i xs) ≡ whole → list_all p (drop (i + 1) xs) ≡ whole
all_more p xs i x whole at good e = sym (ap (λ (b : Bool). b && list_all p (drop (i + 1) xs)) good) ∙ (sym (step_all p xs i x at) ∙ e)

pub all_fails : {A : Type 0} (p : A → Bool) (xs : List A) (i : ℕ) (x : A) (whole : Bool) → slice_get xs i ≡ Some x → p x ≡ false → list_all p (drop i xs) ≡ whole → false ≡ whole
all_fails p xs i x whole at bad e = sym (ap (λ (b : Bool). b && list_all p (drop (i + 1) xs)) bad) ∙ (sym (step_all p xs i x at) ∙ e)

pub all_done : {A : Type 0} (p : A → Bool) (xs : List A) (i : ℕ) (whole : Bool) → slice_get xs i ≡ None → list_all p (drop i xs) ≡ whole → true ≡ whole
all_done p xs i whole at e = sym (ap (list_all p) (left_past xs i at)) ∙ e

pub fewer : {A : Type 0} (xs : List A) (i : ℕ) (x : A) → slice_get xs i ≡ Some x → length xs - (i + 1) < length xs - i
fewer xs i x at = let l = slice_get_within xs i x at in omega arith
