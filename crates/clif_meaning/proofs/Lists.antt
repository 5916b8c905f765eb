-- Members of lists and what stands at their places.
use Rattle.std.proofs.Common.{◌≡◌, ℕ, List, [], ◌∷◌, ◌++◌, length, slice_get, Some, map, refl, sym, ◌∙◌, inl, inr}
use Rattle.std.specs.Prelude.{flat_map}
use Rattle.std.specs.List.{enumerate_from}
use Rattle.std.proofs.lemmas.List.{length-map}
use Rattle.std.proofs.lemmas.List.FromFn.{length-enumerate_from}
use Rattle.ir_core.specs.Lists.{In}
use Rattle.ir_core.proofs.Members.{in_left, in_right}

pub in_flat_in : {A B : Type 0} (f : A → List B) (xs : List A) (x : A) (b : B) → In x xs → In b (f x) → In b (flat_map f xs)
in_flat_in f [] x b i j = absurd i
in_flat_in f (y ∷ ys) x b (inl e) j = in_left b (f y) (flat_map f ys) (rw (sym e) j)
in_flat_in f (y ∷ ys) x b (inr i) j = in_right b (f y) (flat_map f ys) (in_flat_in f ys x b i j)

pub get_seam : {A : Type 0} (xs : List A) (y : A) (ys : List A) → slice_get (xs ++ y ∷ ys) (length xs) ≡ Some y
get_seam [] y ys = refl
get_seam (x ∷ xs) y ys = get_seam xs y ys

-- as many as the elements, where each is made of an element and its number
pub numbered_long : {A B : Type 0} (f : ℕ × A → B) (k : ℕ) (xs : List A) → length (map f (enumerate_from k xs)) ≡ length xs
numbered_long f k xs = length-map (enumerate_from k xs) f ∙ length-enumerate_from k xs
