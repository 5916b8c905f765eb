-- What the elements of a list give.
use Rattle.std.proofs.Common.{List, [], ◌∷◌, sym, subst, inl, inr}
use Rattle.std.specs.Prelude.{flat_map}
use Rattle.ir_core.specs.Lists.{In, Each}
use Rattle.ir_core.proofs.Members.{each_left, each_right}

-- what holds of each that the elements give holds of each that one of them gives
pub each_given : {A B : Type 0} (P : B → Type 0) (f : A → List B) (xs : List A) → Each P (flat_map f xs) → (x : A) → In x xs → Each P (f x)
each_given P f [] h x i = absurd i
each_given P f (y ∷ ys) h x (inl e) = subst (λ z. Each P (f z)) (sym e) (each_left P (f y) (flat_map f ys) h)
each_given P f (y ∷ ys) h x (inr i) = each_given P f ys (each_right P (f y) (flat_map f ys) h) x i
