-- Members of a list and their places.
use Rattle.std.proofs.Common.{◌≡◌, inl, inr, ℕ, zero, suc, ◌<◌, List, [], ◌∷◌, length, get_or, refl, sym, arith}
use Rattle.ir_core.specs.Lists.{In}

pub in_at : (xs : List ℕ) (k : ℕ) → k < length xs → In (get_or xs k 0) xs
in_at [] k l = absurd (omega (arith, l))
in_at (x ∷ xs) zero l = inl refl
in_at (x ∷ xs) (suc k) l = inr (in_at xs k (omega (arith, l)))

pub at_in : (x : ℕ) (xs : List ℕ) → In x xs → (k : ℕ) × (k < length xs) × (get_or xs k 0 ≡ x)
at_in x [] i = elim i [ ]
at_in x (y ∷ ys) (inl e) = (0, omega arith, sym e)
at_in x (y ∷ ys) (inr i) = let r = at_in x ys i in let l = r.1 in (suc r.0, omega (arith, l), r.2)
