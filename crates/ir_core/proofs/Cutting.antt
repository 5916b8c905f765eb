-- A list cut at one of its places.
use Rattle.std.proofs.Common.{◌≡◌, ℕ, zero, suc, List, [], ◌∷◌, ◌++◌, take, drop, Some, ap}
use Rattle.std.specs.Prelude.{slice_get}
use Rattle.ir_core.specs.Module.{Line}

pub cut_list : (ls : List Line) (i : ℕ) (l : Line) → slice_get ls i ≡ Some l → ls ≡ take i ls ++ (l ∷ drop (suc i) ls)
cut_list [] i l e = cc
cut_list (x ∷ ls) zero l e = let q : x ≡ l = cc in ap (λ z. z ∷ ls) q
cut_list (x ∷ ls) (suc i) l e = ap (λ z. x ∷ z) (cut_list ls i l e)
