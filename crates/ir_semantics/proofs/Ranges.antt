-- Numbers that follow one another: how many they are, which they are, and that each comes once.
use Rattle.std.proofs.Common.{◌≡◌, ℕ, zero, suc, ◌+◌, ◌<◌, ◌≤◌, inl, inr, List, length, refl, ap, arith}
use Rattle.std.proofs.lemmas.Bool.{cases_eq}
use Rattle.ir_core.specs.Lists.{In, Different}
use Rattle.ir_semantics.specs.Splice.{from}

pub length_from : (i n : ℕ) → length (from i n) ≡ n
length_from i zero = refl
length_from i (suc n) = ap suc (length_from (suc i) n)

pub from_in : (k n u : ℕ) → In u (from k n) → (k ≤ u) × (u < k + n)
from_in k zero u i = elim i [ ]
from_in k (suc n) u (inl e) = (omega (arith, e), omega (arith, e))
from_in k (suc n) u (inr i) = let h = from_in (suc k) n u i in let a = h.0 in let b = h.1 in (omega (arith, a), omega (arith, b))

pub in_from : (k n v : ℕ) → k ≤ v → v < k + n → In v (from k n)
in_from k zero v low high = absurd (omega (arith, low, high))
in_from k (suc n) v low high = elim (cases_eq v k) [
  | inl e ↦ inl e
  | inr e ↦ inr (in_from (suc k) n v (omega (arith, low, e)) (omega (arith, high)))
]

pub from_differ : (k n : ℕ) → Different (from k n)
from_differ k zero = tt
from_differ k (suc n) = (λ i. let h = (from_in (suc k) n k i).0 in omega (arith, h), from_differ (suc k) n)
