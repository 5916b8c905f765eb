-- Products that stop at the greatest number.
use Rattle.std.proofs.Common.{◌≡◌, ℕ, zero, suc, ◌+◌, ◌*◌, refl, ◌∙◌, arith}
use Rattle.std.proofs.Math.Nat.{mul-suc, suc-mul}
use Rattle.ir_core.specs.Size.{capped}

pub capped_times : (a n : ℕ) → capped (capped a * n) ≡ capped (a * n)
capped_times a zero = omega arith
capped_times a (suc n) = by (capped a) (capped a * n) (a * n) (capped a * suc n) (a * suc n) (mul-suc (capped a) n) (mul-suc a n) (capped_times a n) refl
  where
    by : (c cn an cs as' : ℕ) → cs ≡ cn + c → as' ≡ an + a → capped cn ≡ capped an → c ≡ capped a → capped cs ≡ capped as'
    by c cn an cs as' e f g h = omega (arith, e, f, g, h)

pub capped_by : (n a : ℕ) → capped (n * capped a) ≡ capped (n * a)
capped_by zero a = omega arith
capped_by (suc n) a = by (capped a) (n * capped a) (n * a) (suc n * capped a) (suc n * a) (suc-mul n (capped a)) (suc-mul n a) (capped_by n a) refl
  where
    by : (c cn an cs as' : ℕ) → cs ≡ cn + c → as' ≡ an + a → capped cn ≡ capped an → c ≡ capped a → capped cs ≡ capped as'
    by c cn an cs as' e f g h = omega (arith, e, f, g, h)

pub capped_both : (a n : ℕ) → capped (capped a * capped n) ≡ capped (a * n)
capped_both a n = capped_times a (capped n) ∙ capped_by a n
