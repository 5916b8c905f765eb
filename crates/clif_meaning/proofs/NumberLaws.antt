-- A number that is wrapped to a width is below the power of it.
use Rattle.std.proofs.Common.{ℕ, ◌^◌, ◌<◌, arith}
use Rattle.std.specs.Prelude.{ℤ, pos, negsuc}
use Rattle.std.proofs.lemmas.Nat.{mod_below, pow_pos}
use Rattle.clk_num.specs.Numbers.{wrapped}

pub wrapped_below : (b : ℕ) (z : ℤ) → wrapped b z < 2 ^ b
unfolding wrapped
wrapped_below b (pos n) = mod_below n (2 ^ b) (pow_pos b)
wrapped_below b (negsuc n) = let some = pow_pos b in omega (arith, some)
