-- An address plus an offset.
use Rattle.std.proofs.Common.{◌≡◌, ℕ, suc, ◌+◌, ◌-◌, ◌%◌, ◌^◌, ◌<◌, ℤ, pos, negsuc, refl, arith, ap, ◌∙◌, sym, inl, inr, of_z, FitsSigned}
use Rattle.std.specs.Prelude.{◌+ℤ◌}
use Rattle.std.specs.Int.{w32, w64}
use Rattle.std.proofs.lemmas.Int.{ints}
use Rattle.std.proofs.lemmas.Bool.{cases_lt}
use Rattle.std.proofs.Math.Nat.{mod-eq_of_lt, mod-add-mod, add-mod_right}
use Rattle.clk_num.specs.Numbers.{wrapped}
use Rattle.ir_semantics.specs.Values.{address_at}

wrapped_pos : (n : ℕ) → wrapped 64 (pos n) ≡ n % 2 ^ 64
unfolding wrapped
wrapped_pos n = refl

wrapped_neg : (n : ℕ) → wrapped 64 (negsuc n) ≡ 2 ^ 64 - 1 - n % 2 ^ 64
unfolding wrapped
wrapped_neg n = refl

back : (v k : ℕ) → k < 2 ^ 64 → (v + (2 ^ 64 - suc k)) % 2 ^ 64 ≡ wrapped 64 (pos v +ℤ negsuc k)
back v k small =
    elim (cases_lt k v) [
      | inl h ↦
          let z : (pos v +ℤ negsuc k) ≡ pos (v - suc k) = omega (arith, ints) in
          let e : v + (2 ^ 64 - suc k) ≡ v - suc k + 2 ^ 64 = omega arith in
          rw (z, wrapped_pos (v - suc k), e) (add-mod_right (v - suc k) (2 ^ 64))
      | inr h ↦
          let z : (pos v +ℤ negsuc k) ≡ negsuc (k - v) = omega (arith, ints) in
          let lt : v + (2 ^ 64 - suc k) < 2 ^ 64 = omega arith in
          let lt2 : k - v < 2 ^ 64 = omega arith in
          rw (z, wrapped_neg (k - v), mod-eq_of_lt lt, mod-eq_of_lt lt2) (omega arith)
    ]

pub address_is : (v : ℕ) (z : ℤ) → FitsSigned w32 z → (v % 2 ^ 64 + of_z w64 z) % 2 ^ 64 ≡ address_at v z
unfolding address_at
address_is v (pos n) f = let e : (pos v +ℤ pos n) ≡ pos (v + n) = omega (arith, ints) in mod-add-mod v (2 ^ 64) n ∙ sym (ap (wrapped 64) e ∙ wrapped_pos (v + n))
address_is v (negsuc k) f = let small : k < 2 ^ 31 = f.sfits in mod-add-mod v (2 ^ 64) (2 ^ 64 - suc k) ∙ back v k (omega arith)
