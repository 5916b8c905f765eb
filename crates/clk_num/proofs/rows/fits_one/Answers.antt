use Rattle.std.proofs.Common.{refl, true, ◌≡◌, ap, ap₂, ℕ, ltb, leb}
use Rattle.std.proofs.lemmas.Bool.{false≢true}
use Rattle.clk_num.specs.declared.op.Op.{Op}
use Rattle.clk_num.specs.declared.op.Op.TheVariants.{Ineg, Bnot, Iabs, Clz, Ctz, Popcnt, Bitrev, Bswap, Uextend, Sextend, Ireduce, Isplit}
use Rattle.clk_num.specs.declared.width.Width.{Width}
use Rattle.clk_num.specs.Width.{narrower, half}
use Rattle.clk_num.specs.Rows.{row, from_16}
use Rattle.std.specs.Prelude.{[], ◌∷◌}
use Rattle.clk_num.proofs.RowLemmas.{row_at, one_has, without_row, is_unary, unary_arm}
use Rattle.clk_num.proofs.rows.fits_one.Goals as goal

pub returns-in-Ineg : goal.returns-in-Ineg
unfolding row
returns-in-Ineg c = row_at _ Ineg _ _ c.in-Ineg.is refl

pub returns-in-Bnot : goal.returns-in-Bnot
unfolding row
returns-in-Bnot c = row_at _ Bnot _ _ c.in-Bnot.is refl

pub returns-in-Iabs : goal.returns-in-Iabs
unfolding row
returns-in-Iabs c = row_at _ Iabs _ _ c.in-Iabs.is refl

pub returns-in-Clz : goal.returns-in-Clz
unfolding row
returns-in-Clz c = row_at _ Clz _ _ c.in-Clz.is refl

pub returns-in-Ctz : goal.returns-in-Ctz
unfolding row
returns-in-Ctz c = row_at _ Ctz _ _ c.in-Ctz.is refl

pub returns-in-Popcnt : goal.returns-in-Popcnt
unfolding row
returns-in-Popcnt c = row_at _ Popcnt _ _ c.in-Popcnt.is refl

pub returns-in-Bitrev : goal.returns-in-Bitrev
unfolding row
returns-in-Bitrev c = row_at _ Bitrev _ _ c.in-Bitrev.is refl

pub returns-in-Bswap : goal.returns-in-Bswap
unfolding row
returns-in-Bswap c = row_at _ Bswap _ _ c.in-Bswap.is (one_has from_16 (λ (t : Width). t ∷ []) _ _ (ap (λ (n : ℕ). leb 16 n) c.bits.ensures))

pub returns-in-Uextend : goal.returns-in-Uextend
unfolding row
returns-in-Uextend c = row_at _ (Uextend c.in-Uextend.target) _ _ c.in-Uextend.is (one_has (λ (t : Width). narrower t c.in-Uextend.target) (λ (t : Width). c.in-Uextend.target ∷ []) _ _ (ap₂ ltb c.bits-in-Uextend.ensures c.bits-in-Uextend-2.ensures))

pub returns-in-Sextend : goal.returns-in-Sextend
unfolding row
returns-in-Sextend c = row_at _ (Sextend c.in-Sextend.target) _ _ c.in-Sextend.is (one_has (λ (t : Width). narrower t c.in-Sextend.target) (λ (t : Width). c.in-Sextend.target ∷ []) _ _ (ap₂ ltb c.bits-in-Sextend.ensures c.bits-in-Sextend-2.ensures))

pub returns-in-Ireduce : goal.returns-in-Ireduce
unfolding row
returns-in-Ireduce c = row_at _ (Ireduce c.in-Ireduce.target) _ _ c.in-Ireduce.is (one_has (λ (t : Width). narrower c.in-Ireduce.target t) (λ (t : Width). c.in-Ireduce.target ∷ []) _ _ (ap₂ ltb c.bits-in-Ireduce.ensures c.bits-in-Ireduce-2.ensures))

pub returns-in-Isplit : goal.returns-in-Isplit
unfolding row
returns-in-Isplit c = row_at _ Isplit _ _ c.in-Isplit.is (one_has from_16 (λ (t : Width). half t ∷ half t ∷ []) _ _ (ap (λ (n : ℕ). leb 16 n) c.bits-in-Isplit.ensures))

pub returns-in_default : goal.returns-in_default
returns-in_default c = without_row _ _ (λ h. unary_arm _ _ h (λ (o : Op). elim o as (λ (o : Op). is_unary o ≡ true → c.args.op ≡ o → ⊥) [
  | Ineg ↦ λ _. c.in_default.not-Ineg
  | Bnot ↦ λ _. c.in_default.not-Bnot
  | Iabs ↦ λ _. c.in_default.not-Iabs
  | Clz ↦ λ _. c.in_default.not-Clz
  | Ctz ↦ λ _. c.in_default.not-Ctz
  | Popcnt ↦ λ _. c.in_default.not-Popcnt
  | Bitrev ↦ λ _. c.in_default.not-Bitrev
  | Bswap ↦ λ _. c.in_default.not-Bswap
  | Uextend target ↦ λ _. c.in_default.not-Uextend target
  | Sextend target ↦ λ _. c.in_default.not-Sextend target
  | Ireduce target ↦ λ _. c.in_default.not-Ireduce target
  | Isplit ↦ λ _. c.in_default.not-Isplit
  | _ ↦ λ h. absurd (false≢true h)
]))
