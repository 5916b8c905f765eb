use Rattle.std.proofs.Common.{true, ◌≡◌}
use Rattle.std.proofs.lemmas.Bool.{false≢true}
use Rattle.clk_num.specs.declared.op.Op.{Op}
use Rattle.clk_num.specs.declared.op.Op.TheVariants.{Ineg, Bnot, Iabs, Clz, Ctz, Popcnt, Bitrev, Bswap, Uextend, Sextend, Ireduce, Isplit}
use Rattle.clk_num.specs.declared.width.Width.{Width}
use Rattle.clk_num.specs.Width.{narrower, half}
use Rattle.clk_num.specs.Rows.{row, from_16}
use Rattle.clk_num.specs.Operations.{meaning}
use Rattle.std.specs.Prelude.{[], ◌∷◌}
use Rattle.clk_num.proofs.RowLemmas.{means, single, pair, fits_at, fits_one, wide_is, narrower_is, is_unary, unary_arm}
use Rattle.clk_num.proofs.operations.unary.Goals as goal

pub returns-in-Ineg : goal.returns-in-Ineg
unfolding meaning
returns-in-Ineg c = means _ Ineg _ _ c.in-Ineg.is (single _ _ c.ineg.ensures)

pub returns-in-Bnot : goal.returns-in-Bnot
unfolding meaning
returns-in-Bnot c = means _ Bnot _ _ c.in-Bnot.is (single _ _ c.bnot.ensures)

pub returns-in-Iabs : goal.returns-in-Iabs
unfolding meaning
returns-in-Iabs c = means _ Iabs _ _ c.in-Iabs.is (single _ _ c.iabs.ensures)

pub returns-in-Clz : goal.returns-in-Clz
unfolding meaning
returns-in-Clz c = means _ Clz _ _ c.in-Clz.is (single _ _ c.clz.ensures)

pub returns-in-Ctz : goal.returns-in-Ctz
unfolding meaning
returns-in-Ctz c = means _ Ctz _ _ c.in-Ctz.is (single _ _ c.ctz.ensures)

pub returns-in-Popcnt : goal.returns-in-Popcnt
unfolding meaning
returns-in-Popcnt c = means _ Popcnt _ _ c.in-Popcnt.is (single _ _ c.popcnt.ensures)

pub returns-in-Bitrev : goal.returns-in-Bitrev
unfolding meaning
returns-in-Bitrev c = means _ Bitrev _ _ c.in-Bitrev.is (single _ _ c.bitrev.ensures)

pub returns-in-Bswap : goal.returns-in-Bswap
unfolding meaning
returns-in-Bswap c = means _ Bswap _ _ c.in-Bswap.is (single _ _ c.bswap.ensures)

pub returns-in-Uextend : goal.returns-in-Uextend
unfolding meaning
returns-in-Uextend c = means _ (Uextend c.in-Uextend.target) _ _ c.in-Uextend.is (single _ _ c.uextend.ensures)

pub returns-in-Sextend : goal.returns-in-Sextend
unfolding meaning
returns-in-Sextend c = means _ (Sextend c.in-Sextend.target) _ _ c.in-Sextend.is (single _ _ c.sextend.ensures)

pub returns-in-Ireduce : goal.returns-in-Ireduce
unfolding meaning
returns-in-Ireduce c = means _ (Ireduce c.in-Ireduce.target) _ _ c.in-Ireduce.is (single _ _ c.ireduce.ensures)

pub returns-in-Isplit : goal.returns-in-Isplit
unfolding meaning
returns-in-Isplit c = means _ Isplit _ _ c.in-Isplit.is (pair _ _ _ _ c.low_half.ensures c.high_half.ensures)

pub uextend-requires : goal.uextend-requires
unfolding row
uextend-requires c =
    narrower_is _ _ (fits_one (λ (t : Width). narrower t c.in-Uextend.target) (λ (t : Width). c.in-Uextend.target ∷ []) c.args.x.width
    (fits_at _ (Uextend c.in-Uextend.target) _ c.in-Uextend.is c.requires))

pub low_half-requires : goal.low_half-requires
unfolding row
low_half-requires c =
    wide_is _ (fits_one from_16 (λ (t : Width). half t ∷ half t ∷ []) c.args.x.width (fits_at _ Isplit _ c.in-Isplit.is c.requires))

pub high_half-requires : goal.high_half-requires
unfolding row
high_half-requires c =
    wide_is _ (fits_one from_16 (λ (t : Width). half t ∷ half t ∷ []) c.args.x.width (fits_at _ Isplit _ c.in-Isplit.is c.requires))

pub unreachable-requires : goal.unreachable-requires
unreachable-requires c = unary_arm _ _ c.requires (λ (o : Op). elim o as (λ (o : Op). is_unary o ≡ true → c.args.op ≡ o → ⊥) [
  | Ineg ↦ λ _. c.in_default.not-Ineg
  | Bnot ↦ λ _. c.in_default.not-Bnot
  | Iabs ↦ λ _. c.in_default.not-Iabs
  | Clz ↦ λ _. c.in_default.not-Clz
  | Ctz ↦ λ _. c.in_default.not-Ctz
  | Popcnt ↦ λ _. c.in_default.not-Popcnt
  | Bitrev ↦ λ _. c.in_default.not-Bitrev
  | Bswap ↦ λ _. c.in_default.not-Bswap
  | Uextend target ↦ λ _. c.in_default.not-Uextend target
  | Sextend target ↦ λ _. c.in_default.not-Sextend target
  | Ireduce target ↦ λ _. c.in_default.not-Ireduce target
  | Isplit ↦ λ _. c.in_default.not-Isplit
  | _ ↦ λ h. absurd (false≢true h)
])
