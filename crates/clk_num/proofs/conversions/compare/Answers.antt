use Rattle.std.proofs.Common.{refl, ℤ}
use Rattle.std.specs.Int.RustNames.{int_lt, int_le}
use Rattle.clk_num.specs.declared.op.Cc.TheVariants.{Eq, Ne, Slt, Sge, Sgt, Sle, Ult, Uge, Ugt, Ule}
use Rattle.clk_num.specs.Operations.{holds}
use Rattle.clk_num.proofs.ArithmeticLemmas.{signed_test}
use Rattle.clk_num.proofs.ConversionLemmas.{held}
use Rattle.clk_num.proofs.conversions.compare.Goals as goal

pub returns-in-Eq : goal.returns-in-Eq
unfolding holds
returns-in-Eq c = held _ Eq _ _ _ _ c.in-Eq.is refl

pub returns-in-Ne : goal.returns-in-Ne
unfolding holds
returns-in-Ne c = held _ Ne _ _ _ _ c.in-Ne.is refl

pub returns-in-Ult : goal.returns-in-Ult
unfolding holds
returns-in-Ult c = held _ Ult _ _ _ _ c.in-Ult.is refl

pub returns-in-Uge : goal.returns-in-Uge
unfolding holds
returns-in-Uge c = held _ Uge _ _ _ _ c.in-Uge.is refl

pub returns-in-Ugt : goal.returns-in-Ugt
unfolding holds
returns-in-Ugt c = held _ Ugt _ _ _ _ c.in-Ugt.is refl

pub returns-in-Ule : goal.returns-in-Ule
unfolding holds
returns-in-Ule c = held _ Ule _ _ _ _ c.in-Ule.is refl

pub returns-in-Slt : goal.returns-in-Slt
unfolding holds
returns-in-Slt c =
    held _ Slt _ _ _ _ c.in-Slt.is
    (signed_test int_lt _ _ _ _ _ _ c.requires c.signed.type_inv c.signed-in-Slt.type_inv c.signed.ensures c.signed-in-Slt.ensures)

pub returns-in-Sge : goal.returns-in-Sge
unfolding holds
returns-in-Sge c =
    held _ Sge _ _ _ _ c.in-Sge.is
    (signed_test (λ (a b : ℤ). int_le b a) _ _ _ _ _ _ c.requires c.signed-in-Sge.type_inv c.signed-in-Sge-2.type_inv c.signed-in-Sge.ensures c.signed-in-Sge-2.ensures)

pub returns-in-Sgt : goal.returns-in-Sgt
unfolding holds
returns-in-Sgt c =
    held _ Sgt _ _ _ _ c.in-Sgt.is
    (signed_test (λ (a b : ℤ). int_lt b a) _ _ _ _ _ _ c.requires c.signed-in-Sgt.type_inv c.signed-in-Sgt-2.type_inv c.signed-in-Sgt.ensures c.signed-in-Sgt-2.ensures)

pub returns-in-Sle : goal.returns-in-Sle
unfolding holds
returns-in-Sle c =
    held _ Sle _ _ _ _ c.in-Sle.is
    (signed_test int_le _ _ _ _ _ _ c.requires c.signed-in-Sle.type_inv c.signed-in-Sle-2.type_inv c.signed-in-Sle.ensures c.signed-in-Sle-2.ensures)
