use Rattle.std.proofs.Common.{◌∙◌}
use Rattle.clk_num.proofs.ArithmeticLemmas.{value_is}
use Rattle.clk_num.proofs.ShiftLemmas.{sshr_is}
use Rattle.clk_num.proofs.shifts.sshr.Goals as goal

pub returns : goal.returns
returns c =
    value_is _ _ _ _ c.wrap.ensures.width
    (c.wrap.ensures.value ∙ sshr_is _ _ _ _ _ c.signed.type_inv c.signed.ensures c.amount.ensures.value)
