use Rattle.std.proofs.Common.{◌∙◌, ap, refl}
use Rattle.clk_num.specs.Operations.{value_of}
use Rattle.clk_num.proofs.ArithmeticLemmas.{value_is, iabs_low, iabs_high}
use Rattle.clk_num.proofs.arithmetic.iabs.Goals as goal

pub returns-then-x-greatest_signed : goal.returns-then-x-greatest_signed
returns-then-x-greatest_signed c = value_is _ _ _ _ refl (iabs_low _ _ _ c.greatest_signed.ensures c.if-x-greatest_signed.true)

pub returns-else-x-greatest_signed : goal.returns-else-x-greatest_signed
returns-else-x-greatest_signed c = c.ineg.ensures ∙ ap (value_of c.args.x.width) (iabs_high _ _ _ c.greatest_signed.ensures c.if-x-greatest_signed.false c.args.x.in_range)
