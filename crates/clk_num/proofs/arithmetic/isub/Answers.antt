use Rattle.std.proofs.Common.{◌∙◌, ◌<◌, ◌^◌}
use Rattle.clk_num.specs.Width.{bits_of}
use Rattle.clk_num.proofs.ArithmeticLemmas.{value_is, isub_is}
use Rattle.clk_num.proofs.arithmetic.isub.Goals as goal

pub returns : goal.returns
returns c =
    let below : c.args.y.value < 2 ^ bits_of c.args.x.width = rw c.requires c.args.y.in_range in
    value_is _ _ _ _ c.new.ensures.width (c.new.ensures.value ∙ isub_is _ _ _ below)
