use Rattle.std.proofs.Common.{◌∙◌, ◌<◌, ◌^◌}
use Rattle.clk_num.specs.Width.{bits_of}
use Rattle.clk_num.proofs.ArithmeticLemmas.{value_is}
use Rattle.clk_num.proofs.ConversionLemmas.{iconcat_is}
use Rattle.clk_num.proofs.conversions.iconcat.Goals as goal

pub returns : goal.returns
returns c =
    let below : c.args.y.value < 2 ^ bits_of c.args.x.width = rw c.requires.same c.args.y.in_range in
    value_is _ _ _ _ (c.new.ensures.width ∙ c.double.ensures)
    (c.new.ensures.value ∙ iconcat_is _ _ _ _ _ c.requires.narrow c.args.x.in_range below c.bits.ensures c.double.ensures)
