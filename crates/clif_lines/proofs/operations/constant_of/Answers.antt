use Rattle.std.proofs.Common.{◌≡◌, ◌%◌, ◌^◌, ap, ap₂, ◌∙◌}
use Rattle.clk_num.specs.declared.width.Width.{Width}
use Rattle.clk_num.specs.Numbers.{wrapped}
use Rattle.clk_num.specs.Operations.{value_of}
use Rattle.clk_num.specs.Width.{bits_of}
use Rattle.clk_num.proofs.Numbers.{cut_from_code}
use Rattle.ir_core.specs.Lookup.{width_of}
use Rattle.clif_lines.proofs.operations.constant_of.Goals as goal

pub returns : goal.returns
returns c =
    let w : c.new.result.width ≡ width_of c.args.ty = c.new.ensures.width ∙ c.width.ensures in
    let v : c.new.result.value ≡ wrapped (bits_of (width_of c.args.ty)) c.args.number =
    c.new.ensures.value ∙ ap (λ (x : Width). c.cast_unsigned.result % 2 ^ bits_of x) c.width.ensures
    ∙ cut_from_code (width_of c.args.ty) c.args.number c.cast_unsigned.result c.ranges.number c.cast_unsigned.ensures in
    ap₂ value_of w v
