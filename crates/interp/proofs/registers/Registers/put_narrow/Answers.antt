use Rattle.std.proofs.Common.{◌∙◌, ap, refl}
use Rattle.clk_num.specs.Operations.{value_of}
use Rattle.ir_semantics.specs.Values.{put}
use Rattle.interp.proofs.Standing.{set_narrow}
use Rattle.interp.proofs.registers.Registers.put_narrow.Goals as goal

pub returns : goal.returns
returns c = set_narrow c.make_room.new.self.narrow.items c.args.at _ c.make_room.new.self.wide c.in_ok-make_room.ensures.room refl ∙ ap (λ e. put e c.args.at (value_of c.args.width c.args.value)) c.in_ok-make_room.ensures.same
