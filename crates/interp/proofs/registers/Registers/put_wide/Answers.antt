use Rattle.std.proofs.Common.{◌∙◌, ap, refl}
use Rattle.clk_num.specs.Operations.{value_of}
use Rattle.ir_semantics.specs.Values.{put}
use Rattle.interp.proofs.Standing.{set_wide}
use Rattle.interp.proofs.registers.Registers.put_wide.Goals as goal

pub returns : goal.returns
returns c = set_wide c.make_room.new.self.narrow.items c.args.at _ _ c.make_room.new.self.wide c.put.new.self c.in_ok-make_room.ensures.room refl c.in_ok-put.ensures.ok ∙ ap (λ e. put e c.args.at (value_of c.args.width c.args.value)) c.in_ok-make_room.ensures.same
