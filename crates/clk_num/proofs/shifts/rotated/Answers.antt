use Rattle.std.proofs.Common.{◌∙◌}
use Rattle.clk_num.proofs.ShiftLemmas.{rotated_is}
use Rattle.clk_num.proofs.shifts.rotated.Goals as goal

pub returns-else-up-eq0-clause-value : goal.returns-else-up-eq0-clause-value
returns-else-up-eq0-clause-value c = c.new.ensures.value ∙ rotated_is _ _ _ _ c.args.x.in_range c.requires c.bits.ensures
