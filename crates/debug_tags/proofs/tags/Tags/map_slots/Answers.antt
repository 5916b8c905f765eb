use Rattle.std.proofs.Common.{arith}
use Rattle.std.proofs.lemmas.Grind.{common_steps}
use Rattle.std.proofs.lemmas.List.Edits.{map_over_more}
use Rattle.debug_tags.specs.Tags.{moved}
use Rattle.debug_tags.proofs.tags.Tags.map_slots.Goals as goal

pub loop-tag-preserved : goal.loop-tag-preserved
loop-tag-preserved c = grind (arith, common_steps, map_over_more (moved c.args.by))
