use Rattle.std.proofs.Common.{◌≡◌, Some, map, drop}
use Rattle.ir_semantics.specs.Values.{join}
use Rattle.ir_semantics.specs.Step as step
use Rattle.interp.specs.Outcome.{shown_of}
use Rattle.interp.specs.State.{frame_of}
use Rattle.interp.proofs.shows.show_tags.Given as goal

abbrev pub invariant-tags : goal.invariant-tags
invariant-tags l = join (Some (map shown_of l.out.items)) (step.shown_tags (frame_of l.program.module.now l.frame) (drop l.tag-index l.tags)) ≡ join (Some (map shown_of l.fn.out.items)) (step.shown_tags (frame_of l.program.module.now l.frame) l.tags)
