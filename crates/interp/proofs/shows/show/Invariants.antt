use Rattle.std.proofs.Common.{◌≡◌, Some, map, take}
use Rattle.ir_semantics.specs.Step as step
use Rattle.interp.specs.Outcome.{shown_of}
use Rattle.interp.specs.State.{waits_of}
use Rattle.interp.proofs.shows.show.Given as goal

abbrev pub invariant-waits : goal.invariant-waits
invariant-waits l = Some (map shown_of l.out.items) ≡ step.shown (waits_of l.program.module.now (take l.wait-index l.below))
