use Rattle.std.proofs.Common.{length, map}
use Rattle.interp.specs.Outcome.{event_of}
use Rattle.ir_text.specs.TextTree.{spelled}
use Rattle.text_output.proofs.Puts.{Going}
use Rattle.program_run.specs.RunText.{events_text}
use Rattle.program_run.proofs.events.put_events.Given as goal

abbrev pub invariant-events : goal.invariant-events
invariant-events g l = Going g.O.Output.holds l.initial.out l.out (spelled (events_text (map event_of l.rest))) (spelled (events_text (map event_of l.events)))

abbrev pub decreases-events : goal.decreases-events
decreases-events g l = length l.rest
