use Rattle.std.proofs.Common.{◌≡◌, take, map}
use Rattle.interp.specs.Outcome.{event_of}
use Rattle.ir_text.specs.TextTree.{spelled}
use Rattle.program_run.specs.RunText.{event_text}
use Rattle.filetest.proofs.runs.event_lines.Given as goal

abbrev pub invariant-loop-i : goal.invariant-loop-i
invariant-loop-i l = map (λ x. x.items) l.found.items ≡ map (λ e. spelled (event_text (event_of e))) (take l.i l.events)
