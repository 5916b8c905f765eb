use Rattle.std.proofs.Common.{◌∙◌, ap, map, arith}
use Rattle.std.proofs.lemmas.List.{take_all}
use Rattle.interp.specs.Outcome.{event_of}
use Rattle.ir_text.specs.TextTree.{spelled}
use Rattle.program_run.specs.RunText.{event_text}
use Rattle.filetest.proofs.Ends.{twice}
use Rattle.filetest.proofs.runs.event_lines.Goals as goal

pub returns : goal.returns
returns c = c.loop-i.invariant ∙ (ap (map (λ e. spelled (event_text (event_of e)))) (take_all c.loop-i.i c.args.events.now (omega (arith, c.loop-i-test.false))) ∙ twice c.args.events.now)
