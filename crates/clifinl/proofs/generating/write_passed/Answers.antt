use Rattle.std.proofs.Common.{◌∙◌, ap, subst}
use Rattle.settings.specs.Shown.{inline_shown}
use Rattle.clifinl.specs.GenCommand.{Summary, summary_of, summary_text}
use Rattle.clifinl.specs.InlineCommand.{policy_of}
use Rattle.clifinl.specs.Runs.{Wrote}
use Rattle.clifinl.proofs.generating.write_passed.Goals as goal

pub returns-in-Ok-clause-wrote : goal.returns-in-Ok-clause-wrote
returns-in-Ok-clause-wrote g c =
    let wrote = g.O.Sink.written in let faults = g.O.Sink.faults in
    subst (λ (s : Summary). Wrote (summary_text s) (wrote c.args.out.now) (wrote c.write_summary.new.out) (faults c.args.out.now) (faults c.write_summary.new.out) c.write_summary.result)
    (c.in-Ok.ensures ∙ ap (summary_of (policy_of (inline_shown c.args.options.now))) c.of_accepted-checked.ensures)
    c.write_summary.ensures.wrote
