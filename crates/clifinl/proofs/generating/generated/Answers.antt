use Rattle.std.proofs.Common.{subst}
use Rattle.ir_core.specs.Module.{Module}
use Rattle.settings.specs.Shown.{inline_shown}
use Rattle.clifinl.specs.GenCommand.{summary_of, summary_text}
use Rattle.clifinl.specs.InlineCommand.{policy_of}
use Rattle.clifinl.specs.Runs.{Wrote}
use Rattle.clifinl.proofs.generating.generated.Goals as goal

pub returns-clause-wrote : goal.returns-clause-wrote
returns-clause-wrote g c =
    let wrote = g.O.Sink.written in let faults = g.O.Sink.faults in
    let told = subst (λ (m : Module). Wrote (summary_text (summary_of (policy_of (inline_shown c.args.options.now.pass)) m)) (wrote c.args.out.now) (wrote c.write_passed.new.out) (faults c.args.out.now) (faults c.write_passed.new.out) c.write_passed.result)
    c.in-Ok.ensures.«module» c.write_passed.ensures.wrote in
    rw c.if-options.false told
