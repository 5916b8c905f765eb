use Rattle.std.proofs.Common.{subst}
use Rattle.ir_core.specs.Module.{Module}
use Rattle.program_run.specs.EntryName.{IsSpelledEntry}
use Rattle.program_run.proofs.Spelled.{run_of_spelled, refusal_of_spelled}
use Rattle.program_run.proofs.running.run_spelled.Goals as goal

pub returns-clause-outcome : goal.returns-clause-outcome
returns-clause-outcome c =
    let entry = subst (λ (m : Module). IsSpelledEntry m c.args.entry.now c.in-Some.name.now) c.module.ensures.same c.in-Some.ensures in
    run_of_spelled c.args.checked.now c.args.entry.now c.args.args.now c.args.script.now c.args.memory c.args.steps c.in-Some.name.now c.run.result entry c.run.ensures.outcome

pub returns-clause-refused : goal.returns-clause-refused
returns-clause-refused c =
    let entry = subst (λ (m : Module). IsSpelledEntry m c.args.entry.now c.in-Some.name.now) c.module.ensures.same c.in-Some.ensures in
    refusal_of_spelled c.args.checked.now c.args.entry.now c.args.args.now c.in-Some.name.now c.run.result entry c.run.ensures.refused
