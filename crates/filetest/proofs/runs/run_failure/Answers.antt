use Rattle.std.proofs.Common.{◌≡◌, ◌∙◌, [], ap, None, true}
use Rattle.std.proofs.lemmas.Result.{IfOk-weaker}
use Rattle.interp.specs.Outcome.{outcome_of}
use Rattle.ir_core.specs.declared.signatures.Sig.{Sig}
use Rattle.ir_core.specs.Lookup.{param_types}
use Rattle.host_script.specs.Script.{replies_of}
use Rattle.test_directives.specs.Views.{run_of}
use Rattle.filetest.specs.Checks.{run_check}
use Rattle.filetest.specs.Ends.{outcome_failure}
use Rattle.filetest.specs.Refusing.{is_of_call}
use Rattle.filetest.specs.Views.{failure_of}
use Rattle.filetest.proofs.RunChecks.{ran_as, refused_as}
use Rattle.filetest.proofs.runs.run_failure.Goals as goal

pub returns-in-Ok : goal.returns-in-Ok
returns-in-Ok c =
    let (args, entry, is) = c.in-Ok.ensures.outcome in
    let test = run_of c.args.test.now in
    let types = param_types c.as_slice.result.now in
    IfOk-weaker c.outcome_failure.result (λ failure. failure_of failure ≡ outcome_failure types test (outcome_of c.in-Ok.outcome)) (λ failure. failure_of failure ≡ (run_check c.args.linked.now test).failure)
    (λ failure h. ran_as c.module-module.result.now c.args.linked.now test c.args.test.now.func c.func-func.result.now.function c.name.result.now c.as_slice-numbers.result.now
    _ c.step_bound.result types args (outcome_of c.in-Ok.outcome) (failure_of failure)
    c.module-module.ensures c.len.ensures.functions.names c.func-func.ensures.at c.requires.placed c.name.ensures.value c.as_slice-numbers.ensures
    (ap (λ z. record { memory = z; replies = replies_of c.args.test.now.script; events = [] }) c.in_ok-memory.ensures) c.step_bound.ensures
    (ap param_types (c.as_slice.ensures ∙ ap (λ (s : Sig). s.results) c.sig.ensures)) entry is h) c.outcome_failure.ensures

pub returns-in-Err : goal.returns-in-Err
returns-in-Err c =
    let test = run_of c.args.test.now in
    IfOk-weaker c.refusal.result (λ failure. (failure_of failure ≡ None) × (is_of_call c.in-Err.err ≡ true)) (λ failure. failure_of failure ≡ (run_check c.args.linked.now test).failure)
    (λ failure h. h.0 ∙ refused_as c.module-module.result.now c.args.linked.now test c.args.test.now.func c.func-func.result.now.function c.name.result.now c.as_slice-numbers.result.now c.in-Err.err
    c.module-module.ensures c.len.ensures.functions.names c.func-func.ensures.at c.requires.placed c.name.ensures.value c.as_slice-numbers.ensures c.in-Err.ensures.refused h.1) c.refusal.ensures
