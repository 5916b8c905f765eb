use Rattle.inline_finish.specs.Building.{policy_of}
use Rattle.std.proofs.lemmas.Result.{on_ok_weaker}
use Rattle.std.proofs.Common.{map}
use Rattle.test_directives.specs.Views.{command_of, function_of}
use Rattle.filetest.proofs.PassChecks.{lines_told, outputs_told}
use Rattle.filetest.proofs.inlining.check_inlined.Goals as goal

pub returns-then-precise : goal.returns-then-precise
returns-then-precise c = on_ok_weaker _ (outputs_told (policy_of c.args.policy) c.args.checked.now c.module-module.result.now c.in_ok-passed.passed.module (map function_of c.args.tests.now) c.in_ok-passed.ensures.finished c.module-module.ensures.same
    c.args.out.now c.check_outputs.new.out (command_of c.args.command.now) c.args.precise c.as_slice.result.now c.in_ok-passed.passed.inlined_by_function.items c.as_slice.ensures.value c.in_ok-passed.ensures.by_function c.if-precise.true) c.check_outputs.ensures

pub returns : goal.returns
returns c = on_ok_weaker _ (lines_told (policy_of c.args.policy) c.args.checked.now c.module-module.result.now c.in_ok-passed.passed.module (map function_of c.args.tests.now) c.in_ok-passed.ensures.finished c.module-module.ensures.same
    c.args.out.now c.check_lines.new.out (command_of c.args.command.now) c.args.precise c.if-precise.false) c.check_lines.ensures
