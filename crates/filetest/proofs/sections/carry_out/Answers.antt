use Rattle.std.proofs.Common.{◌∙◌, ap, map, refl}
use Rattle.std.proofs.lemmas.Result.{on_ok_weaker}
use Rattle.ir_text.specs.Text.{function_text_of}
use Rattle.test_directives.specs.Views.{command_of, function_of}
use Rattle.filetest.specs.Outputs.{line_checks}
use Rattle.filetest.proofs.CommandChecks.{carried_as, carried_skipped, on_both, policy_limited}
use Rattle.filetest.proofs.PassChecks.{each_lines}
use Rattle.filetest.proofs.sections.carry_out.Goals as goal

pub returns-in-Cat : goal.returns-in-Cat
returns-in-Cat c = on_ok_weaker _ (carried_as c.args.checked.now (map function_of c.args.tests.now) c.args.faults.now c.args.out.now c.check_lines.new.out (command_of c.args.command.now) _ _
    (ap command_of c.in-Cat.is) refl (ap (λ z. line_checks (map function_text_of z) (map function_of c.args.tests.now)) c.module.ensures.same ∙ each_lines function_text_of c.args.checked.now (map function_of c.args.tests.now))) c.check_lines.ensures

pub returns-in-Verifier : goal.returns-in-Verifier
returns-in-Verifier c = on_ok_weaker _ (carried_as c.args.checked.now (map function_of c.args.tests.now) c.args.faults.now c.args.out.now c.check_faults.new.out (command_of c.args.command.now) _ _
    (ap command_of c.in-Verifier.is) refl refl) c.check_faults.ensures

pub returns-in-Interpret : goal.returns-in-Interpret
returns-in-Interpret c = on_ok_weaker _ (carried_as c.args.checked.now (map function_of c.args.tests.now) c.args.faults.now c.args.out.now c.check_runs.new.out (command_of c.args.command.now) _ _
    (ap command_of c.in-Interpret.is) refl refl) c.check_runs.ensures

pub returns-in-Run : goal.returns-in-Run
returns-in-Run c = on_ok_weaker _ (carried_as c.args.checked.now (map function_of c.args.tests.now) c.args.faults.now c.args.out.now c.check_runs-in-Run.new.out (command_of c.args.command.now) _ _
    (ap command_of c.in-Run.is) refl refl) c.check_runs-in-Run.ensures

pub check_inlined-requires : goal.check_inlined-requires
check_inlined-requires c = record { limited = policy_limited _ (command_of c.args.command.now) _ (ap command_of c.in-Inline.is) refl refl c.requires.limited }

pub returns-in-Inline : goal.returns-in-Inline
returns-in-Inline c = on_ok_weaker _ (carried_as c.args.checked.now (map function_of c.args.tests.now) c.args.faults.now c.args.out.now c.check_inlined.new.out (command_of c.args.command.now) _ _
    (ap command_of c.in-Inline.is) refl refl) c.check_inlined.ensures

pub returns-in-Other : goal.returns-in-Other
returns-in-Other c = on_both _ (carried_skipped c.args.checked.now (map function_of c.args.tests.now) c.args.faults.now c.args.out.now c.skip.new.self (command_of c.args.command.now) _ (ap command_of c.in-Other.is)) c.skip.ensures.text c.skip.ensures.counts
