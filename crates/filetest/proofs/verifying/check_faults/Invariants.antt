use Rattle.std.proofs.Common.{drop, map}
use Rattle.test_directives.specs.Views.{command_of, function_of}
use Rattle.filetest.specs.Checks.{fault_checks}
use Rattle.filetest.specs.Telling.{TellsWith}
use Rattle.filetest.proofs.verifying.check_faults.Given as goal

abbrev pub invariant-loop-i : goal.invariant-loop-i
invariant-loop-i l = TellsWith l.fn.out l.out (command_of l.command) (fault_checks (drop l.i (map function_of l.tests)) (drop l.i l.faults)) (fault_checks (map function_of l.tests) l.faults)
