use Rattle.std.proofs.Common.{drop, map}
use Rattle.test_directives.specs.Views.{command_of, function_of}
use Rattle.filetest.specs.Checks.{run_checks}
use Rattle.filetest.specs.Telling.{TellsWith}
use Rattle.filetest.proofs.runs.check_runs.Given as goal

abbrev pub invariant-loop-i : goal.invariant-loop-i
invariant-loop-i l = TellsWith l.fn.out l.out (command_of l.command) (run_checks l.checked (map function_of (drop l.i l.tests))) (run_checks l.checked (map function_of l.tests))
