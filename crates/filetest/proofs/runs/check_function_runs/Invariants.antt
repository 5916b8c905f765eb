use Rattle.std.proofs.Common.{drop, map}
use Rattle.test_directives.specs.Views.{command_of, run_of}
use Rattle.filetest.specs.Checks.{run_check}
use Rattle.filetest.specs.Telling.{TellsWith}
use Rattle.filetest.proofs.runs.check_function_runs.Given as goal

abbrev pub invariant-loop-i : goal.invariant-loop-i
invariant-loop-i l = TellsWith l.fn.out l.out (command_of l.command) (map (run_check l.linked) (map run_of (drop l.i l.runs))) (map (run_check l.linked) (map run_of l.runs))
