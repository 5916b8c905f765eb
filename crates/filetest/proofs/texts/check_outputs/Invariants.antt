use Rattle.std.proofs.Common.{drop, map}
use Rattle.ir_text.specs.Text.{function_text_of}
use Rattle.test_directives.specs.Views.{command_of, function_of}
use Rattle.filetest.specs.Outputs.{output_checks}
use Rattle.filetest.specs.Telling.{TellsWith}
use Rattle.filetest.proofs.texts.check_outputs.Given as goal

abbrev pub invariant-loop-i : goal.invariant-loop-i
invariant-loop-i l = TellsWith l.fn.out l.out (command_of l.command) (output_checks (drop l.i l.sites) (drop l.i (map function_text_of l.«module»)) (drop l.i (map function_of l.tests))) (output_checks l.sites (map function_text_of l.«module») (map function_of l.tests))
