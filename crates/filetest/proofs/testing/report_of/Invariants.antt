use Rattle.std.proofs.Common.{drop, map}
use Rattle.test_directives.specs.Views.{command_of, function_of}
use Rattle.filetest.specs.Carrying.{CarriesWith}
use Rattle.filetest.specs.Sections.{nothing_told, AreSections}
use Rattle.filetest.proofs.testing.report_of.Given as goal

abbrev pub invariant-loop-i : goal.invariant-loop-i
invariant-loop-i l = record {
  carries : CarriesWith nothing_told l.out l.checked (map function_of l.tests) l.faults (drop l.i (map command_of l.commands)) (map command_of l.commands);
  kept : AreSections l.checked (map function_of l.tests) l.faults l.sections;
}
