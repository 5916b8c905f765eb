use Rattle.std.proofs.Common.{◌≡◌, drop, map}
use Rattle.std.specs.List.{list_any}
use Rattle.test_directives.specs.Views.{command_of}
use Rattle.filetest.specs.Tested.{is_verifier}
use Rattle.filetest.proofs.testing.are_faults_needed.Given as goal

abbrev pub invariant-loop-i : goal.invariant-loop-i
invariant-loop-i l = list_any is_verifier (drop l.i (map command_of l.commands)) ≡ list_any is_verifier (map command_of l.commands)
