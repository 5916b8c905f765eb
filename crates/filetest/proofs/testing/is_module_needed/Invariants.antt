use Rattle.std.proofs.Common.{◌≡◌, drop, map}
use Rattle.test_directives.specs.Views.{command_of}
use Rattle.filetest.specs.Tested.{needs_module}
use Rattle.filetest.proofs.testing.is_module_needed.Given as goal

abbrev pub invariant-loop-i : goal.invariant-loop-i
invariant-loop-i l = needs_module (drop l.i (map command_of l.commands)) ≡ needs_module (map command_of l.commands)
