use Rattle.std.proofs.Common.{◌≡◌, take}
use Rattle.test_directives.specs.Names.{names_of}
use Rattle.test_directives.proofs.names.spelled_names.Given as goal

abbrev pub invariant-loop-func : goal.invariant-loop-func
invariant-loop-func l = l.list.items ≡ names_of (take l.func-index l.functions)
