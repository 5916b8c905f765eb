use Rattle.std.proofs.Common.{◌≡◌, ◌++◌, drop, map}
use Rattle.inline_ends.specs.Tried.{returned_arg}
use Rattle.inline_ends.proofs.trying.many_returned_args.Given as goal

abbrev pub invariant-loop-arg : goal.invariant-loop-arg
invariant-loop-arg l = l.list.items ++ map (returned_arg l.values) (drop l.arg-index l.args) ≡ map (returned_arg l.values) l.args
