use Rattle.std.proofs.Common.{◌≡◌, ◌++◌, drop, map}
use Rattle.ir_core.specs.Lists.{Each}
use Rattle.ir_semantics.specs.Renaming.{arg_under}
use Rattle.ir_core.specs.Uses.{arg_values_used}
use Rattle.inline_body.specs.Named.{names_of, Moves}
use Rattle.inline_body.proofs.names.Names.many_args.Given as goal

abbrev pub invariant-loop-arg : goal.invariant-loop-arg
invariant-loop-arg l = (l.list.items ++ map (arg_under (names_of l.fn.self)) (drop l.arg-index l.args) ≡ map (arg_under (names_of l.fn.self)) l.args) × Each (Moves l.fn.self.values) (arg_values_used (drop l.arg-index l.args))
