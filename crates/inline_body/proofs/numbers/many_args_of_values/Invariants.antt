use Rattle.std.proofs.Common.{◌≡◌, ◌++◌, drop, map}
use Rattle.ir_core.specs.declared.instructions.Arg.TheVariants as arg
use Rattle.inline_body.proofs.numbers.many_args_of_values.Given as goal

abbrev pub invariant-loop-value : goal.invariant-loop-value
invariant-loop-value l = l.list.items ++ map arg.Value (drop l.value-index l.values) ≡ map arg.Value l.values
