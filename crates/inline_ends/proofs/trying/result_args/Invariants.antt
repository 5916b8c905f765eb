use Rattle.std.proofs.Common.{◌≡◌, map}
use Rattle.ir_core.specs.declared.instructions.Arg.TheVariants as arg
use Rattle.ir_semantics.specs.Splice.{from}
use Rattle.inline_ends.proofs.trying.result_args.Given as goal

abbrev pub invariant-loop-index : goal.invariant-loop-index
invariant-loop-index l = l.list.items ≡ map arg.Ret (from 0 l.index)
