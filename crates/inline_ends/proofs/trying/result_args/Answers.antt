use Rattle.std.proofs.Common.{arith}
use Rattle.ir_core.specs.declared.instructions.Arg.TheVariants as arg
use Rattle.inline_body.proofs.Pushed.{made_of_numbers}
use Rattle.inline_ends.proofs.trying.result_args.Goals as goal

pub loop-index-preserved : goal.loop-index-preserved
loop-index-preserved c = made_of_numbers arg.Ret c.loop-index.index _ c.loop-index.list.items c.push.new.self.items (omega arith) c.loop-index.invariant c.in_ok-push.ensures.items
