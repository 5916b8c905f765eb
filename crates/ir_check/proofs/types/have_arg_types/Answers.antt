use Rattle.std.proofs.Common.{length}
use Rattle.used_values.proofs.Ranged.{arg_below}
use Rattle.ir_check.proofs.types.have_arg_types.Goals as goal

pub find_arg_type-requires : goal.find_arg_type-requires
find_arg_type-requires c = record { inside = arg_below (length c.args.func.now.function.types) c.args.args.now c.loop-i.i c.index-args-i.result c.requires.args c.loop-i-test.true c.index-args-i.is }
