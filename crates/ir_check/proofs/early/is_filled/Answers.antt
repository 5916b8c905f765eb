use Rattle.ir_check.proofs.Searching.{filled_is}
use Rattle.ir_check.proofs.early.is_filled.Goals as goal

pub returns : goal.returns
returns c = filled_is c.args.func.now.function c.args.block c.inst_slice.result.now c.inst_slice.ensures c.is_empty.result c.is_empty.ensures
