use Rattle.std.proofs.Common.{drop}
use Rattle.ir_semantics.specs.Available.{Available}
use Rattle.used_values.proofs.Using.{holds, past}
use Rattle.used_values.proofs.uses.are_available.Goals as goal

pub returns : goal.returns
returns c = holds (Available c.args.avail.now c.args.block c.args.index) c.args.values.now (drop c.loop-i.i c.args.values.now) (past c.args.values.now c.loop-i.i c.loop-i-test.false) c.loop-i.invariant
