use Rattle.ir_core.specs.Sound.{counts_of}
use Rattle.ir_core.proofs.Counting.{definitions_below}
use Rattle.clif_numbers.proofs.numbers.FuncNumbers.renumber.Goals as goal

pub set-requires-clause-range : goal.set-requires-clause-range
set-requires-clause-range c =
    rw (c.values.ensures.count, c.in_ok-values.ensures.values) (definitions_below (counts_of c.args.func.now.function) c.args.func.now.function.blocks c.values.ensures.sound.blocks)
