use Rattle.std.proofs.Common.{drop}
use Rattle.ir_semantics.specs.Available.{Available}
use Rattle.used_values.proofs.Using.{Left}
use Rattle.used_values.proofs.uses.are_available.Given as goal

abbrev pub invariant-loop-i : goal.invariant-loop-i
invariant-loop-i l = Left (Available l.avail l.block l.index) l.values (drop l.i l.values)
