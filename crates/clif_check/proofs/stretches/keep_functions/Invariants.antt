use Rattle.std.proofs.Common.{take}
use Rattle.clif_check.specs.Stretches.{AreKept}
use Rattle.clif_check.proofs.stretches.keep_functions.Given as goal

abbrev pub invariant-loop-raw : goal.invariant-loop-raw
invariant-loop-raw l = AreKept l.part (take l.raw-index l.raws) l.functions.items
