use Rattle.std.proofs.Common.{◌≡◌, ◌++◌, map, take, drop}
use Rattle.ir_core.specs.Shift.{shifted}
use Rattle.ir_core.proofs.func.splicing.move_starts.Given as goal

abbrev pub invariant-loop-entry : goal.invariant-loop-entry
invariant-loop-entry l = l.blocks ≡ map (shifted l.place) (take l.entry-index l.initial.blocks) ++ drop l.entry-index l.initial.blocks
