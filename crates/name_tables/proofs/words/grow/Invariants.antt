use Rattle.std.proofs.Common.{◌+◌, ◌-◌, length}
use Rattle.name_tables.specs.Dense.{SameAt}
use Rattle.name_tables.proofs.words.grow.Given as goal

abbrev pub invariant-loop-near : goal.invariant-loop-near
invariant-loop-near l = SameAt l.initial.near.items l.near.items

abbrev pub decreases-loop-near : goal.decreases-loop-near
decreases-loop-near l = l.word + 1 - length l.near.items
