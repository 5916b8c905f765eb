use Rattle.std.proofs.Common.{◌≡◌, take, map}
use Rattle.clif_meaning.specs.Instructions.{target_of}
use Rattle.clif_lines.specs.WordRenaming.{renaming}
use Rattle.clif_lines.proofs.targets.targets.Given as goal

abbrev pub invariant-loop-item : goal.invariant-loop-item
invariant-loop-item l = l.list.items ≡ map (target_of (renaming l.words)) (take l.item-index l.written)
