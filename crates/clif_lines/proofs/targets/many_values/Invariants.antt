use Rattle.std.proofs.Common.{◌≡◌, take}
use Rattle.clif_lines.specs.WordRenaming.{renaming}
use Rattle.clif_meaning.specs.Instructions.{values_at}
use Rattle.clif_lines.proofs.targets.many_values.Given as goal

abbrev pub invariant-loop-name : goal.invariant-loop-name
invariant-loop-name l = l.list.items ≡ values_at (renaming l.words) (take l.name-index l.names)
