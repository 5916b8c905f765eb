use Rattle.std.proofs.Common.{◌≡◌, take, map}
use Rattle.clif_meaning.specs.Instructions.{arg_of}
use Rattle.clif_lines.specs.WordRenaming.{renaming}
use Rattle.clif_lines.proofs.targets.many_args.Given as goal

abbrev pub invariant-loop-item : goal.invariant-loop-item
invariant-loop-item l = l.list.items ≡ map (arg_of (renaming l.words)) (take l.item-index l.written)
