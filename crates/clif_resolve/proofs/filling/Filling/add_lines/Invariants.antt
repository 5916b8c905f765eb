use Rattle.std.proofs.Common.{◌≡◌, length}
use Rattle.clif_lines.specs.WordRenaming.{renaming}
use Rattle.clif_resolve.specs.Filling.{opened}
use Rattle.clif_resolve.proofs.filling.Filling.add_lines.Given as goal

abbrev pub invariant-loop-index : goal.invariant-loop-index
invariant-loop-index l = l.func.function ≡ opened l.self.raw.now (renaming l.self.words.now) l.number (length l.block.params) l.index
