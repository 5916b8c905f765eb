use Rattle.std.proofs.Common.{◌≡◌}
use Rattle.clif_lines.specs.WordRenaming.{renaming}
use Rattle.clif_resolve.specs.Filling.{opened}
use Rattle.clif_resolve.proofs.filling.Filling.add_params.Given as goal

abbrev pub invariant-loop-index : goal.invariant-loop-index
invariant-loop-index l = l.func.function ≡ opened l.self.raw.now (renaming l.self.words.now) l.number l.index 0
