use Rattle.std.proofs.Common.{◌≡◌}
use Rattle.clif_lines.specs.WordRenaming.{renaming}
use Rattle.clif_resolve.specs.Filling.{filled}
use Rattle.clif_resolve.proofs.filling.Filling.fill.Given as goal

abbrev pub invariant-loop-place : goal.invariant-loop-place
invariant-loop-place l = l.func.function ≡ filled l.self.raw.now (renaming l.self.words.now) l.place
