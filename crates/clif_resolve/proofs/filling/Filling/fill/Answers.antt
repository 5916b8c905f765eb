use Rattle.std.proofs.Common.{◌≡◌, length, ap, ◌∙◌, arith}
use Rattle.clif_lines.specs.WordRenaming.{renaming}
use Rattle.clif_resolve.specs.Filling.{filled}
use Rattle.clif_resolve.proofs.FillingLaws.{filled_all}
use Rattle.clif_resolve.proofs.filling.Filling.fill.Goals as goal

pub returns : goal.returns
returns c =
    let raw = c.args.self.now.raw.now in
    let at = renaming c.args.self.now.words.now in
    let e : c.loop-place.place ≡ length c.args.self.now.raw.now.blocks = omega (arith, ap length c.as_slice-place-end.ensures) in
    c.loop-place.invariant ∙ ap (filled raw at) e ∙ filled_all raw at
