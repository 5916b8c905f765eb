-- The numbers in a copied body are those of what the caller has then.
use Rattle.std.proofs.Common.{◌<◌, List, [], ◌∷◌, map, arith}
use Rattle.debug_tags.specs.declared.tags.Tag.{Tag}
use Rattle.ir_core.specs.Module.{Line, Block}
use Rattle.ir_core.specs.Lists.{Each, Below}
use Rattle.ir_core.specs.Uses.{slots_shown}
use Rattle.ir_core.specs.Sound.{Counts, LineInRange, BlockInRange}
use Rattle.inline_body.specs.declared.names.Names.{Names}
use Rattle.inline_body.specs.Named.{names_of, Moves}
use Rattle.inline_body.specs.Inlined.{copied_line}
use Rattle.inline_body.proofs.BodyRanges.{NamesInRange, NamesReach, below_mapped, each_below, copied_in_range}
use Rattle.inline_body.proofs.BodyRanges.{value_moves, lines_reached}
use Rattle.inline_ends.specs.Copied.{copied_block, CanCopy}

module _ (n : Names) (G N : Counts) (fit : NamesInRange n G N) (outer : List Tag) (shown : Below N.slots (slots_shown outer)) where
  lines_in_range : (ls : List Line) → Each (LineInRange G) ls → Each (LineInRange N) (map (copied_line n outer) ls)
  lines_in_range [] h = tt
  lines_in_range (l ∷ ls) h = (copied_in_range n G N fit outer shown l h.0, lines_in_range ls h.1)

  pub blocks_in_range : (bs : List Block) → Each (BlockInRange G) bs → Each (BlockInRange N) (map (copied_block n outer) bs)
  blocks_in_range [] h = tt
  blocks_in_range (b ∷ bs) h = (record { params = below_mapped (names_of n).value G.values N.values fit.values b.params (h.0).params; lines = lines_in_range b.lines (h.0).lines }, blocks_in_range bs h.1)

-- what the copies ask of the callee's lines
module _ (n : Names) (G : Counts) (reach : NamesReach n G) where
  pub can_copy : (bs : List Block) → Each (BlockInRange G) bs → Each (λ b. b.number < G.blocks) bs → Each (CanCopy n) bs
  can_copy [] h there = tt
  can_copy (b ∷ bs) h there =
      let t = there.0 in
      let k = reach.blocks in
      (record { number = omega (arith, t, k); params = each_below (Moves n.values) G.values (value_moves n G reach) b.params (h.0).params; lines = lines_reached n G reach b.lines (h.0).lines }, can_copy bs h.1 there.1)
