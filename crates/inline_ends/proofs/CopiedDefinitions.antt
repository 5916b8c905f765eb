-- What copied blocks define: the callee's values under their numbers.
use Rattle.std.proofs.Common.{◌≡◌, ℕ, ◌+◌, List, [], ◌∷◌, ◌++◌, map, get_or, refl, sym, ap, ap₂, ◌∙◌}
use Rattle.std.proofs.lemmas.List.{length-map, map-append}
use Rattle.debug_tags.specs.declared.tags.Tag.{Tag}
use Rattle.ir_core.specs.Module.{Line, Block}
use Rattle.ir_core.specs.Lookup.{block_numbers, definitions, line_definitions}
use Rattle.ir_core.specs.Sound.{instruction_count}
use Rattle.inline_body.specs.declared.names.Names.{Names}
use Rattle.inline_body.specs.Inlined.{copied_line}
use Rattle.inline_ends.specs.Copied.{copied_block}

module _ (n : Names) (outer : List Tag) where
  abbrev up : ℕ → ℕ
  up v = n.values + v

  lines_define : (ls : List Line) → line_definitions (map (copied_line n outer) ls) ≡ map up (line_definitions ls)
  lines_define [] = refl
  lines_define (l ∷ ls) = ap (λ z. map up l.results ++ z) (lines_define ls) ∙ sym (map-append up l.results (line_definitions ls))

  pub blocks_define : (bs : List Block) → definitions (map (copied_block n outer) bs) ≡ map (λ v. n.values + v) (definitions bs)
  blocks_define [] = refl
  blocks_define (b ∷ bs) =
      ap₂ (λ (x y : List ℕ). map up b.params ++ (x ++ y)) (lines_define b.lines) (blocks_define bs)
      ∙ (ap (λ z. map up b.params ++ z) (sym (map-append up (line_definitions b.lines) (definitions bs))) ∙ sym (map-append up b.params (line_definitions b.lines ++ definitions bs)))

  pub blocks_counted : (bs : List Block) → instruction_count (map (copied_block n outer) bs) ≡ instruction_count bs
  blocks_counted [] = refl
  blocks_counted (b ∷ bs) = ap₂ (λ (x y : ℕ). x + y) (length-map b.lines (copied_line n outer)) (blocks_counted bs)

  pub blocks_numbers : (bs : List Block) → block_numbers (map (copied_block n outer) bs) ≡ map (λ b. get_or n.blocks b 0) (block_numbers bs)
  blocks_numbers [] = refl
  blocks_numbers (b ∷ bs) = ap (λ z. get_or n.blocks b.number 0 ∷ z) (blocks_numbers bs)
