-- A text's values and blocks are numbered in the order in which they are defined.
use Rattle.std.proofs.Common.{◌≡◌, ℕ, ◌+◌, List, [], ◌∷◌, ◌++◌, map, length, refl, sym, ap, ap₂, subst, ◌∙◌, append_assoc}
use Rattle.std.specs.Prelude.{flat_map}
use Rattle.std.specs.List.{range_with_len}
use Rattle.std.proofs.lemmas.List.{map-append, length-map}
use Rattle.ir_core.specs.Lists.{Each, Different}
use Rattle.ir_core.specs.Lookup.{line_definitions, definitions, block_numbers, number_in}
use Rattle.ir_core.specs.Module.{Line, Block, Function, Module}
use Rattle.ir_text.specs.Numbering.{Numbering, numbering_of}
use Rattle.ir_text.specs.TextInstructions.{next_after}
use Rattle.ir_core.specs.WellFormed.{WellFormed}
use Rattle.text_read_back.specs.Defining.{number_of, param_number, line_values, block_values, values_of, block_number, blocks_of, IsCounted, IsNumbered}
use Rattle.text_read_back.specs.RawOf as raws
use Rattle.text_read_back.proofs.Lists.{map_both, places}

counted : (xs : List ℕ) → Different xs → IsCounted (map (number_in xs) xs)
counted xs h = places xs h ∙ ap (range_with_len 0) (sym (length-map xs (number_in xs)))

-- ---- what is defined

module _ (f : Function) (n : Numbering) where
  lines_values : (next : ℕ) (ls : List Line) → flat_map line_values (raws.lines f n next ls) ≡ map (number_in n.values) (line_definitions ls)
  lines_values next [] = refl
  lines_values next (l ∷ ls) =
      ap₂ (λ (x y : List ℕ). x ++ y) (map_both (raws.value n) number_of l.results) (lines_values (next + length l.results) ls) ∙ sym (map-append (number_in n.values) l.results (line_definitions ls))

  blocks_values : (next : ℕ) (bs : List Block) → flat_map block_values (raws.blocks f n next bs) ≡ map (number_in n.values) (definitions bs)
  blocks_values next [] = refl
  blocks_values next (b ∷ bs) =
      let p = number_in n.values in
      let own = ap₂ (λ (x y : List ℕ). x ++ y) (map_both (raws.block_parameter f n) param_number b.params) (lines_values (next + length b.params) b.lines) in
      ap₂ (λ (x y : List ℕ). x ++ y) own (blocks_values (next_after next b) bs)
      ∙ append_assoc (map p b.params) (map p (line_definitions b.lines)) (map p (definitions bs))
      ∙ ap (λ (z : List ℕ). map p b.params ++ z) (sym (map-append p (line_definitions b.lines) (definitions bs)))
      ∙ sym (map-append p b.params (line_definitions b.lines ++ definitions bs))

  block_names : (next : ℕ) (bs : List Block) → map block_number (raws.blocks f n next bs) ≡ map (number_in n.blocks) (block_numbers bs)
  block_names next [] = refl
  block_names next (b ∷ bs) = ap (λ (z : List ℕ). number_in n.blocks b.number ∷ z) (block_names (next_after next b) bs)

function_numbered : (f : Function) → WellFormed f → IsCounted (values_of (raws.raw_function f)) × IsCounted (blocks_of (raws.raw_function f))
function_numbered f is =
    let n = numbering_of f in (
      subst IsCounted (sym (blocks_values f n 0 f.blocks)) (counted (definitions f.blocks) is.defined_once),
      subst IsCounted (sym (block_names f n 0 f.blocks)) (counted (block_numbers f.blocks) is.blocks),
    )

pub module_numbered : (m : Module) → Each WellFormed m → IsNumbered (raws.raw_of m)
module_numbered [] h = tt
module_numbered (f ∷ fs) h = (function_numbered f h.0, module_numbered fs h.1)
