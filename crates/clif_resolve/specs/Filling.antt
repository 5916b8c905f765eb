-- A function whose blocks are filled one after the other.
use Rattle.std.specs.Prelude.{◌≡◌, ℕ, suc, List, [], ◌++◌, map, flat_map, take, drop}
use Rattle.std.specs.List.{enumerate_from}
use Rattle.ir_core.specs.Module.{Block, Function}
use Rattle.ir_core.specs.Sound.{IsSound}
use Rattle.ir_semantics.specs.Renaming.{Renaming}
use Rattle.clif_read.specs.declared.raw.RawBlock.{RawBlock}
use Rattle.clif_read.specs.declared.raw.RawFunction.{RawFunction}
use Rattle.clif_names.specs.Limits.{limits}
use Rattle.clif_lines.specs.Keeping.{AllKeep}
use Rattle.clif_meaning.specs.Meaning.{block_with, function_with, lines_with, numbers}
use Rattle.clif_resolve.specs.FormTypes.{types_of}

abbrev pub empty_block : ℕ × RawBlock → Block
empty_block b = record { number = b.0; params = []; lines = [] }

module _ (raw : RawFunction) (at : Renaming) where
  -- the function that is meant
  abbrev pub meant : Function
  meant = function_with raw at.value (enumerate_from 0 (types_of raw at))

  -- the same without blocks
  abbrev pub valued : Function
  valued = record meant { blocks = [] }

  -- a block with so many of its parameters and lines
  abbrev pub begun : ℕ → ℕ → ℕ × RawBlock → Block
  begun params lines b = record {
    number = b.0;
    params = map (λ p. at.value p.value.number) (take params b.1.params);
    lines = flat_map (lines_with raw at.value (enumerate_from 0 (types_of raw at))) (take lines b.1.lines);
  }

  abbrev pub whole_before : ℕ → List Block
  whole_before place =
      map (block_with raw at.value (enumerate_from 0 (types_of raw at))) (enumerate_from 0 (take place raw.blocks))

  abbrev pub empty_from : ℕ → List Block
  empty_from place = map empty_block (enumerate_from place (drop place raw.blocks))

  -- the blocks before a place are whole, the others empty
  abbrev pub filled : ℕ → Function
  filled place = record meant { blocks = whole_before place ++ empty_from place }

  -- the same, but for so many parameters and lines of the block at the place
  abbrev pub opened : ℕ → ℕ → ℕ → Function
  opened place params lines = record meant {
    blocks =
        whole_before place
        ++ (map (begun params lines) (enumerate_from place (take 1 (drop place raw.blocks)))
        ++ empty_from (suc place));
  }

  -- what filling needs to know
  pub record IsReady : Type 0 where
    pub words : at ≡ numbers raw at.value
    pub limits : AllKeep (limits raw)
    pub sound : IsSound meant
