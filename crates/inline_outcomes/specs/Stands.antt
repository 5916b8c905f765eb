-- Where a call that is to be replaced stands.
use Rattle.std.specs.Prelude.{◌≡◌, ◌∷◌, ◌++◌, Some}
use Rattle.ir_core.specs.Module.{Block}
use Rattle.ir_core.specs.Lookup.{find_block}
use Rattle.ir_semantics.specs.Splice.{Splicing}

-- the line to be replaced stands in the caller
pub record Stands (p : Splicing) : Type 0 where
  pub block : Block
  pub block_found : find_block p.at p.caller.blocks ≡ Some block
  pub lines : block.lines ≡ p.before ++ (p.site ∷ p.behind)
