-- The words of blocks.
use Rattle.std.proofs.Common.{◌≡◌, ◌≢◌, List, [], ◌∷◌, map, refl, ap}
use Rattle.grammar.specs.Rules.{Tree}
use Rattle.ir_core.specs.Lists.{Each}
use Rattle.clif_read.specs.declared.raw.RawBlock.{RawBlock}
use Rattle.clif_read.specs.declared.raw.RawFunction.{RawFunction}
use Rattle.clif_read.specs.declared.raw.RawModule.{RawModule}
use Rattle.clif_read.specs.ModuleGrammar.{function}
use Rattle.clif_read.specs.ModuleValues.{function_value}
use Rattle.clif_meaning.specs.Meaning.{HasBlocks}
use Rattle.clif_meaning.specs.Reads.{FromText}
use Rattle.clif_meaning.specs.Spots.{word_spots}

pub words_of_blocks : (bs : List RawBlock) → map (λ b. b.block.spot) bs ≡ word_spots (map (λ b. b.block) bs)
words_of_blocks [] = refl
words_of_blocks (b ∷ bs) = ap (λ xs. b.block.spot ∷ xs) (words_of_blocks bs)

pub have_blocks : (vs : List (Tree function)) → Each (λ (f : RawFunction). f.blocks ≢ []) (map function_value vs)
have_blocks [] = tt
have_blocks (v ∷ vs) = ((λ e. cc), have_blocks vs)

-- each function of a text has a block
pub text_has_blocks : (raw : RawModule) → FromText raw → HasBlocks raw
text_has_blocks raw (text, at) = let (v, d, e, one) = at.read in rw e (have_blocks v.1)
