-- Where the items of a function stand in the text: a function at its name, a callee declaration and a block at their
-- word, an instruction at its opcode.
use Rattle.std.specs.Prelude.{ℕ, List, [], ◌∷◌, Option, Some, map, flat_map, slice_get}
use Rattle.ir_core.specs.declared.places.Item.{Item}
use Rattle.ir_core.specs.declared.places.Item.TheVariants as item
use Rattle.ir_core.specs.Lookup.{and_then}
use Rattle.token_reader.specs.declared.raw.RawName.{RawName}
use Rattle.clif_read.specs.declared.raw.RawLine.{RawLine}
use Rattle.clif_read.specs.declared.raw.RawLine.TheVariants as line
use Rattle.clif_read.specs.declared.raw.RawFunction.{RawFunction}
use Rattle.clif_read.specs.declared.raw.RawModule.{RawModule}
use Rattle.name_tables.specs.Definitions.{Callees, Blocks, definitions}
use Rattle.clif_read.specs.Marks.{name_spot}

-- the spots of a function and of its items by their numbers
pub record Spots : Type 0 where
  pub whole : ℕ
  pub callees : List ℕ
  pub blocks : List ℕ
  pub insts : List (List ℕ)

-- alias lines are no instructions
abbrev pub line_spots : RawLine → List ℕ
line_spots (line.Alias location n m) = []
line_spots (line.Inst location tags results inst) = inst.opcode.spot ∷ []

abbrev pub word_spots : List RawName → List ℕ
word_spots ns = map (λ n. n.spot) ns

abbrev pub function_spots : RawFunction → Spots
function_spots f = record {
  whole = name_spot f.name;
  callees = word_spots (definitions f Callees);
  blocks = word_spots (definitions f Blocks);
  insts = map (λ b. flat_map line_spots b.lines) f.blocks;
}

abbrev pub spots : RawModule → List Spots
spots raw = map function_spots raw.functions

abbrev pub item_spot : Item → Spots → Option ℕ
item_spot item.Whole s = Some s.whole
item_spot (item.Callee k) s = slice_get s.callees k
item_spot (item.Block b) s = slice_get s.blocks b
item_spot (item.Inst p) s = and_then (slice_get s.insts p.block) (λ is. slice_get is p.index)

-- the spot of an item of the function with this number
abbrev pub spot_of : List Spots → ℕ → Item → Option ℕ
spot_of ss func i = and_then (slice_get ss func) (item_spot i)
