-- The raw function of a whole function defines its words in order: those of each kind have the numbers from 0 on.
use Rattle.std.proofs.Common.{◌≡◌, ℕ, ◌≤◌, map, length, arith}
use Rattle.std.specs.List.{range_with_len}
use Rattle.std.proofs.lemmas.List.{length-map}
use Rattle.ir_core.specs.Lookup.{definitions as defined_values, block_numbers}
use Rattle.ir_core.specs.Module.{Block, Function}
use Rattle.ir_core.specs.Size.{size_of}
use Rattle.ir_core.specs.WellFormed.{WellFormed}
use Rattle.ir_core.proofs.Sizing.{sigs_count, blocks_count}
use Rattle.name_tables.specs.Definitions.{Kind, Slots, Sigs, Callees, Blocks, Values, definitions}
use Rattle.clif_meaning.proofs.WholeLaws.{values_count}
use Rattle.text_read_back.specs.Defining.{number_of}
use Rattle.text_read_back.specs.RawOf as raws
use Rattle.names_read_back.proofs.Numbers.{slot_words_are, sig_words_are, callee_words_are, block_words_are, value_words_are}

-- how many words of a kind a function defines
abbrev pub count : Function → Kind → ℕ
count f Slots = length f.slots
count f Sigs = length f.sigs
count f Callees = length f.callees
count f Blocks = length (block_numbers f.blocks)
count f Values = length (defined_values f.blocks)

-- words of each kind have the numbers from 0 on
pub counted : (f : Function) → WellFormed f → (k : Kind) → map number_of (definitions (raws.raw_function f) k) ≡ range_with_len 0 (count f k)
counted f is Slots = slot_words_are f is
counted f is Sigs = sig_words_are f is
counted f is Callees = callee_words_are f is
counted f is Blocks = block_words_are f is
counted f is Values = value_words_are f is

-- each kind has no more words than the function's size
pub few : (f : Function) (k : Kind) → count f k ≤ size_of f
few f Slots = omega arith
few f Sigs = let a = sigs_count f.sigs in omega (arith, a)
few f Callees = omega arith
few f Blocks = let a = blocks_count f.blocks in let e = length-map f.blocks (λ (b : Block). b.number) in omega (arith, a, e)
few f Values = let a = values_count f.blocks in omega (arith, a)
