-- Which modules are accepted: every rule holds at every callee declaration, block and instruction of every function.
-- The rules stand in the order in which they are tried at one place; availability comes after all others over the
-- module.
use Rattle.std.specs.Prelude.{◌≡◌, ⊤, ℕ, Some, slice_get}
use Rattle.ir_core.specs.declared.declarations.Callee.{Callee}
use Rattle.ir_core.specs.declared.places.Item.{Item}
use Rattle.ir_core.specs.declared.places.Item.TheVariants as item
use Rattle.ir_core.specs.Module.{Line, Block, Function, Module}
use Rattle.ir_core.specs.Lookup.{find_block}
use Rattle.ir_core.specs.Lists.{In, Each}
use Rattle.ir_semantics.specs.Splice.{first_number}
use Rattle.ir_core.specs.Uses.{values_used}
use Rattle.ir_semantics.specs.Available.{Available}
use Rattle.ir_semantics.specs.EndRules.{Filled, Terminated, EntryIsNoTarget}
use Rattle.ir_semantics.specs.CountRules.{Counts, EntryCounts}
use Rattle.ir_semantics.specs.TypeRules.{Types, EntryTypes}
use Rattle.ir_semantics.specs.CallRules.{Convention, Declared, Signature, TagPlace}
use Rattle.ir_semantics.specs.SlotRules.{SlotRange}

-- ---- NotAvailable: each value used is available, values of targets at the branch or call itself

abbrev pub UsesAvailable : Function → ℕ → ℕ → Line → Type 0
UsesAvailable f b i l = Each (Available f b i) (values_used l.inst)

-- ---- the rules, and where each holds

pub data Rule : Type 0 where
  no_terminator : Rule
  entry_target : Rule
  count_mismatch : Rule
  type_mismatch : Rule
  convention : Rule
  signature_mismatch : Rule
  slot_range : Rule
  tag_place : Rule
  not_available : Rule

-- at the line i of the block that has the number b
abbrev pub HoldsAtLine : Function → ℕ → Block → ℕ → Line → Rule → Type 0
HoldsAtLine f b block i l no_terminator = Terminated block i l
HoldsAtLine f b block i l entry_target = EntryIsNoTarget f l
HoldsAtLine f b block i l count_mismatch = Counts f l
HoldsAtLine f b block i l type_mismatch = Types f l
HoldsAtLine f b block i l convention = Convention f l
HoldsAtLine f b block i l signature_mismatch = Signature f l
HoldsAtLine f b block i l slot_range = SlotRange f l
HoldsAtLine f b block i l tag_place = TagPlace l
HoldsAtLine f b block i l not_available = UsesAvailable f b i l

abbrev pub IsFirst : Function → ℕ → Type 0
IsFirst f b = b ≡ first_number f.blocks

abbrev pub HoldsAtBlock : Function → ℕ → Block → Rule → Type 0
HoldsAtBlock f b block no_terminator = Filled block
HoldsAtBlock f b block count_mismatch = IsFirst f b → EntryCounts f block
HoldsAtBlock f b block type_mismatch = IsFirst f b → EntryTypes f block
HoldsAtBlock f b block _ = ⊤

abbrev pub HoldsAtCallee : Module → Function → Callee → Rule → Type 0
HoldsAtCallee m f c signature_mismatch = Declared m f c
HoldsAtCallee m f c _ = ⊤

-- a rule holds at a part of the function
abbrev pub Holds : Module → Function → Item → Rule → Type 0
Holds m f item.Whole rule = ⊤
Holds m f (item.Callee k) rule = (c : Callee) → slice_get f.callees k ≡ Some c → HoldsAtCallee m f c rule
Holds m f (item.Block b) rule = (block : Block) → find_block b f.blocks ≡ Some block → HoldsAtBlock f b block rule
Holds m f (item.Inst at) rule =
    (block : Block) (l : Line) → find_block at.block f.blocks ≡ Some block → slice_get block.lines at.index ≡ Some l
    → HoldsAtLine f at.block block at.index l rule

abbrev pub RulesHold : Module → Function → Type 0
RulesHold m f = (place : Item) (rule : Rule) → Holds m f place rule

abbrev pub Accepted : Module → Type 0
Accepted m = (f : Function) → In f m → RulesHold m f
