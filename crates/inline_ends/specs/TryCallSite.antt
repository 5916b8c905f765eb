-- When a splice at a `try_call` can be made.
use Rattle.std.specs.Prelude.{◌≡◌, ⊤, ◌+◌, ◌-◌, ◌<◌, ◌^◌, length, slice_get, Some}
use Rattle.ir_core.specs.declared.places.Point.{Point}
use Rattle.ir_core.specs.Module.{Instruction, Plain, Branches, SequencePoint, Return, Call, ReturnCall, TryCall, Line}
use Rattle.ir_core.specs.Module.{Function}
use Rattle.ir_core.specs.Sound.{instruction_count}
use Rattle.ir_core.specs.Edits.{IsPoint, lines_of}
use Rattle.inline_ends.specs.Tried.{plain_calls_in}

abbrev pub IsTryCall : Instruction → Type 0
IsTryCall (Plain p) = ⊥
IsTryCall (Branches b) = ⊥
IsTryCall SequencePoint = ⊥
IsTryCall (Return vs) = ⊥
IsTryCall (Call t args) = ⊥
IsTryCall (ReturnCall t args) = ⊥
IsTryCall (TryCall t sig args normal table) = ⊤

-- a `try_call` stands last in its block in f, g has a block, and there are numbers for all that the splice brings: each
-- plain call of g brings a block
pub record CanSpliceTry (f g : Function) (at : Point) : Type 0 where
  pub there : IsPoint f at
  pub last : at.index + 1 ≡ length (lines_of at.block f.blocks)
  pub line : Line
  pub found : slice_get (lines_of at.block f.blocks) at.index ≡ Some line
  pub tries : IsTryCall line.inst
  pub has_block : 0 < length g.blocks
  pub few_slots : length f.slots + length g.slots < 2 ^ 32 - 1
  pub few_sigs : length f.sigs + length g.sigs < 2 ^ 32 - 1
  pub few_callees : length f.callees + length g.callees < 2 ^ 32 - 1
  pub few_values : length f.types + length g.types < 2 ^ 32 - 1
  pub few_blocks : length f.blocks + length g.blocks + plain_calls_in g.blocks < 2 ^ 32 - 1
  pub few_lines : instruction_count f.blocks + instruction_count g.blocks + 1 < 2 ^ 32 - 1
