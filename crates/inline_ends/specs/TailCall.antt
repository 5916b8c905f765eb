-- When a splice at a tail call can be made.
use Rattle.std.specs.Prelude.{◌≡◌, ⊤, ◌+◌, ◌-◌, ◌<◌, ◌^◌, length, slice_get, Some}
use Rattle.ir_core.specs.declared.places.Point.{Point}
use Rattle.ir_core.specs.Module.{Instruction, Plain, Branches, SequencePoint, Return, Call, ReturnCall, TryCall, Line}
use Rattle.ir_core.specs.Module.{Function}
use Rattle.ir_core.specs.Sound.{instruction_count}
use Rattle.ir_core.specs.Edits.{IsPoint, lines_of}

abbrev pub IsTailCall : Instruction → Type 0
IsTailCall (Plain p) = ⊥
IsTailCall (Branches b) = ⊥
IsTailCall SequencePoint = ⊥
IsTailCall (Return vs) = ⊥
IsTailCall (Call t args) = ⊥
IsTailCall (ReturnCall t args) = ⊤
IsTailCall (TryCall t sig args normal table) = ⊥

-- a tail call stands last in its block in f, g has a block, and there are numbers for all that the splice brings
pub record CanSpliceTail (f g : Function) (at : Point) : Type 0 where
  pub there : IsPoint f at
  pub last : at.index + 1 ≡ length (lines_of at.block f.blocks)
  pub line : Line
  pub found : slice_get (lines_of at.block f.blocks) at.index ≡ Some line
  pub tail : IsTailCall line.inst
  pub has_block : 0 < length g.blocks
  pub few_slots : length f.slots + length g.slots < 2 ^ 32 - 1
  pub few_sigs : length f.sigs + length g.sigs < 2 ^ 32 - 1
  pub few_callees : length f.callees + length g.callees < 2 ^ 32 - 1
  pub few_values : length f.types + length g.types < 2 ^ 32 - 1
  pub few_blocks : length f.blocks + length g.blocks < 2 ^ 32 - 1
  pub few_lines : instruction_count f.blocks + instruction_count g.blocks + 1 < 2 ^ 32 - 1
