-- A splice that is within the limit of sizes can be made: there are numbers for all that comes in.
use Rattle.std.specs.Prelude.{◌≡◌, ◌≤◌, [], Some, slice_get}
use Rattle.ir_core.specs.declared.places.Point.{Point}
use Rattle.ir_core.specs.Lookup.{find_block}
use Rattle.ir_core.specs.Module.{Block, Function, Line}
use Rattle.ir_core.specs.Size.{size_of}
use Rattle.ir_core.specs.WellFormed.{WellFormed}
use Rattle.ir_semantics.specs.Accepted.{RulesHold}
use Rattle.ir_semantics.specs.Splice.{Naming, splice_with}
use Rattle.inline_body.specs.PlainCall.{IsPlainCall, CanSplice}
use Rattle.inline_ends.specs.TailCall.{IsTailCall, CanSpliceTail}
use Rattle.inline_ends.specs.TryCallSite.{IsTryCall, CanSpliceTry}

-- caller f and callee g are well-formed and keep their own rules, the line l of f stands at the place, and neither g
-- nor f with g in place of the line is larger than a function may be
pub record WithinLimit (n : Naming) (f g : Function) (at : Point) (l : Line) : Type 0 where
  pub caller_whole : WellFormed f
  pub callee_whole : WellFormed g
  pub caller_accepted : RulesHold [] f
  pub callee_accepted : RulesHold [] g
  pub block : Block
  pub block_found : find_block at.block f.blocks ≡ Some block
  pub line_found : slice_get block.lines at.index ≡ Some l
  pub callee_size : size_of g ≤ 262144
  pub splice_size : size_of (splice_with n f at.block at.index g) ≤ 262144

-- a plain call, a tail call and a `try_call`
abbrev pub PlainCallHasNumbers : Type 0
PlainCallHasNumbers =
    (n : Naming) (f g : Function) (at : Point) (l : Line) → WithinLimit n f g at l → IsPlainCall l.inst
    → CanSplice f g at

abbrev pub TailCallHasNumbers : Type 0
TailCallHasNumbers =
    (n : Naming) (f g : Function) (at : Point) (l : Line) → WithinLimit n f g at l → IsTailCall l.inst
    → CanSpliceTail f g at

abbrev pub TryCallHasNumbers : Type 0
TryCallHasNumbers =
    (n : Naming) (f g : Function) (at : Point) (l : Line) → WithinLimit n f g at l → IsTryCall l.inst
    → CanSpliceTry f g at
