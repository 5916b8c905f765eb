-- A callee's body prepared for a call of any kind.
use Rattle.std.specs.Prelude.{◌≡◌, ℕ, ◌+◌, length}
use Rattle.ir_core.specs.declared.places.Point.{Point}
use Rattle.ir_core.specs.declared.room.Room.{Room}
use Rattle.ir_core.specs.Edits.{HasRoom}
use Rattle.ir_core.specs.Module.{Function}
use Rattle.body_import.specs.declared.declarations.Import.{Import}
use Rattle.inline_body.specs.declared.prepared.PreparedBody.{PreparedBody}
use Rattle.inline_body.specs.Prepared.{IsReady, room_of}
use Rattle.inline_body.specs.PlainCall.{IsPrepared}
use Rattle.inline_ends.specs.LastBody.{IsLastReady, IsLastPrepared}
use Rattle.inline_caller.specs.declared.prepared.PlacedBody.{PlacedBody}
use Rattle.inline_caller.specs.declared.prepared.PlacedBody.TheVariants.{Within, Last}
use Rattle.inline_caller.specs.declared.prepared.PreparedCall.{PreparedCall}

abbrev pub prepared_body : PlacedBody → PreparedBody
prepared_body (Within q) = q
prepared_body (Last q) = q

-- how many blocks more the caller has with the body: those of the callee, and the one that goes on behind them
abbrev pub blocks_added : PlacedBody → ℕ
blocks_added (Within q) = length q.block_params + 2
blocks_added (Last q) = length q.block_params + 1

-- there is room for the body
abbrev pub HasRoomFor : PreparedCall → Room → Type 0
HasRoomFor p room = HasRoom (room_of (prepared_body p.body)) room

-- the body can be put into f at the place, where there is room for it
abbrev pub IsPlacedReady : Function → Point → PlacedBody → Type 0
IsPlacedReady f at (Within q) = IsReady f at q
IsPlacedReady f at (Last q) = IsLastReady f at q

-- the call's body can be put into f, where there is room for it
abbrev pub CanPut : Function → PreparedCall → Type 0
CanPut f p = IsPlacedReady f p.site p.body

-- the body is ready for f at the place, and that of the splice of g there by some names
pub record IsWithinFor (f g : Function) (at : Point) (q : PreparedBody) : Type 0 where
  pub import : Import
  pub prepared : IsPrepared f g at import q

pub record IsLastFor (f g : Function) (at : Point) (q : PreparedBody) : Type 0 where
  pub import : Import
  pub prepared : IsLastPrepared f g at import q

abbrev pub IsBodyFor : (f g : Function) → Point → PlacedBody → Type 0
IsBodyFor f g at (Within q) = IsWithinFor f g at q
IsBodyFor f g at (Last q) = IsLastFor f g at q

-- what is prepared is one for the caller f, the callee g and the call at the place
pub record IsPreparedFor (f g : Function) (at : Point) (p : PreparedCall) : Type 0 where
  pub site : p.site ≡ at
  pub body : IsBodyFor f g at p.body
