-- The first fault of each function of a raw module, taken as a module by itself.
use Rattle.std.specs.Prelude.{◌≡◌, ℕ, List, length, slice_get, Option, Some, None}
use Rattle.clif_lex.specs.declared.faults.TextKind.{TextKind}
use Rattle.clif_lex.specs.Places.{line_at}
use Rattle.clif_read.specs.declared.raw.RawModule.{RawModule}
use Rattle.clif_meaning.specs.Reads.{alone}
use Rattle.clif_check.specs.Faults.{FirstOfRaw, IsAcceptedRaw}
use Rattle.ir_core.specs.Module.{Module}

-- the spot of the first fault of a raw module, or that it has none
abbrev pub IsFaultSpot : RawModule → Option ℕ → Type 0
IsFaultSpot raw None = (m : Module) × IsAcceptedRaw raw m
IsFaultSpot raw (Some spot) = (k : TextKind) × FirstOfRaw raw k spot

-- the line of the first fault of a raw module of the text, or that it has none
abbrev pub IsFaultLine : List ℕ → RawModule → Option ℕ → Type 0
IsFaultLine text raw None = IsFaultSpot raw None
IsFaultLine text raw (Some line) = (spot : ℕ) × IsFaultSpot raw (Some spot) × (line ≡ line_at text spot)

-- of each function, in order
pub record AreFaultSpots (raw : RawModule) (spots : List (Option ℕ)) : Type 0 where
  pub count : length spots ≡ length raw.functions
  pub each : (i : ℕ) (spot : Option ℕ) → slice_get spots i ≡ Some spot → IsFaultSpot (alone raw i) spot

pub record AreFaultLines (text : List ℕ) (raw : RawModule) (lines : List (Option ℕ)) : Type 0 where
  pub count : length lines ≡ length raw.functions
  pub each : (i : ℕ) (line : Option ℕ) → slice_get lines i ≡ Some line → IsFaultLine text (alone raw i) line
