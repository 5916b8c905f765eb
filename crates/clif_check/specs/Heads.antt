-- Accepted texts of which only the heads of the functions are kept.
use Rattle.std.specs.Prelude.{◌≡◌, ℕ, List, map}
use Rattle.ir_core.specs.Edits.{head_of}
use Rattle.ir_core.specs.Module.{Module}
use Rattle.clif_check.specs.Faults.{IsAccepted}

-- the text is an accepted module, and these functions have the heads of its functions
abbrev pub IsAcceptedHeads : List ℕ → Module → Type 0
IsAcceptedHeads text heads = (m : Module) × IsAccepted text m × (map head_of heads ≡ map head_of m)
