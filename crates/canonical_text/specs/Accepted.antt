-- Accepted texts of which the canonical text is made.
use Rattle.std.specs.Prelude.{◌≡◌, ℕ, List}
use Rattle.ir_core.specs.Module.{Module}
use Rattle.ir_text.specs.Text.{text_of}
use Rattle.clif_check.specs.Faults.{IsAccepted}

-- the text is an accepted module, of which this is the canonical text
abbrev pub IsAcceptedText : List ℕ → List ℕ → Type 0
IsAcceptedText text written = (m : Module) × IsAccepted text m × (written ≡ text_of m)
