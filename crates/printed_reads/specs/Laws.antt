-- What is read and printed is read again, and printed once more as the same text.
use Rattle.std.specs.Prelude.{◌≡◌, ◌↔◌, ℕ, List}
use Rattle.ir_core.specs.Module.{Module}
use Rattle.ir_core.specs.WellFormed.{IsModule}
use Rattle.ir_semantics.specs.Canon.{canonical_module, SameUpToNumbering}
use Rattle.ir_text.specs.Text.{text_of}
use Rattle.clif_meaning.specs.Reads.{Reads}

-- the printed text of what is read is read as it again, under canonical numbers
abbrev pub PrintingIsRead : Type 0
PrintingIsRead = (text : List ℕ) (m : Module) → Reads text m → Reads (text_of m) (canonical_module m)

-- a module under canonical numbers has the text of the module
abbrev pub CanonicalKeepsText : Type 0
CanonicalKeepsText = (m : Module) → IsModule m → text_of (canonical_module m) ≡ text_of m

-- whatever that text is read as is the same up to numbering
abbrev pub PrintedReadsSame : Type 0
PrintedReadsSame = (text : List ℕ) (m n : Module) → Reads text m → Reads (text_of m) n → SameUpToNumbering m n

-- and is printed as the same text
abbrev pub PrintingIsStable : Type 0
PrintingIsStable = (text : List ℕ) (m n : Module) → Reads text m → Reads (text_of m) n → text_of n ≡ text_of m

-- what two texts are read as is printed alike exactly where it is the same up to numbering
abbrev pub OneTextOfRead : Type 0
OneTextOfRead =
    (text other : List ℕ) (m n : Module) → Reads text m → Reads other n
    → (text_of m ≡ text_of n) ↔ SameUpToNumbering m n
