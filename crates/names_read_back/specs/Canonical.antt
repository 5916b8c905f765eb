-- What the canonical text of a writable module means: the module under canonical numbers.
use Rattle.std.specs.Prelude.{◌≡◌, ℕ}
use Rattle.ir_core.specs.Module.{Module}
use Rattle.ir_core.specs.WellFormed.{IsModule}
use Rattle.ir_semantics.specs.Canon.{canonical_module}
use Rattle.ir_text.specs.Writable.{Writable}
use Rattle.ir_text.specs.Text.{text_of}
use Rattle.clif_read.specs.Texts.{IsModuleText}
use Rattle.clif_read.specs.declared.raw.RawModule.{RawModule}
use Rattle.clif_lex.specs.declared.faults.TextKind.TheVariants.{Duplicate}
use Rattle.clif_names.specs.Faults.{IsFault}
use Rattle.clif_meaning.specs.Meaning.{Means}
use Rattle.clif_meaning.specs.Reads.{Reads}
use Rattle.text_read_back.specs.RawOf.{raw_of}

abbrev pub RawMeansCanonical : Type 0
RawMeansCanonical = (m : Module) → IsModule m → Writable m → Means (raw_of m) (canonical_module m)

-- the raw module that its canonical text is
abbrev pub TextMeansCanonical : Type 0
TextMeansCanonical =
    (m : Module) → IsModule m → Writable m → (raw : RawModule) → IsModuleText (text_of m) raw
    → Means raw (canonical_module m)

-- its canonical text is read as nothing else
abbrev pub ReadsAsNothingElse : Type 0
ReadsAsNothingElse =
    (m : Module) → IsModule m → Writable m → (other : Module) → Reads (text_of m) other → other ≡ canonical_module m

-- in it no word is defined twice, and no function's name stands twice
abbrev pub HasNoDuplicate : Type 0
HasNoDuplicate =
    (m : Module) → IsModule m → Writable m → (raw : RawModule) → IsModuleText (text_of m) raw
    → (spot : ℕ) → IsFault raw Duplicate spot → ⊥
