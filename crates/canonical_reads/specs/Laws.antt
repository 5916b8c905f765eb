-- The canonical text of a writable module is read as the module under canonical numbers: it has no fault.
use Rattle.std.specs.Prelude.{◌≡◌, ◌↔◌, ℕ}
use Rattle.ir_core.specs.Module.{Module}
use Rattle.ir_core.specs.WellFormed.{IsModule}
use Rattle.ir_semantics.specs.Canon.{canonical_module, SameUpToNumbering}
use Rattle.ir_text.specs.Writable.{Writable}
use Rattle.ir_text.specs.Text.{text_of}
use Rattle.clif_lex.specs.declared.faults.TextKind.{TextKind}
use Rattle.clif_lex.specs.declared.faults.TextKind.TheVariants.{Undefined, NumberRange, Untyped, TooLarge}
use Rattle.clif_read.specs.Texts.{IsModuleText}
use Rattle.clif_read.specs.declared.raw.RawModule.{RawModule}
use Rattle.clif_names.specs.Faults.{IsFault, NoFault}
use Rattle.clif_meaning.specs.Reads.{Reads}

-- the raw module that the canonical text of a writable module is has this
abbrev pub EachCanonicalText : (RawModule → Type 0) → Type 0
EachCanonicalText P =
    (m : Module) → IsModule m → Writable m → (raw : RawModule) → IsModuleText (text_of m) raw → P raw

abbrev pub HasNone : TextKind → RawModule → Type 0
HasNone kind raw = (spot : ℕ) → IsFault raw kind spot → ⊥

-- each word that is used is defined, and each alias line comes to a value
abbrev pub NothingUndefined : Type 0
NothingUndefined = EachCanonicalText (HasNone Undefined)

-- each number keeps its limit
abbrev pub NumbersInRange : Type 0
NumbersInRange = EachCanonicalText (HasNone NumberRange)

-- where an operand's type is asked for, the operand is defined before
abbrev pub OperandsTyped : Type 0
OperandsTyped = EachCanonicalText (HasNone Untyped)

-- no function is too large, and there are not too many functions
abbrev pub NothingTooLarge : Type 0
NothingTooLarge = EachCanonicalText (HasNone TooLarge)

-- there is no fault of names or numbers at all
abbrev pub NothingWrong : Type 0
NothingWrong = EachCanonicalText NoFault

-- the canonical text of a writable module is read, and as the module under canonical numbers
abbrev pub ReadsAsCanonical : Type 0
ReadsAsCanonical = (m : Module) → IsModule m → Writable m → Reads (text_of m) (canonical_module m)

-- two writable modules have one canonical text exactly where they are the same up to numbering
abbrev pub OneTextUpToNumbering : Type 0
OneTextUpToNumbering =
    (m r : Module) → IsModule m → Writable m → IsModule r → Writable r
    → (text_of m ≡ text_of r) ↔ SameUpToNumbering m r
