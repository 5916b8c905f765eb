-- How the faults of a text are named, and which fault of a text an answer of `tokens` is.
use Rattle.std.specs.Prelude.{ℕ, ◌≤◌, List, codes}
use Rattle.clif_lex.specs.declared.faults.LexErr.{LexErr}
use Rattle.clif_lex.specs.declared.faults.LexErr.TheVariants as lex
use Rattle.clif_lex.specs.declared.faults.TextKind.{TextKind}
use Rattle.clif_lex.specs.declared.faults.TextKind.TheVariants.{BadChar, BadNumber, Syntax, UnknownOpcode, Unsupported}
use Rattle.clif_lex.specs.declared.faults.TextKind.TheVariants.{Duplicate, Undefined, NumberRange, Untyped, TooLarge}
use Rattle.clif_lex.specs.declared.faults.TextKind.TheVariants.{NoTerminator, EntryTarget, CountMismatch, TypeMismatch}
use Rattle.clif_lex.specs.declared.faults.TextKind.TheVariants.{Convention, SignatureMismatch, SlotRange, TagPlace}
use Rattle.clif_lex.specs.declared.faults.TextKind.TheVariants.{NotAvailable}
use Rattle.clif_lex.specs.declared.faults.TextErr.{TextErr}
use Rattle.clif_lex.specs.declared.faults.TextErr.TheVariants as text

-- a kind of fault is shown by its own name
abbrev pub kind_name : TextKind → List ℕ
kind_name BadChar = codes "BadChar"
kind_name BadNumber = codes "BadNumber"
kind_name Syntax = codes "Syntax"
kind_name UnknownOpcode = codes "UnknownOpcode"
kind_name Unsupported = codes "Unsupported"
kind_name Duplicate = codes "Duplicate"
kind_name Undefined = codes "Undefined"
kind_name NumberRange = codes "NumberRange"
kind_name Untyped = codes "Untyped"
kind_name TooLarge = codes "TooLarge"
kind_name NoTerminator = codes "NoTerminator"
kind_name EntryTarget = codes "EntryTarget"
kind_name CountMismatch = codes "CountMismatch"
kind_name TypeMismatch = codes "TypeMismatch"
kind_name Convention = codes "Convention"
kind_name SignatureMismatch = codes "SignatureMismatch"
kind_name SlotRange = codes "SlotRange"
kind_name TagPlace = codes "TagPlace"
kind_name NotAvailable = codes "NotAvailable"

-- the fault of a text that has no tokens
abbrev pub text_err_of : LexErr → TextErr
text_err_of (lex.BadChar spot) = text.Fault BadChar spot
text_err_of (lex.BadNumber spot) = text.Fault BadNumber spot
text_err_of lex.NoMemory = text.NoMemory

-- a fault stands at a byte of a text of so many bytes, or at its end
abbrev pub StandsWithin : ℕ → TextErr → Type 0
StandsWithin len (text.Fault kind spot) = spot ≤ len
StandsWithin len text.NoMemory = Unit {0}
