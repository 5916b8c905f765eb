-- What ends a run, and what it writes, as functions of the settings and the bytes.
use Rattle.std.proofs.Common.{◌≡◌, ℕ, ◌<◌, ◌≤◌, List, [], length, Option, None, Some, inl, inr, refl, sym, ap, ap₂, arith, ◌∙◌, append-nil}
use Rattle.std.specs.Prelude.{◌⊎◌}
use Rattle.std.specs.Io.KnownBytes.{Appends}
use Rattle.clif_lex.specs.declared.faults.Place.{Place}
use Rattle.clif_lex.specs.declared.faults.TextKind.{TextKind}
use Rattle.clif_lex.specs.Places.{line_at, column_at}
use Rattle.clif_check.specs.Faults.{FirstFault, IsAccepted}
use Rattle.clif_check.proofs.FirstFaults.{one_first_fault}
use Rattle.clif_check.proofs.Stages.{one_module}
use Rattle.ir_core.specs.Module.{Module}
use Rattle.clifinl.specs.declared.status.Status.{Status}
use Rattle.clifinl.specs.declared.status.Status.TheVariants.{Done, Refused}
use Rattle.clifinl.specs.declared.status.Refusal.TheVariants.{Text, TooLong}
use Rattle.clifinl.specs.Runs.{IsFirstFault, IsPlaceOf, most_bytes}
use Rattle.clifinl.proofs.Runs.{honest}

-- a status and an output that are decided
abbrev pub Once : (Status → List ℕ → Type 0) → Type 0
Once P = (s t : Status) (x y : List ℕ) → P s x → P t y → (s ≡ t) × (x ≡ y)

-- a run stops with this refusal, and writes nothing
abbrev pub StopsAs : Status → Status → List ℕ → Type 0
StopsAs stop status output = (status ≡ stop) × (output ≡ [])

pub same_stop : (a b s t : Status) (x y : List ℕ) → a ≡ b → StopsAs a s x → StopsAs b t y → (s ≡ t) × (x ≡ y)
same_stop a b s t x y same p q = (p.0 ∙ same ∙ sym q.0, p.1 ∙ sym q.1)

-- ---- bytes

-- the bytes are too many, or this is answered of them
abbrev pub OfBytes : List ℕ → (Status → List ℕ → Type 0) → Status → List ℕ → Type 0
OfBytes bytes P status output =
    ((length bytes ≤ most_bytes) × P status output) ⊎ ((most_bytes < length bytes) × StopsAs (Refused TooLong) status output)

pub of_bytes_once : (bytes : List ℕ) (P : Status → List ℕ → Type 0) → Once P → Once (OfBytes bytes P)
of_bytes_once bytes P once s t x y (inl p) (inl q) = once s t x y p.1 q.1
of_bytes_once bytes P once s t x y (inl p) (inr q) = absurd (omega (arith, p.0, q.0))
of_bytes_once bytes P once s t x y (inr p) (inl q) = absurd (omega (arith, p.0, q.0))
of_bytes_once bytes P once s t x y (inr p) (inr q) = same_stop _ _ s t x y refl p.1 q.1

-- ---- accepted and refused texts

same_place : (p q : Place) → p.line ≡ q.line → p.column ≡ q.column → p ≡ q
same_place p q a b = rw a (rw b refl)

pub one_place : (text : List ℕ) (a b : ℕ) (p q : Place) → a ≡ b → IsPlaceOf text a p → IsPlaceOf text b q → p ≡ q
one_place text a b p q same at there =
    same_place p q (at.line ∙ ap (line_at text) same ∙ sym there.line) (at.column ∙ ap (column_at text) same ∙ sym there.column)

-- the text is refused with its first fault
abbrev pub IsFaulty : List ℕ → Status → List ℕ → Type 0
IsFaulty bytes status output = (k : TextKind) × (place : Place) × IsFirstFault bytes k place × StopsAs (Refused (Text k place)) status output

same_refusal : (k l : TextKind) (p q : Place) → k ≡ l → p ≡ q → Refused (Text k p) ≡ Refused (Text l q)
same_refusal k l p q a b = ap₂ (λ (kind : TextKind) (place : Place). Refused (Text kind place)) a b

pub first_once : (bytes : List ℕ) (k l : TextKind) (a b : ℕ) (p q : Place) → FirstFault bytes k a → FirstFault bytes l b
    → IsPlaceOf bytes a p → IsPlaceOf bytes b q → Refused (Text k p) ≡ Refused (Text l q)
first_once bytes k l a b p q first other at there =
    let same = one_first_fault bytes k l a b first other in
    same_refusal k l p q same.0 (one_place bytes a b p q same.1 at there)

pub faulty_once : (bytes : List ℕ) → Once (IsFaulty bytes)
faulty_once bytes s t x y (k, place, fault, stop) (l, other, fault', stop') =
    same_stop _ _ s t x y (first_once bytes k l fault.0 fault'.0 place other fault.1 fault'.1 fault.2 fault'.2) stop stop'

-- the text is accepted, and its output written
abbrev pub IsTaken : (Module → List ℕ) → List ℕ → Status → List ℕ → Type 0
IsTaken of_module bytes status output = (m : Module) × IsAccepted bytes m × (status ≡ Done) × (output ≡ of_module m)

abbrev pub OfText : (Module → List ℕ) → List ℕ → Status → List ℕ → Type 0
OfText of_module bytes status output = IsTaken of_module bytes status output ⊎ IsFaulty bytes status output

pub of_text_once : (of_module : Module → List ℕ) (bytes : List ℕ) → Once (OfText of_module bytes)
of_text_once of_module bytes s t x y (inl (m, accepted, done, is)) (inl (n, accepted', done', is')) =
    (done ∙ sym done', is ∙ ap of_module (one_module bytes m n accepted accepted') ∙ sym is')
of_text_once of_module bytes s t x y (inl (m, accepted, done, is)) (inr (k, place, fault, stop)) = absurd (honest bytes k place m fault accepted)
of_text_once of_module bytes s t x y (inr (k, place, fault, stop)) (inl (m, accepted, done, is)) = absurd (honest bytes k place m fault accepted)
of_text_once of_module bytes s t x y (inr p) (inr q) = faulty_once bytes s t x y p q

-- ---- what was written

-- a sink that is as it was has nothing more
pub nothing_more : (before after : Option (List ℕ)) → after ≡ before → Appends before after []
nothing_more None after same = tt
nothing_more (Some xs) None same = absurd cc
nothing_more (Some xs) (Some ys) same = let e : ys ≡ xs = cc in e ∙ sym (append-nil xs)
