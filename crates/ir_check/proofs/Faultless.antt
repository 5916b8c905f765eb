-- A module without a first fault is accepted, since what cannot be refuted of a rule holds.
use Rattle.std.proofs.Common.{◌≡◌, ℕ, Bool, true, false, List, [], ◌∷◌, inl, inr, refl}
use Rattle.std.specs.Prelude.{Decides}
use Rattle.ir_core.specs.Module.{Function, Module}
use Rattle.ir_core.specs.Lists.{Each}
use Rattle.ir_core.specs.declared.places.Item.{Item}
use Rattle.ir_core.specs.declared.places.Item.TheVariants as item
use Rattle.ir_core.specs.Uses.{values_used}
use Rattle.ir_core.proofs.Members.{in_or_not}
use Rattle.ir_semantics.specs.Available.{Available}
use Rattle.ir_semantics.specs.Accepted as rule
use Rattle.ir_semantics.specs.Accepted.{Holds}
use Rattle.ir_check.specs.Faults.{FirstBad, this, later, Passed, checks}
use Rattle.ir_check.specs.Twins.{kept, always_available}
use Rattle.ir_check.specs.Laws.{FaultlessIsAccepted}
use Rattle.ir_check.proofs.ByTests.{rules_are_tests}
use Rattle.ir_check.proofs.Firsts.{accepted_of}

-- what cannot be refuted holds
abbrev Stable : Type 0 → Type 0
Stable P = ((P → ⊥) → ⊥) → P

stable_available : (f : Function) (b i v : ℕ) → Stable (Available f b i v)
stable_available f b i v unrefuted defs reach =
    elim (in_or_not v defs) [ inl there ↦ there | inr none ↦ absurd (unrefuted (λ a. none (a defs reach))) ]

stable_each : (P : ℕ → Type 0) (xs : List ℕ) → ((x : ℕ) → Stable (P x)) → Stable (Each P xs)
stable_each P [] stable unrefuted = tt
stable_each P (x ∷ xs) stable unrefuted =
    (stable x (λ none. unrefuted (λ e. none e.0)), stable_each P xs stable (λ none. unrefuted (λ e. none e.1)))

tested : (m : Module) (f : Function) (place : Item) (r : rule.Rule) → (r ≡ rule.not_available → ⊥) → Stable (Holds m f place r)
tested m f place r other unrefuted =
    go (kept always_available m f place r) (rules_are_tests always_available m f place r (λ e. absurd (other e)))
  where
    go : (b : Bool) → Decides b (Holds m f place r) → Holds m f place r
    go true told = told.0 refl
    go false told = absurd (unrefuted (λ h. let e : false ≡ true = told.1 h in cc))

all_available : (m : Module) (f : Function) (place : Item) → Stable (Holds m f place rule.not_available)
all_available m f item.Whole unrefuted = tt
all_available m f (item.Callee k) unrefuted = λ c g. tt
all_available m f (item.Block b) unrefuted = λ block g. tt
all_available m f (item.Inst at) unrefuted = λ block l g h.
    stable_each (Available f at.block at.index) (values_used l.inst) (stable_available f at.block at.index) (λ none. unrefuted (λ holds. none (holds block l g h)))

stable_rule : (m : Module) (f : Function) (place : Item) (r : rule.Rule) → Stable (Holds m f place r)
stable_rule m f place rule.no_terminator = tested m f place rule.no_terminator (λ e. absurd cc)
stable_rule m f place rule.entry_target = tested m f place rule.entry_target (λ e. absurd cc)
stable_rule m f place rule.count_mismatch = tested m f place rule.count_mismatch (λ e. absurd cc)
stable_rule m f place rule.type_mismatch = tested m f place rule.type_mismatch (λ e. absurd cc)
stable_rule m f place rule.convention = tested m f place rule.convention (λ e. absurd cc)
stable_rule m f place rule.signature_mismatch = tested m f place rule.signature_mismatch (λ e. absurd cc)
stable_rule m f place rule.slot_range = tested m f place rule.slot_range (λ e. absurd cc)
stable_rule m f place rule.tag_place = tested m f place rule.tag_place (λ e. absurd cc)
stable_rule m f place rule.not_available = all_available m f place

all_good : {A : Type 0} (Good : A → Type 0) (xs : List A) → ((x : A) → Stable (Good x)) → ((x : A) → FirstBad Good xs x → ⊥) → Each Good xs
all_good Good [] stable none = tt
all_good Good (x ∷ xs) stable none =
    let good : Good x = stable x (λ bad. none x (this bad)) in
    (good, all_good Good xs stable (λ y bad. none y (later good bad)))

pub faultless_is_accepted : FaultlessIsAccepted
faultless_is_accepted m none =
    accepted_of m (all_good (Passed m) (checks m) (λ c. stable_rule m c.func c.place c.rule) (λ c bad. none c.number c.place c.rule (c.func, bad)))
