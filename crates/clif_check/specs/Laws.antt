-- What holds of accepted texts.
use Rattle.std.specs.Prelude.{◌≡◌, ◌≤◌, ℕ, List, length, map}
use Rattle.clif_lex.specs.declared.faults.TextKind.{TextKind}
use Rattle.clif_read.specs.declared.raw.RawModule.{RawModule}
use Rattle.clif_read.specs.Texts.{IsModuleText}
use Rattle.clif_names.specs.Sizes.{most_functions}
use Rattle.ir_core.specs.Edits.{head_of}
use Rattle.ir_core.specs.Module.{Module}
use Rattle.ir_core.specs.WellFormed.{DifferentNames}
use Rattle.clif_check.specs.Declarations.{DeclareWithin}
use Rattle.clif_check.specs.Faults.{IsAccepted, FirstFault}
use Rattle.clif_check.specs.Stretches.{AreMeant}

abbrev pub AcceptedHasNoFault : Type 0
AcceptedHasNoFault =
    (text : List ℕ) (m : Module) (k : TextKind) (spot : ℕ) → IsAccepted text m → FirstFault text k spot → ⊥

-- with the law before: a text is accepted exactly where it has no first fault
abbrev pub FaultlessIsAccepted : Type 0
FaultlessIsAccepted =
    (text : List ℕ) → ((k : TextKind) (spot : ℕ) → FirstFault text k spot → ⊥) → (m : Module) × IsAccepted text m

abbrev pub OneFirstFault : Type 0
OneFirstFault =
    (text : List ℕ) (k l : TextKind) (s t : ℕ) → FirstFault text k s → FirstFault text l t → (k ≡ l) × (s ≡ t)

abbrev pub OneModule : Type 0
OneModule = (text : List ℕ) (m n : Module) → IsAccepted text m → IsAccepted text n → m ≡ n

-- the functions that the text means keep their own rules, and of the rule on callee declarations their heads tell
abbrev pub AcceptedByHeads : Type 0
AcceptedByHeads =
    (text : List ℕ) (raw : RawModule) (m : Module) → IsModuleText text raw → AreMeant raw.functions m
    → length m ≤ most_functions → DifferentNames (map head_of m)
    → DeclareWithin (map head_of m) 0 (length (map head_of m)) → IsAccepted text m
