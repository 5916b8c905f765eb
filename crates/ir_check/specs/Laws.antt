-- What holds of the first fault.
use Rattle.std.specs.Prelude.{◌≡◌, ◌⊎◌, ◌++◌, ℕ, List, Bool, Some, None, Decides, slice_get}
use Rattle.ir_core.specs.declared.places.Item.{Item}
use Rattle.ir_core.specs.declared.declarations.Callee.{Callee}
use Rattle.ir_core.specs.declared.places.Item.TheVariants as item
use Rattle.ir_core.specs.Module.{Line, Block, Function, Module}
use Rattle.ir_core.specs.Lookup.{block_numbers}
use Rattle.ir_core.specs.Lists.{In, Each, Different}
use Rattle.ir_semantics.specs.Available.{Available}
use Rattle.ir_semantics.specs.Accepted.{Rule, not_available, Holds, Accepted}
use Rattle.ir_check.specs.Faults.{Check, Passed, checks, FirstFault}
use Rattle.ir_check.specs.Twins.{kept, kept_at_line, kept_at_block, kept_at_callee, first_failing, first_fault}
use Rattle.ir_check.specs.Twins.{early_fault, or_else}

abbrev pub AtMostOne : Type 0
AtMostOne =
    (m : Module) (n k : ℕ) (place other : Item) (rule second : Rule) → FirstFault m n place rule
    → FirstFault m k other second → (n ≡ k) × (place ≡ other) × (rule ≡ second)

-- a fault is a rule that is not kept, at a function of the module
abbrev pub FaultIsReal : Type 0
FaultIsReal =
    (m : Module) (n : ℕ) (place : Item) (rule : Rule) → FirstFault m n place rule
    → (f : Function) × (slice_get m n ≡ Some f) × (Holds m f place rule → ⊥)

abbrev pub AcceptedHasNone : Type 0
AcceptedHasNone = (m : Module) (n : ℕ) (place : Item) (rule : Rule) → Accepted m → FirstFault m n place rule → ⊥

-- and a module without one is accepted
abbrev pub FaultlessIsAccepted : Type 0
FaultlessIsAccepted =
    (m : Module) → ((n : ℕ) (place : Item) (rule : Rule) → FirstFault m n place rule → ⊥) → Accepted m

-- a module is accepted exactly where all that is tried passes
abbrev pub AllPassed : Type 0
AllPassed = (m : Module) → (Each (Passed m) (checks m) → Accepted m) × (Accepted m → Each (Passed m) (checks m))

-- at each rule it is known whether it is kept
abbrev pub Known : Module → Type 0
Known m = (c : Check) → Passed m c ⊎ (Passed m c → ⊥)

-- then the module is accepted, or it has a first fault
abbrev pub AcceptedOrFault : Type 0
AcceptedOrFault =
    (m : Module) → Known m → Accepted m ⊎ ((n : ℕ) × (place : Item) × (rule : Rule) × FirstFault m n place rule)

-- ---- the rules as tests

abbrev pub Tells : (Function → ℕ → ℕ → ℕ → Bool) → Function → Type 0
Tells available f = (b i v : ℕ) → Decides (available f b i v) (Available f b i v)

-- each test is true exactly where the rule is kept; for all rules but availability nothing is asked of the test for it
abbrev pub RulesAreTests : Type 0
RulesAreTests =
    (available : Function → ℕ → ℕ → ℕ → Bool) (m : Module) (f : Function) (place : Item) (rule : Rule)
    → (rule ≡ not_available → Tells available f) → Decides (kept available m f place rule) (Holds m f place rule)

-- the first fault is the one that the tests find, and where they find none the module is accepted
abbrev pub FaultByTests : Type 0
FaultByTests =
    (available : Function → ℕ → ℕ → ℕ → Bool) (m : Module) → ((f : Function) → In f m → Tells available f)
    → ((c : Check) → first_fault available m ≡ Some c → FirstFault m c.number c.place c.rule)
    × (first_fault available m ≡ None → Accepted m) × (Accepted m → first_fault available m ≡ None)

-- the first fault by another rule than availability needs no test for it
abbrev pub EarlyFault : Type 0
EarlyFault = (m : Module) (c : Check) → early_fault m ≡ Some c → FirstFault m c.number c.place c.rule

-- ---- for a walk over the text

abbrev pub InParts : Type 0
InParts =
    (t : Check → Bool) (xs ys : List Check)
    → first_failing t (xs ++ ys) ≡ or_else (first_failing t xs) (first_failing t ys)

-- at a part that stands in the function, a test speaks of the part itself
abbrev pub AtCallee : Type 0
AtCallee =
    (available : Function → ℕ → ℕ → ℕ → Bool) (m : Module) (f : Function) (k : ℕ) (c : Callee) (rule : Rule)
    → slice_get f.callees k ≡ Some c → kept available m f (item.Callee k) rule ≡ kept_at_callee available m f c rule

abbrev pub AtBlock : Type 0
AtBlock =
    (available : Function → ℕ → ℕ → ℕ → Bool) (m : Module) (f : Function) (b : Block) (rule : Rule)
    → Different (block_numbers f.blocks) → In b f.blocks
    → kept available m f (item.Block b.number) rule ≡ kept_at_block available f b.number b rule

abbrev pub AtLine : Type 0
AtLine =
    (available : Function → ℕ → ℕ → ℕ → Bool) (m : Module) (f : Function) (b : Block) (i : ℕ) (l : Line) (rule : Rule)
    → Different (block_numbers f.blocks) → In b f.blocks → slice_get b.lines i ≡ Some l
    → kept available m f (item.Inst (record { block = b.number; index = i })) rule
    ≡ kept_at_line available f b.number b i l rule
