-- What a walk over a part of the module's checks finds: the first that does not pass, or that all pass.
use Rattle.std.specs.Prelude.{ℕ, List, ◌∷◌, Option, Some, None, Bool}
use Rattle.ir_core.specs.declared.declarations.Callee.{Callee}
use Rattle.ir_core.specs.declared.places.Item.{Item}
use Rattle.ir_core.specs.declared.places.Item.TheVariants as item
use Rattle.ir_core.specs.Edits.{params_of, lines_of}
use Rattle.ir_core.specs.Module.{Block, Function, Module}
use Rattle.ir_core.specs.Lists.{Each}
use Rattle.ir_semantics.specs.Accepted.{Rule}
use Rattle.ir_check.specs.declared.faults.Fault.{Fault}
use Rattle.ir_check.specs.Faults.{Check, check, FirstBad, Passed, tried_at, callee_items, line_items, block_items}
use Rattle.ir_check.specs.Faults.{items}
use Rattle.ir_check.specs.Kinds.{rule_of}
use Rattle.ir_check.specs.Twins.{always_available, implies, is_first, kept_at_block, kept_at_callee}

-- among checks of the function f
abbrev pub Finds : Module → Function → List Check → Option Fault → Type 0
Finds m f checks None = Each (Passed m) checks
Finds m f checks (Some e) = FirstBad (Passed m) checks (check e.func f e.item (rule_of e.kind))

-- in whichever module the function stands
abbrev pub FindsIn : Function → List Check → Option Fault → Type 0
FindsIn f checks found = (m : Module) → Finds m f checks found

-- among checks of several functions
abbrev pub FindsAny : Module → List Check → Option Fault → Type 0
FindsAny m checks None = Each (Passed m) checks
FindsAny m checks (Some e) = (f : Function) × FirstBad (Passed m) checks (check e.func f e.item (rule_of e.kind))

-- the block of this number
abbrev pub block_at : Function → ℕ → Block
block_at f b = record { number = b; params = params_of b f.blocks; lines = lines_of b f.blocks }

-- the parts of the block of this number
abbrev pub block_parts : Function → ℕ → List Item
block_parts f b = item.Block b ∷ line_items b 0 (lines_of b f.blocks)

-- ---- the checks by some rules of the function f, which stands at the place n

abbrev pub line_checks : List Rule → ℕ → Function → ℕ → List Check
line_checks rules n f b = tried_at rules n f (line_items b 0 (lines_of b f.blocks))

abbrev pub block_checks : List Rule → ℕ → Function → ℕ → List Check
block_checks rules n f b = tried_at rules n f (block_parts f b)

abbrev pub checks_of_blocks : List Rule → ℕ → Function → List Check
checks_of_blocks rules n f = tried_at rules n f (block_items f.blocks)

abbrev pub checks_of_callees : List Rule → ℕ → Function → List Check
checks_of_callees rules n f = tried_at rules n f (callee_items 0 f.callees)

abbrev pub checks_of_function : List Rule → ℕ → Function → List Check
checks_of_function rules n f = tried_at rules n f (items f)

-- ---- the tests but availability

abbrev pub block_keeps : Function → ℕ → Rule → Bool
block_keeps f b rule = kept_at_block always_available f b (block_at f b) rule

abbrev pub callee_keeps : Module → Function → Callee → Rule → Bool
callee_keeps m f c rule = kept_at_callee always_available m f c rule

-- a test of the block of this number, if it is the first
abbrev pub if_first : Function → ℕ → (Function → Block → Bool) → Bool
if_first f b test = implies (is_first always_available f b) (test f (block_at f b))
