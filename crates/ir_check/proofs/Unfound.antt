-- No use is found where each value that is used is available.
use Rattle.std.proofs.Common.{ℕ, List, [], ◌∷◌}
use Rattle.ir_core.specs.declared.places.Item.{Item}
use Rattle.ir_core.specs.declared.places.Item.TheVariants as item
use Rattle.ir_core.specs.Module.{Function, Module}
use Rattle.ir_core.specs.Lists.{Each}
use Rattle.ir_semantics.specs.Accepted.{not_available, Holds}
use Rattle.avail_flow.proofs.Blocks.{has_lines}
use Rattle.used_values.specs.Nearby.{AllUsesAvailable}
use Rattle.used_values.proofs.Passing.{line_got}
use Rattle.ir_check.specs.Faults.{tried_at, last_rules, items, Passed}

held : (m : Module) (f : Function) → AllUsesAvailable f → (place : Item) → Holds m f place not_available
held m f uses item.Whole = tt
held m f uses (item.Callee k) = λ c e. tt
held m f uses (item.Block b) = λ block e. tt
held m f uses (item.Inst at) = λ block l found got.
    let there = line_got f at.block at.index block l found got in
    uses at.block (has_lines at.block f.blocks at.index l there) at.index l there

all_held : (m : Module) (n : ℕ) (f : Function) → AllUsesAvailable f → (places : List Item) → Each (Passed m) (tried_at last_rules n f places)
all_held m n f uses [] = tt
all_held m n f uses (place ∷ places) = (held m f uses place, all_held m n f uses places)

pub none_found : (m : Module) (n : ℕ) (f : Function) → AllUsesAvailable f → Each (Passed m) (tried_at last_rules n f (items f))
none_found m n f uses = all_held m n f uses (items f)
