-- Two modules with the same outcomes. For each entry call, script and memory whose run reads no unwritten slot byte,
-- each outcome of the one after n steps is one of the other after as many steps or more, and each outcome of the other
-- is one of the first after as many steps or fewer.
use Rattle.std.specs.Prelude.{◌≡◌, ◌≢◌, ◌≤◌, ◌*◌, ℕ, List}
use Rattle.clk_num.specs.Operations.{DataValue}
use Rattle.ir_core.specs.declared.names.FuncName.{FuncName}
use Rattle.ir_core.specs.Module.{Module}
use Rattle.ir_semantics.specs.Machine.{World, Unwritten, Stuck}
use Rattle.ir_semantics.specs.Runs.{outcome, IsEntry}

-- no step of this run reads an unwritten byte
abbrev pub Written : Module → FuncName → List DataValue → World → Type 0
Written m entry args w = (n : ℕ) → (outcome m entry args w n).end ≢ Unwritten

-- no step of this run lacks what an accepted module has
abbrev pub Safe : Module → FuncName → List DataValue → World → Type 0
Safe m entry args w = (n : ℕ) → (outcome m entry args w n).end ≢ Stuck

abbrev pub Forth : Module → Module → FuncName → List DataValue → World → Type 0
Forth m r entry args w = (n : ℕ) → (k : ℕ) × (n ≤ k) × (outcome r entry args w k ≡ outcome m entry args w n)

abbrev pub Back : Module → Module → FuncName → List DataValue → World → Type 0
Back m r entry args w = (k : ℕ) → (n : ℕ) × (n ≤ k) × (outcome r entry args w k ≡ outcome m entry args w n)

pub record Same (m r : Module) : Type 0 where
  pub forth : (entry : FuncName) (args : List DataValue) (w : World) → IsEntry m entry args → Written m entry args w
      → Forth m r entry args w
  pub back : (entry : FuncName) (args : List DataValue) (w : World) → IsEntry m entry args → Written m entry args w
      → Back m r entry args w

-- the same, where at most twice the steps are needed
abbrev pub ForthWithinDouble : Module → Module → FuncName → List DataValue → World → Type 0
ForthWithinDouble m r entry args w =
    (n : ℕ) → (k : ℕ) × (n ≤ k) × (k ≤ 2 * n) × (outcome r entry args w k ≡ outcome m entry args w n)

pub record SameWithinDouble (m r : Module) : Type 0 where
  pub forth : (entry : FuncName) (args : List DataValue) (w : World) → IsEntry m entry args → Written m entry args w
      → ForthWithinDouble m r entry args w
  pub back : (entry : FuncName) (args : List DataValue) (w : World) → IsEntry m entry args → Written m entry args w
      → Back m r entry args w
