-- Finished bodies by the numbers of their functions.
use Rattle.std.specs.Prelude.{◌≡◌, ℕ, List, Some, IsSome}
use Rattle.std.specs.Arc.{arc_value}
use Rattle.std.specs.Ordering.{nat_cmp}
use Rattle.std.specs.BTreeMap.{BTreeMap, get}
use Rattle.std.specs.declared.sync.Arc.{Arc}
use Rattle.std.specs.declared.alloc.Global.{Global}
use Rattle.ir_core.specs.Lists.{In}
use Rattle.ir_core.specs.Module.{Module}
use Rattle.inline_finish.specs.declared.bodies.Built.{Built}
use Rattle.inline_finish.specs.declared.bodies.Policy.{Policy}
use Rattle.inline_finish.specs.Bodies.{IsBodyOf, AreCountsOf}
use Rattle.inline_finish.specs.Building.{policy_of}

-- the functions of a module of which there are bodies that are finished by a policy
pub record Held : Type 0 where
  pub functions : Module
  pub policy : Policy
  pub known : List ℕ

-- the finished body of the function of this number, with what counts of it
abbrev pub IsHeld : Policy → Module → ℕ → Built → Type 0
IsHeld p m k b = IsBodyOf (policy_of p) m k b.func.function × AreCountsOf (policy_of p) m k b.counts

-- each is that of its function
abbrev pub AreBodies : Policy → Module → BTreeMap ℕ (Arc Built Global) → Type 0
AreBodies p m built =
    (k : ℕ) (a : Arc Built Global) → get nat_cmp built k ≡ Some a → IsHeld p m k (arc_value a)

-- there is one of each of these functions
abbrev pub Has : BTreeMap ℕ (Arc Built Global) → List ℕ → Type 0
Has built known = (k : ℕ) → In k known → IsSome (get nat_cmp built k)
