-- Finished bodies in places, one for each function of a module.
use Rattle.std.specs.Prelude.{◌≡◌, ℕ, suc, ◌<◌, List, [], ◌∷◌, Option, Some, None, IsSomeAnd, length, slice_get}
use Rattle.ir_core.specs.Module.{Module}
use Rattle.inline_finish.specs.declared.bodies.Built.{Built}
use Rattle.inline_finish.specs.declared.bodies.Policy.{Policy}
use Rattle.inline_finish.specs.Building.{policy_of, IsBuilt}

-- the places for the functions of a module, whose bodies are finished by a policy
pub record Table : Type 0 where
  pub functions : Module
  pub policy : Policy
  pub built : List (Option Built)

-- the finished body of the function of this number
abbrev pub IsBuiltFor : Policy → Module → ℕ → Built → Type 0
IsBuiltFor p m k b = IsSomeAnd (slice_get m k) (λ f. IsBuilt (policy_of p) m f b)

-- a place for each function, and in it the function's finished body or nothing
pub record AreBuilt (p : Policy) (m : Module) (built : List (Option Built)) : Type 0 where
  pub long : length built ≡ length m
  pub each : (k : ℕ) (b : Built) → slice_get built k ≡ Some (Some b) → IsBuiltFor p m k b

-- the numbers of the places with something in them, where the first has the number k
abbrev pub filled_from : ℕ → List (Option Built) → List ℕ
filled_from k [] = []
filled_from k (None ∷ places) = filled_from (suc k) places
filled_from k (Some b ∷ places) = k ∷ filled_from (suc k) places

abbrev pub filled : List (Option Built) → List ℕ
filled places = filled_from 0 places

-- there is something in the place of this number
abbrev pub IsFilled : List (Option Built) → ℕ → Type 0
IsFilled places k = (b : Built) × (slice_get places k ≡ Some (Some b))

-- each place is filled
abbrev pub AllFilled : List (Option Built) → Type 0
AllFilled places = (k : ℕ) → k < length places → IsFilled places k
