-- Membership, difference and bounds in lists.
use Rattle.std.specs.Prelude.{◌≡◌, ℕ, ◌<◌, ◌⊎◌, ⊤, List, [], ◌∷◌}

-- a stands in the list
abbrev pub In : {A : Type 0} → A → List A → Type 0
In a [] = ⊥
In a (b ∷ bs) = (a ≡ b) ⊎ In a bs

-- P holds of each
abbrev pub Each : {A : Type 0} → (A → Type 0) → List A → Type 0
Each P [] = ⊤
Each P (a ∷ as') = P a × Each P as'

-- no number stands in the list twice
abbrev pub Different : List ℕ → Type 0
Different [] = ⊤
Different (n ∷ ns) = (In n ns → ⊥) × Different ns

-- each number is below the bound
abbrev pub Below : ℕ → List ℕ → Type 0
Below bound ns = Each (λ n. n < bound) ns
