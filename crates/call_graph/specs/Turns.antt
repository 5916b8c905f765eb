-- Pieces placed in turn, by numbers. A piece goes by its least function.
use Rattle.std.specs.Prelude.{◌≡◌, ℕ, zero, suc, ◌<◌, List, [], ◌∷◌, ◌++◌, length, get_or, nat_eq, if◌then◌else◌}
use Rattle.ir_core.specs.Lists.{In}
use Rattle.call_graph.specs.Calls.{InRange}
use Rattle.call_graph.specs.Numbers.{called}

-- the piece of a function
abbrev pub own : List ℕ → ℕ → ℕ
own piece x = get_or piece x 0

abbrev pub IsPiece : List ℕ → ℕ → Type 0
IsPiece piece p = (p < length piece) × (own piece p ≡ p)

-- each function has a piece
pub record Pieced (calls : List (List ℕ)) (piece : List ℕ) : Type 0 where
  pub in_range : InRange calls
  pub long : length piece ≡ length calls
  pub own_is : (x : ℕ) → x < length piece → IsPiece piece (own piece x)

-- the functions of a piece, in order
abbrev pub members_from : ℕ → ℕ → List ℕ → List ℕ
members_from p k [] = []
members_from p k (x ∷ xs) = if nat_eq x p then k ∷ members_from p (suc k) xs else members_from p (suc k) xs

abbrev pub members : List ℕ → ℕ → List ℕ
members piece p = members_from p 0 piece

-- a function of the piece p calls one of another piece q
pub record Calls (calls : List (List ℕ)) (piece : List ℕ) (p q : ℕ) : Type 0 where
  pub caller : ℕ
  pub callee : ℕ
  pub within : caller < length piece
  pub of_caller : own piece caller ≡ p
  pub call : In callee (called calls caller)
  pub of_callee : own piece callee ≡ q
  pub other : q ≡ p → ⊥

-- some piece that p calls is not placed
abbrev pub Waits : List (List ℕ) → List ℕ → List ℕ → ℕ → Type 0
Waits calls piece placed p = (q : ℕ) × Calls calls piece p q × (In q placed → ⊥)

-- p is the least of the pieces that are not placed and wait for none
pub record Next (calls : List (List ℕ)) (piece placed : List ℕ) (p : ℕ) : Type 0 where
  pub is_piece : IsPiece piece p
  pub unplaced : In p placed → ⊥
  pub ready : (q : ℕ) → Calls calls piece p q → In q placed
  pub first : (r : ℕ) → r < p → IsPiece piece r → (In r placed → ⊥) → Waits calls piece placed r

pub data Turns (calls : List (List ℕ)) (piece : List ℕ) : List ℕ → Type 0 where
  begin : Turns calls piece []
  turn : {placed : List ℕ} {p : ℕ} → Turns calls piece placed → Next calls piece placed p →
      Turns calls piece (placed ++ members piece p)

-- there is no next piece
pub record Ordered (calls : List (List ℕ)) (piece list : List ℕ) : Type 0 where
  pub turns : Turns calls piece list
  pub ended : (r : ℕ) → IsPiece piece r → (In r list → ⊥) → Waits calls piece list r
