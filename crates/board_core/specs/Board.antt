-- The board, as contracts see it.
use Rattle.std.specs.Prelude.{ℕ, List, Option}
use Rattle.board_core.specs.declared.state.Phase.{Phase}

pub record Board : Type 0 where
  -- the ticket that the next draw gives
  pub next : ℕ
  -- who drew each function's ticket
  pub owners : List (Option ℕ)
  -- the phase of each function's cell
  pub phases : List Phase
