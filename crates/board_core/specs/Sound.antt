-- What holds of the board after any list of events of any workers, and what the events did: each ticket is drawn once,
-- each cell is filled once, by the ticket's owner.
use Rattle.std.specs.Prelude.{◌≡◌, ℕ, ◌<◌, ◌≤◌, ◌==◌, if◌then◌else◌, List, [], ◌∷◌, ◌++◌, length, Option, Some, None}
use Rattle.board_core.specs.declared.state.Mark.{Mark}
use Rattle.board_core.specs.declared.state.Mark.TheVariants.{Body}
use Rattle.board_core.specs.declared.state.Phase.{Phase}
use Rattle.board_core.specs.declared.state.Phase.TheVariants.{Vacant, Filling, Full, Reading}
use Rattle.board_core.specs.declared.state.BoardEvent.{BoardEvent}
use Rattle.board_core.specs.declared.state.BoardEvent.TheVariants.{Draw, BeginFill, EndFill, BeginRead, EndRead}
use Rattle.board_core.specs.Board.{Board}
use Rattle.board_core.specs.Machine.{start, is_allowed, after, run, phase_at, owner_at}

-- each ticket below `next` that has a function has an owner, and no other ticket has one; a cell that is not vacant has
-- an owner, and the owner is the one that fills it
pub record IsSound (functions : ℕ) (board : Board) : Type 0 where
  pub owners : length board.owners ≡ functions
  pub phases : length board.phases ≡ functions
  pub owned : (ticket : ℕ) → ticket < board.next → ticket < functions
      → (worker : ℕ) × (owner_at board ticket ≡ Some worker)
  pub unowned : (ticket : ℕ) → board.next ≤ ticket → owner_at board ticket ≡ None
  pub beyond : (ticket : ℕ) → functions ≤ ticket → owner_at board ticket ≡ None
  pub vacant : (ticket : ℕ) → owner_at board ticket ≡ None → phase_at board ticket ≡ Vacant
  pub filler : (ticket worker : ℕ) → phase_at board ticket ≡ Filling worker → owner_at board ticket ≡ Some worker

-- the end of a fill: by whom, and with which mark
pub record Fill : Type 0 where
  pub worker : ℕ
  pub mark : Mark

-- the worker that draws the ticket by the event, where that is allowed
abbrev pub drawn_by : ℕ → Board → BoardEvent → List ℕ
drawn_by ticket board (Draw worker) =
    if is_allowed board (Draw worker) then (if board.next == ticket then worker ∷ [] else []) else []
drawn_by ticket board (BeginFill worker filled) = []
drawn_by ticket board (EndFill worker filled mark) = []
drawn_by ticket board (BeginRead worker read) = []
drawn_by ticket board (EndRead worker read) = []

-- the fill of the ticket's cell that ends by the event, where that is allowed
abbrev pub filled_by : ℕ → Board → BoardEvent → List Fill
filled_by ticket board (Draw worker) = []
filled_by ticket board (BeginFill worker filled) = []
filled_by ticket board (EndFill worker filled mark) =
    if is_allowed board (EndFill worker filled mark)
    then (if filled == ticket then record { worker = worker; mark = mark } ∷ [] else []) else []
filled_by ticket board (BeginRead worker read) = []
filled_by ticket board (EndRead worker read) = []

-- the workers that draw the ticket, and the ends of fills of its cell, along a list of events
abbrev pub draws : ℕ → Board → List BoardEvent → List ℕ
draws ticket board [] = []
draws ticket board (event ∷ events) = drawn_by ticket board event ++ draws ticket (after board event) events

abbrev pub fills : ℕ → Board → List BoardEvent → List Fill
fills ticket board [] = []
fills ticket board (event ∷ events) = filled_by ticket board event ++ fills ticket (after board event) events

-- the fills of a cell, by its phase: none before it is full, and then one, of its owner, with its mark; it is read only
-- where that mark is `Body`
abbrev pub FilledAs : Option ℕ → List Fill → Phase → Type 0
FilledAs owner ends Vacant = ends ≡ []
FilledAs owner ends (Filling filler) = ends ≡ []
FilledAs owner ends (Full mark) =
    (worker : ℕ) × (owner ≡ Some worker) × (ends ≡ record { worker = worker; mark = mark } ∷ [])
FilledAs owner ends (Reading reader) =
    (worker : ℕ) × (owner ≡ Some worker) × (ends ≡ record { worker = worker; mark = Body } ∷ [])

-- one worker drew the ticket, which owns it where it has a function
pub record DrawnOnce (functions ticket : ℕ) (workers : List ℕ) (owner : Option ℕ) : Type 0 where
  pub worker : ℕ
  pub once : workers ≡ worker ∷ []
  pub owns : ticket < functions → owner ≡ Some worker

-- what holds after a list of events, from a board of this many functions on which nothing happened
pub record IsTold (functions : ℕ) (events : List BoardEvent) : Type 0 where
  pub sound : IsSound functions (run (start functions) events)
  pub drawn : (ticket : ℕ) → ticket < (run (start functions) events).next
      → DrawnOnce functions ticket (draws ticket (start functions) events)
      (owner_at (run (start functions) events) ticket)
  pub undrawn : (ticket : ℕ) → (run (start functions) events).next ≤ ticket → draws ticket (start functions) events ≡ []
  pub filled : (ticket : ℕ)
      → FilledAs (owner_at (run (start functions) events) ticket) (fills ticket (start functions) events)
      (phase_at (run (start functions) events) ticket)
