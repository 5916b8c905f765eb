-- The board machine. Workers draw tickets 0, 1, 2 and so on, each for the function of that number. The owner of a
-- ticket fills its cell once, with a body or with a refusal. A full cell with a body is read by one worker at a time.
-- This file says which events are allowed in a state, and the state after each.
use Rattle.std.specs.Prelude.{ℕ, ◌+◌, ◌==◌, nat_lt, Bool, true, false, ◌&&◌, if◌then◌else◌, List, [], ◌∷◌, Option, Some}
use Rattle.std.specs.Prelude.{None, slice_get, slice_set, slice_index_or, replicate}
use Rattle.board_core.specs.declared.state.Mark.TheVariants.{Body, Refused}
use Rattle.board_core.specs.declared.state.Phase.{Phase}
use Rattle.board_core.specs.declared.state.Phase.TheVariants.{Vacant, Filling, Full, Reading}
use Rattle.board_core.specs.declared.state.BoardEvent.{BoardEvent}
use Rattle.board_core.specs.declared.state.BoardEvent.TheVariants.{Draw, BeginFill, EndFill, BeginRead, EndRead}
use Rattle.board_core.specs.Board.{Board}

-- nothing is drawn, and each cell is empty
abbrev pub start : ℕ → Board
start functions = record { next = 0; owners = replicate functions None; phases = replicate functions Vacant }

-- what a list of owners, or of phases, has at a ticket: `None` where the ticket has no function
abbrev pub is_owned_by : ℕ → Option (Option ℕ) → Bool
is_owned_by worker None = false
is_owned_by worker (Some None) = false
is_owned_by worker (Some (Some owner)) = owner == worker

abbrev pub is_vacant : Option Phase → Bool
is_vacant None = false
is_vacant (Some Vacant) = true
is_vacant (Some (Filling filler)) = false
is_vacant (Some (Full mark)) = false
is_vacant (Some (Reading reader)) = false

abbrev pub is_filled_by : ℕ → Option Phase → Bool
is_filled_by worker None = false
is_filled_by worker (Some Vacant) = false
is_filled_by worker (Some (Filling filler)) = filler == worker
is_filled_by worker (Some (Full mark)) = false
is_filled_by worker (Some (Reading reader)) = false

abbrev pub is_read_by : ℕ → Option Phase → Bool
is_read_by worker None = false
is_read_by worker (Some Vacant) = false
is_read_by worker (Some (Filling filler)) = false
is_read_by worker (Some (Full mark)) = false
is_read_by worker (Some (Reading reader)) = reader == worker

abbrev pub has_body : Option Phase → Bool
has_body None = false
has_body (Some Vacant) = false
has_body (Some (Filling filler)) = false
has_body (Some (Full Body)) = true
has_body (Some (Full Refused)) = false
has_body (Some (Reading reader)) = false

-- a draw is allowed while the next ticket is below the greatest number of 64 bits
abbrev pub is_allowed : Board → BoardEvent → Bool
is_allowed board (Draw worker) = nat_lt board.next 18446744073709551615
is_allowed board (BeginFill worker ticket) =
    is_owned_by worker (slice_get board.owners ticket) && is_vacant (slice_get board.phases ticket)
is_allowed board (EndFill worker ticket mark) = is_filled_by worker (slice_get board.phases ticket)
is_allowed board (BeginRead worker ticket) = has_body (slice_get board.phases ticket)
is_allowed board (EndRead worker ticket) = is_read_by worker (slice_get board.phases ticket)

-- the state after an event that is allowed; a drawn ticket gets an owner where it has a function
abbrev pub changed_by : Board → BoardEvent → Board
changed_by board (Draw worker) =
    record { next = board.next + 1; owners = slice_set board.owners board.next (Some worker); phases = board.phases }
changed_by board (BeginFill worker ticket) =
    record { next = board.next; owners = board.owners; phases = slice_set board.phases ticket (Filling worker) }
changed_by board (EndFill worker ticket mark) =
    record { next = board.next; owners = board.owners; phases = slice_set board.phases ticket (Full mark) }
changed_by board (BeginRead worker ticket) =
    record { next = board.next; owners = board.owners; phases = slice_set board.phases ticket (Reading worker) }
changed_by board (EndRead worker ticket) =
    record { next = board.next; owners = board.owners; phases = slice_set board.phases ticket (Full Body) }

-- the state after an event: an event that is not allowed changes nothing
abbrev pub after : Board → BoardEvent → Board
after board event = if is_allowed board event then changed_by board event else board

-- the state after each event of a list, in turn
abbrev pub run : Board → List BoardEvent → Board
run board [] = board
run board (event ∷ events) = run (after board event) events

-- the answers of `step` to each event of a list, in turn
abbrev pub answers : Board → List BoardEvent → List Bool
answers board [] = []
answers board (event ∷ events) = is_allowed board event ∷ answers (after board event) events

-- a ticket without a function has an empty cell and no owner
abbrev pub phase_at : Board → ℕ → Phase
phase_at board ticket = slice_index_or board.phases ticket Vacant

abbrev pub owner_at : Board → ℕ → Option ℕ
owner_at board ticket = slice_index_or board.owners ticket None
