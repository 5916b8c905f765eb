-- The rule: the words, the slots at home and the views show a state of the board machine.
use Rattle.std.specs.Prelude.{◌≡◌, ◌≢◌, ℕ, zero, suc, ◌+◌, ◌<◌, ◌≤◌, nat_lt, Bool, true, false, ◌&&◌, if◌then◌else◌}
use Rattle.std.specs.Prelude.{List, length, slice_index, Some, None, Option}
use Rattle.std.specs.Arc.{arc_value}
use Rattle.std.specs.declared.sync.Arc.{Arc}
use Rattle.std.specs.declared.alloc.Global.{Global}
use mathlib.Core.Option.{some}
use mathlib.Core.Option as maybe
use lib.ListN.{get_elem?}
use Rattle.atomic_table.specs.Table.{State}
use Rattle.board_core.specs.Machine.{start, run, phase_at, owner_at}
use Rattle.board_core.specs.declared.state.Mark.TheVariants as mark
use Rattle.board_core.specs.declared.state.Phase.{Phase}
use Rattle.board_core.specs.declared.state.Phase.TheVariants as phase
use Rattle.board_core.specs.declared.state.BoardEvent.{BoardEvent}
use Rattle.board_core.specs.declared.state.BoardState.{BoardState}
use Rattle.publish_table.specs.declared.job.Job.{Job}
use Rattle.inline_finish.specs.declared.bodies.Built.{Built}
use Rattle.publish_table.specs.declared.view.Cell.{Cell}
use Rattle.publish_table.specs.declared.view.Cell.TheVariants.{Body, Refused}
use Rattle.publish_table.specs.declared.view.Stage.TheVariants.{Idle, Filling, Reading}
use Rattle.publish_table.specs.declared.view.View.{View}
use Rattle.publish_table.specs.Jobs.{tickets, IsFinished}
use Rattle.publish_table.specs.Plays.{total, count, fresh}

abbrev pub first_view : Job → View
first_view job = fresh job 1

-- a body stands in the cell, at home or with a reader
abbrev pub has_body : Phase → Bool
has_body phase.Vacant = false
has_body (phase.Filling w) = false
has_body (phase.Full mark.Body) = true
has_body (phase.Full mark.Refused) = false
has_body (phase.Reading w) = true

-- the word and the slot of a ticket, by the phase of its cell
abbrev pub CellIs : Job → ℕ → ℕ → maybe.Option (maybe.Option (Option Cell)) → Phase → Type 0
CellIs job t word home phase.Vacant = (word ≡ 0) × (home ≡ some (some None))
CellIs job t word home (phase.Filling w) = word ≡ 1
CellIs job t word home (phase.Full mark.Body) =
    (word ≡ 2)
    × ((a : Arc Built Global) × (home ≡ some (some (Some (Body a)))) × IsFinished job t (arc_value a))
CellIs job t word home (phase.Full mark.Refused) = (word ≡ 4) × (home ≡ some (some (Some Refused)))
CellIs job t word home (phase.Reading w) = word ≡ 3

-- what the view v of the seat j shows of the board b
pub record Knows (job : Job) (b : BoardState) (j : ℕ) (v : View) : Type 0 where
  pub job_is : 0 < v.seats → v.job ≡ job
  pub inside : (t : ℕ) → 0 < count t v.drawn → t < tickets job
  pub owned : v.seats ≡ 1 → (t : ℕ) → 0 < count t v.drawn → owner_at b t ≡ Some j
  pub fills : (t : ℕ) → v.stage ≡ Filling t → phase_at b t ≡ phase.Filling j
  pub reads : (t : ℕ) → v.stage ≡ Reading t → phase_at b t ≡ phase.Reading j
  pub bodies : (t : ℕ) → 0 < count t v.bodies → has_body (phase_at b t) ≡ true
  pub refusals : (t : ℕ) → 0 < count t v.refusals → phase_at b t ≡ phase.Full mark.Refused
  -- it fills only what it drew, and that once
  pub fills_once : (t : ℕ) → count t v.bodies + count t v.refusals ≤ count t v.drawn
  pub pending : (t : ℕ) → 0 < count t v.drawn → count t v.bodies ≡ 0 → count t v.refusals ≡ 0
      → v.stage ≢ Filling t → phase_at b t ≡ phase.Vacant
  pub read : (t : ℕ) → 0 < count t v.read → has_body (phase_at b t) ≡ true
  pub refused : (t : ℕ) → 0 < count t v.refused → phase_at b t ≡ phase.Full mark.Refused
  pub ended : 0 < v.ends → tickets job ≤ b.next
  pub ends_few : v.ends ≤ v.seats
  pub idle : v.seats ≢ 1 → v.stage ≡ Idle
  pub spent : v.seats ≡ 0 → (t : ℕ) → count t v.drawn ≡ 0

abbrev pub ends_of : View → ℕ
ends_of v = v.ends

abbrev pub seats_of : View → ℕ
seats_of v = v.seats

-- 1 for each of the n tickets below next
abbrev pub once_below : ℕ → ℕ → ℕ → ℕ
once_below n next t = if nat_lt t n && nat_lt t next then 1 else 0

-- h of each number below k, added up
abbrev pub below : (ℕ → ℕ) → ℕ → ℕ
below h zero = 0
below h (suc k) = below h k + h k

-- how many of the n tickets are drawn
abbrev pub reached : ℕ → ℕ → ℕ
reached n next = if nat_lt next n then next else n

-- the seat j is there, and has drawn the ticket t unless it was joined into another
abbrev pub HasDrawn : List View → ℕ → ℕ → Type 0
HasDrawn vs j t = (v : View) × (get_elem? vs j ≡ some v) × (0 < v.seats → 0 < count t v.drawn)

-- what the words, the cells at home and the views show of the board after these events
pub record ShowsAfter (job : Job) (events : List BoardEvent) (s : State (Option Cell) View) : Type 0 where
  pub board : BoardState
  pub board_is : run (start (tickets job)) events ≡ board
  pub wide : length s.words ≡ tickets job + 1
  pub deep : length s.homes ≡ tickets job
  pub next_is : slice_index s.words 0 ≡ board.next
  -- the count never wraps: a seat that was answered None raises it once
  pub bounded : board.next ≤ tickets job + total ends_of s.views
  pub few : length s.views ≤ 64
  pub small : tickets job < 9223372036854775808
  pub each_cell : (t : ℕ) → t < tickets job
      → CellIs job t (slice_index s.words (t + 1)) (get_elem? s.homes t) (phase_at board t)
  pub each_seat : (j : ℕ) (v : View) → get_elem? s.views j ≡ some v → Knows job board j v
  pub owners : (t j : ℕ) → owner_at board t ≡ Some j → HasDrawn s.views j t
  pub whole : total seats_of s.views ≡ length s.views
  pub made : (v : View) → get_elem? s.views 0 ≡ some v → v.made ≡ length s.views
  -- each ticket that was drawn stands once among all views, however tickets are weighed
  pub weighed : (h : ℕ → ℕ) → total (λ v. total h v.drawn) s.views ≡ below h (reached (tickets job) board.next)
  pub reader : (t w : ℕ) → phase_at board t ≡ phase.Reading w
      → (v : View) × (get_elem? s.views w ≡ some v) × (v.stage ≡ Reading t)

-- what holds between any two steps
abbrev pub Shows : Job → State (Option Cell) View → Type 0
Shows job s = (events : List BoardEvent) × ShowsAfter job events s
