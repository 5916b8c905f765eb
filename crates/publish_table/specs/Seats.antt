-- What a clause says of a seat of a board.
use Rattle.std.specs.Prelude.{◌≡◌, ℕ, ◌+◌, ◌<◌, List, [], ◌∷◌, ◌++◌, All, length, slice_get, Option, Some}
use Rattle.std.specs.Arc.{arc_value}
use Rattle.std.specs.declared.sync.Arc.{Arc}
use Rattle.std.specs.declared.alloc.Global.{Global}
use Rattle.atomic_table.specs.Table.{Me}
use Rattle.atomic_table.specs.declared.shared.Seat as place
use Rattle.atomic_table.specs.declared.shared.Shared.{Shared}
use Rattle.ir_core.specs.Module.{Module}
use Rattle.publish_table.specs.declared.board.Board.{Board}
use Rattle.publish_table.specs.declared.board.BoardRule.{BoardRule}
use Rattle.publish_table.specs.declared.board.Seat.{Seat}
use Rattle.publish_table.specs.declared.job.Job.{Job}
use Rattle.inline_finish.specs.declared.bodies.Policy.{Policy}
use Rattle.inline_finish.specs.declared.bodies.Built.{Built}
use Rattle.publish_table.specs.declared.view.Cell.{Cell}
use Rattle.publish_table.specs.declared.view.Cell.TheVariants.{Body, Refused}
use Rattle.publish_table.specs.declared.view.Stage.TheVariants.{Idle, Filling, Reading}
use Rattle.publish_table.specs.declared.view.View.{View}
use Rattle.publish_table.specs.declared.words.Found.{Found}
use Rattle.publish_table.specs.declared.words.Found.TheVariants as found
use Rattle.publish_table.specs.Jobs.{tickets, IsFinished}
use Rattle.publish_table.specs.Rule.{below}
use Rattle.publish_table.specs.Plays.{total, count, fresh, reading, with_read, with_refused}

abbrev pub Top : Type 0
Top = Shared (Option Cell) View Job BoardRule

abbrev pub Place : Type 0
Place = place.Seat (Option Cell) View

-- a seat of this table, which has a word for each slot and one more
abbrev pub IsPlaceOf : Top → Place → Type 0
IsPlaceOf t p =
    (p.table_id ≡ t.table_id) × (p.me.0.seats ≡ 1) × (t.table_id.words ≡ t.table_id.slots + 1)
    × (t.table_id.slots < 9223372036854775808)

-- the same seat of the same table
abbrev pub IsSamePlace : Place → Place → Type 0
IsSamePlace p q = (q.table_id ≡ p.table_id) × (q.id ≡ p.id)

-- it is a seat of this board that was not joined into another, nor another into it, and it neither fills nor reads
abbrev pub IsSeatOf : Board → Seat → Type 0
IsSeatOf b s =
    (s.place.table_id ≡ b.table.shared.table_id) × (s.place.me.0.seats ≡ 1) × (s.place.me.0.stage ≡ Idle)
    × (s.place.me.0.job ≡ b.table.shared.key)

-- and it stays one
abbrev pub StaysSeat : Board → Seat → Seat → Type 0
StaysSeat b old new = IsSeatOf b new × (new.place.id ≡ old.place.id)

-- the seat drew the ticket and has not filled it
abbrev pub IsOpen : View → ℕ → Type 0
IsOpen v t = (0 < count t v.drawn) × (count t v.bodies ≡ 0) × (count t v.refusals ≡ 0)

-- a body in the cell is the finished body of the ticket
abbrev pub IsCellOf : Job → ℕ → Cell → Type 0
IsCellOf job t (Body a) = IsFinished job t (arc_value a)
IsCellOf job t Refused = Unit {0}

-- what a read answers, and what the seat notes
abbrev pub CellRead : View → ℕ → Cell → View → Type 0
CellRead v t (Body a) w = IsFinished v.job t (arc_value a) × (w ≡ with_read v t)
CellRead v t Refused w = w ≡ with_refused v t

-- a finished body
abbrev pub IsBodyOf : Job → ℕ → Cell → Type 0
IsBodyOf job t (Body a) = IsFinished job t (arc_value a)
IsBodyOf job t Refused = ⊥

-- the slot of the ticket is out with the seat, and no other
abbrev pub IsOut : List (ℕ × Option Cell) → ℕ → Type 0
IsOut cs t = (y : Option Cell) × (cs ≡ (t, y) ∷ [])

-- it is out with the finished body, which the seat reads
abbrev pub HoldsBody : Me (Option Cell) View → ℕ → Type 0
HoldsBody m t =
    (m.0.stage ≡ Reading t)
    × ((a : Arc Built Global) × (m.1 ≡ (t, Some (Body a)) ∷ []) × IsFinished m.0.job t (arc_value a))

-- what a try to read a ticket found, and the seat after it
abbrev pub HasTried : Me (Option Cell) View → ℕ → Found → Me (Option Cell) View → Type 0
HasTried m t found.Body n = (n.0 ≡ reading m.0 t) × HoldsBody n t
HasTried m t found.Refused n = n ≡ (with_refused m.0 t, [])
HasTried m t found.Reader n = n ≡ m
HasTried m t (found.Unfilled word) n = n ≡ m

-- it is out to be filled, with the finished body, or refused
abbrev pub FillsBody : Me (Option Cell) View → ℕ → Type 0
FillsBody m t =
    (m.0.stage ≡ Filling t)
    × ((a : Arc Built Global) × (m.1 ≡ (t, Some (Body a)) ∷ []) × IsFinished m.0.job t (arc_value a))

abbrev pub FillsRefused : Me (Option Cell) View → ℕ → Type 0
FillsRefused m t = (m.0.stage ≡ Filling t) × (m.1 ≡ (t, Some Refused) ∷ [])

-- what a seat has noted
abbrev pub view_of : Seat → View
view_of s = s.place.me.0

-- a seat that has done nothing
abbrev pub IsFresh : Top → Seat → Type 0
IsFresh t s = (s.place.table_id ≡ t.table_id) × (view_of s ≡ fresh t.key 0)

-- a board for these functions and this policy, with its seats, of which the others were split from the last
pub record IsMade (functions : Module) (policy : Policy) (seats : ℕ) (b : Board) (all : List Seat) : Type 0 where
  pub count : b.count ≡ length functions
  pub functions_are : b.table.shared.key.functions.value ≡ functions
  pub policy_is : b.table.shared.key.policy ≡ policy
  pub made : (others : List Seat) × (last : Seat) × (all ≡ others ++ last ∷ [])
      × All (IsFresh b.table.shared) others × (length others + 1 ≡ seats)
      × (last.place.table_id ≡ b.table.shared.table_id) × (last.place.id ≡ 0)
      × (view_of last ≡ fresh b.table.shared.key seats)

-- a seat that can be joined into another
abbrev pub IsJoinable : Top → Seat → Type 0
IsJoinable t s = (s.place.table_id ≡ t.table_id) × ((view_of s).seats ≡ 1) × ((view_of s).stage ≡ Idle)

-- what the seats drew, filled and found, together
abbrev pub drawn_in : ℕ → List Seat → ℕ
drawn_in t all = total (λ s. count t (view_of s).drawn) all

abbrev pub bodies_in : ℕ → List Seat → ℕ
bodies_in t all = total (λ s. count t (view_of s).bodies) all

abbrev pub refusals_in : ℕ → List Seat → ℕ
refusals_in t all = total (λ s. count t (view_of s).refusals) all

-- these are all seats of the board, each draw of them is filled, and one of them was answered None
pub record AreAllSeats (b : Board) (all : List Seat) : Type 0 where
  pub some : 0 < length all
  pub joinable : All (IsJoinable b.table.shared) all
  pub last : (front : List Seat) (s : Seat) → all ≡ front ++ s ∷ []
      → (s.place.id ≡ 0) × ((view_of s).made ≡ length all)
  pub filled : (t : ℕ) → 0 < drawn_in t all → 0 < bodies_in t all + refusals_in t all
  pub ended : 0 < total (λ s. (view_of s).ends) all

-- a cell at the end: a finished body where no seat refused the ticket, or refused where one did
abbrev pub ClosedAs : Job → List Seat → ℕ → Cell → Type 0
ClosedAs job all t (Body a) = IsFinished job t (arc_value a) × (refusals_in t all ≡ 0)
ClosedAs job all t Refused = 0 < refusals_in t all

-- each ticket was drawn once, and its cell has its finished body, or Refused exactly where a seat filled it so
pub record IsClosed (job : Job) (all : List Seat) (cells : List Cell) : Type 0 where
  pub long : length cells ≡ tickets job
  pub all_drawn : (h : ℕ → ℕ) → total (λ s. total h (view_of s).drawn) all ≡ below h (tickets job)
  pub each : (t : ℕ) → t < tickets job
      → (drawn_in t all ≡ 1) × ((c : Cell) × (slice_get cells t ≡ Some c) × ClosedAs job all t c)
