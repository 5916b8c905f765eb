-- What a turn does, and what all turns together do.
use Rattle.std.specs.Prelude.{◌≡◌, ℕ, ◌+◌, ◌<◌, ◌≤◌, List, [], ◌∷◌, ◌++◌, length, slice_get, Some, None}
use Rattle.std.specs.Arc.{arc_value}
use Rattle.ir_core.specs.Module.{Module}
use Rattle.inline_pass.specs.Inlined.{inlined}
use Rattle.inline_finish.specs.declared.bodies.Policy.{Policy}
use Rattle.inline_finish.specs.Building.{policy_of}
use Rattle.publish_table.specs.declared.board.Board.{Board}
use Rattle.publish_table.specs.declared.board.Seat.{Seat}
use Rattle.publish_table.specs.declared.view.View.{View}
use Rattle.publish_table.specs.declared.view.Cell.{Cell}
use Rattle.publish_table.specs.declared.view.Cell.TheVariants.{Body}
use Rattle.publish_table.specs.declared.view.Cell.TheVariants as cell
use Rattle.publish_table.specs.Jobs.{FinishedOf, function_of}
use Rattle.publish_table.specs.Plays.{total, count, fresh}
use Rattle.publish_table.specs.Seats.{IsSeatOf, view_of}
use Rattle.worker_driver.specs.declared.outcome.Desk.{Desk}
use Rattle.worker_driver.specs.declared.outcome.Turn.{Turn}
use Rattle.worker_driver.specs.declared.outcome.Turn.TheVariants.{Ended, Filled, Refused}
use Rattle.worker_driver.specs.Reading.{CalleesRead}

-- the board is for these functions and this policy
abbrev pub IsBoardFor : Module → Policy → Board → Type 0
IsBoardFor m p b =
    (b.table.shared.key.functions.value ≡ m) × (b.table.shared.key.policy ≡ p) × (b.count ≡ length m)

-- each draw of the seat is filled, once: however tickets are weighed
abbrev pub IsDone : View → Type 0
IsDone v = (h : ℕ → ℕ) → total h v.bodies + total h v.refusals ≡ total h v.drawn

-- the tickets that the seat drew and has not filled are these, each drawn once: the last that it drew, in that order.
-- There are n tickets in all
pub record IsDoneBut (n : ℕ) (v : View) (ahead : List ℕ) : Type 0 where
  pub filled : (h : ℕ → ℕ) → total h v.bodies + total h v.refusals + total h ahead ≡ total h v.drawn
  pub last : (front : List ℕ) × (v.drawn ≡ front ++ ahead)
  pub once : (t : ℕ) → 0 < count t ahead → (t < n) × (count t v.drawn ≡ 1)

-- each ticket that the seat drew is one of the first n, and was drawn once
abbrev pub IsOnceBelow : ℕ → View → Type 0
IsOnceBelow n v = ((t : ℕ) → count t v.drawn ≤ 1) × ((t : ℕ) → 0 < count t v.drawn → t < n)

-- each is that of a function
abbrev pub IsOnce : Module → View → Type 0
IsOnce m v = IsOnceBelow (length m) v

-- the view grew by draws alone, each of a new ticket
abbrev pub OnlyDrew : ℕ → View → View → Type 0
OnlyDrew n v w =
    (w.bodies ≡ v.bodies) × (w.refusals ≡ v.refusals) × (w.read ≡ v.read) × (w.made ≡ v.made)
    × (IsOnceBelow n v → IsOnceBelow n w)

abbrev pub IsSameSeat : Seat → Seat → Type 0
IsSameSeat s r = (r.place.id ≡ s.place.id) × ((view_of r).made ≡ (view_of s).made)

-- the callees of each ticket that was filled with a body are noted as read
abbrev pub IsNoted : Module → View → Type 0
IsNoted m v = (t : ℕ) → 0 < count t v.bodies → CalleesRead m v t

-- how many sites are inlined into the finished body of a ticket
abbrev pub inlined_at : Policy → Module → ℕ → ℕ
inlined_at p m t = elim (function_of m t) [ None ↦ 0 | Some f ↦ inlined (policy_of p) m f ]

-- the steps that the bodies of these tickets cost
abbrev pub cost_of : Policy → Module → List ℕ → ℕ
cost_of p m ts = total (λ t. 1 + inlined_at p m t) ts

-- what a turn answers: the seat was answered None, or the drawn ticket was filled, and what the counter rose by
abbrev pub Tells : Policy → Module → Turn → View → View → ℕ → ℕ → Type 0
Tells p m Ended v w old new = (0 < w.ends) × (w.bodies ≡ v.bodies) × (w.refusals ≡ v.refusals) × (new ≡ old)
Tells p m (Filled t n) v w old new =
    (w.bodies ≡ v.bodies ++ t ∷ []) × (w.refusals ≡ v.refusals) × (n ≡ inlined_at p m t) × (new ≡ old + (1 + n))
    × CalleesRead m w t
Tells p m (Refused t) v w old new = (w.bodies ≡ v.bodies) × (w.refusals ≡ v.refusals ++ t ∷ []) × (old ≤ new)

-- the ticket of the turn is the one that was drawn right before those ahead; at the end none is ahead
abbrev pub TakesFirst : Turn → List ℕ → List ℕ → Type 0
TakesFirst Ended drawn ahead = ahead ≡ []
TakesFirst (Filled t n) drawn ahead = (front : List ℕ) × (drawn ≡ front ++ t ∷ ahead)
TakesFirst (Refused t) drawn ahead = (front : List ℕ) × (drawn ≡ front ++ t ∷ ahead)

-- a seat that is through: it was answered None, and each draw of it is filled
abbrev pub IsThrough : Module → Board → Seat → Type 0
IsThrough m b s = IsSeatOf b s × IsDone (view_of s) × (0 < (view_of s).ends) × IsNoted m (view_of s)

-- the desk's count is what the bodies cost that its seat filled
abbrev pub CountsWell : Policy → Module → Desk → Type 0
CountsWell p m d = d.count ≡ cost_of p m (view_of d.seat).bodies

-- the counter of a seat's worker rose by n, and by more only where the seat refused a ticket
abbrev pub RoseBy : View → ℕ → ℕ → ℕ → Type 0
RoseBy v n old new = (old + n ≤ new) × (v.refusals ≡ [] → new ≡ old + n)

-- a seat that has done nothing
abbrev pub IsIdle : Board → Seat → Type 0
IsIdle b s = IsSeatOf b s × (view_of s ≡ fresh b.table.shared.key (view_of s).made)

abbrev pub IsReady : Board → Desk → Type 0
IsReady b d = IsIdle b d.seat

abbrev pub IsThroughAs : Module → Board → Seat → Seat → Type 0
IsThroughAs m b s r = IsThrough m b r × IsSameSeat s r

abbrev pub desk_of : Seat → Desk
desk_of s = record { seat = s; count = 0 }

abbrev pub seat_at : Desk → Seat
seat_at d = d.seat

-- what the bodies cost that the seats filled
abbrev pub cost_in : Policy → Module → List Seat → ℕ
cost_in p m seats = total (λ s. cost_of p m (view_of s).bodies) seats

-- what a worker leaves of its desk
abbrev pub Worked : Policy → Module → Board → Desk → Desk → Type 0
Worked p m b d e = IsThrough m b e.seat × IsSameSeat d.seat e.seat × CountsWell p m e

-- a body in a cell is the finished body of its ticket
abbrev pub IsAnswer : Policy → Module → ℕ → Cell → Type 0
IsAnswer p m t (Body a) = FinishedOf p m t (arc_value a)
IsAnswer p m t cell.Refused = Unit {0}

-- a cell for each ticket
pub record AllAnswered (p : Policy) (m : Module) (cells : List Cell) : Type 0 where
  pub long : length cells ≡ length m
  pub each : (t : ℕ) → t < length m → (c : Cell) × (slice_get cells t ≡ Some c) × IsAnswer p m t c

-- no cell is refused
abbrev pub AllBodies : List Cell → Type 0
AllBodies cells = (t : ℕ) → slice_get cells t ≡ Some cell.Refused → ⊥
