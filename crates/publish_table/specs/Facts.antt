-- What a table shows between any two steps, in words of its own.
use Rattle.std.specs.Prelude.{◌≡◌, ◌⊎◌, ℕ, ◌+◌, ◌<◌, ◌≤◌, List, slice_index, Some, Option}
use mathlib.Core.Option.{some}
use lib.ListN.{get_elem?}
use Rattle.atomic_table.specs.Table.{State}
use Rattle.board_core.specs.Machine.{start, run, phase_at, owner_at}
use Rattle.board_core.specs.Sound.{IsTold}
use Rattle.board_core.specs.declared.state.BoardEvent.{BoardEvent}
use Rattle.board_core.specs.declared.state.Mark.TheVariants as mark
use Rattle.board_core.specs.declared.state.Phase.{Phase}
use Rattle.board_core.specs.declared.state.Phase.TheVariants as phase
use Rattle.publish_table.specs.declared.job.Job.{Job}
use Rattle.publish_table.specs.declared.view.Cell.{Cell}
use Rattle.publish_table.specs.declared.view.Stage.TheVariants.{Filling, Reading}
use Rattle.publish_table.specs.declared.view.View.{View}
use Rattle.publish_table.specs.Jobs.{tickets}
use Rattle.publish_table.specs.Plays.{total, count}
use Rattle.publish_table.specs.Rule.{CellIs, HasDrawn, ends_of}

abbrev pub word_of : State (Option Cell) View → ℕ → ℕ
word_of s t = slice_index s.words (t + 1)

-- how many tickets were drawn, with the draws that found none left
abbrev pub draws_of : State (Option Cell) View → ℕ
draws_of s = slice_index s.words 0

-- how often a seat has filled a ticket, with a body and with a refusal
abbrev pub HasFilled : View → ℕ → ℕ → ℕ → Type 0
HasFilled v t bodies refusals = (count t v.bodies ≡ bodies) × (count t v.refusals ≡ refusals)

-- what the seat that drew a ticket has noted of its cell, by the phase of the cell: one fill, with the mark of that
abbrev pub IsNoted : View → ℕ → Phase → Type 0
IsNoted v t phase.Vacant = HasFilled v t 0 0
IsNoted v t (phase.Filling w) = HasFilled v t 0 0 × (v.stage ≡ Filling t)
IsNoted v t (phase.Full mark.Body) = HasFilled v t 1 0
IsNoted v t (phase.Full mark.Refused) = HasFilled v t 0 1
IsNoted v t (phase.Reading w) = HasFilled v t 1 0

-- the table shows the board after these events: the j-th view is that of the seat j
pub record IsShown (job : Job) (s : State (Option Cell) View) (events : List BoardEvent) : Type 0 where
  pub machine : IsTold (tickets job) events
  pub next : draws_of s ≡ (run (start (tickets job)) events).next
  pub cells : (t : ℕ) → t < tickets job
      → CellIs job t (word_of s t) (get_elem? s.homes t) (phase_at (run (start (tickets job)) events) t)
  -- a view that was not joined into another is for the job of the table
  pub key : (j : ℕ) (v : View) → get_elem? s.views j ≡ some v → 0 < v.seats → v.job ≡ job
  -- the count of draws is at most the tickets and the draws that found none, and the next draw does not wrap it
  pub few : draws_of s ≤ tickets job + total ends_of s.views
  pub wraps_never : draws_of s + 1 < 18446744073709551616
  -- a seat was answered None at most once, and only where the count had reached the number of tickets
  pub ended : (j : ℕ) (v : View) → get_elem? s.views j ≡ some v → 0 < v.ends → tickets job ≤ draws_of s
  pub ended_once : (j : ℕ) (v : View) → get_elem? s.views j ≡ some v → v.ends ≤ v.seats
  -- each ticket below the count was drawn once among all seats, and no other ticket was
  pub drawn_once : (t : ℕ) → t < tickets job → t < draws_of s → total (λ v. count t v.drawn) s.views ≡ 1
  pub undrawn : (t : ℕ) → draws_of s ≤ t → total (λ v. count t v.drawn) s.views ≡ 0
  pub inside : (j t : ℕ) (v : View) → get_elem? s.views j ≡ some v → 0 < count t v.drawn → t < tickets job
  pub one_owner : (i j t : ℕ) (u v : View) → get_elem? s.views i ≡ some u → get_elem? s.views j ≡ some v
      → 0 < count t u.drawn → 0 < count t v.drawn → i ≡ j
  -- its owner is the seat that drew it
  pub owner : (j t : ℕ) (v : View) → get_elem? s.views j ≡ some v → v.seats ≡ 1 → 0 < count t v.drawn
      → owner_at (run (start (tickets job)) events) t ≡ Some j
  pub owner_drew : (t j : ℕ) → owner_at (run (start (tickets job)) events) t ≡ Some j → HasDrawn s.views j t
  pub has_owner : (t : ℕ) → t < tickets job → t < draws_of s
      → (j : ℕ) × (owner_at (run (start (tickets job)) events) t ≡ Some j)
  pub filling : (j t : ℕ) (v : View) → get_elem? s.views j ≡ some v → v.stage ≡ Filling t
      → (t < tickets job → word_of s t ≡ 1) × (phase_at (run (start (tickets job)) events) t ≡ phase.Filling j)
  pub reading : (j t : ℕ) (v : View) → get_elem? s.views j ≡ some v → v.stage ≡ Reading t
      → (t < tickets job → word_of s t ≡ 3) × (phase_at (run (start (tickets job)) events) t ≡ phase.Reading j)
  -- a cell that is filled, or read, is out with the seat that fills it, or reads it
  pub filler : (t w : ℕ) → phase_at (run (start (tickets job)) events) t ≡ phase.Filling w
      → (v : View) × (get_elem? s.views w ≡ some v) × (v.stage ≡ Filling t) × (0 < count t v.drawn)
  pub reader : (t w : ℕ) → phase_at (run (start (tickets job)) events) t ≡ phase.Reading w
      → (v : View) × (get_elem? s.views w ≡ some v) × (v.stage ≡ Reading t)
  -- a seat fills only what it drew, and that once
  pub filled_once : (j t : ℕ) (v : View) → get_elem? s.views j ≡ some v
      → count t v.bodies + count t v.refusals ≤ count t v.drawn
  -- the mark of a filled cell is that of the one fill of the seat that drew it
  pub noted : (j t : ℕ) (v : View) → get_elem? s.views j ≡ some v → 0 < count t v.drawn
      → IsNoted v t (phase_at (run (start (tickets job)) events) t)
  -- what a seat has filled a ticket with
  pub bodies : (j t : ℕ) (v : View) → get_elem? s.views j ≡ some v → 0 < count t v.bodies → t < tickets job
      → (word_of s t ≡ 2) ⊎ (word_of s t ≡ 3)
  pub refusals : (j t : ℕ) (v : View) → get_elem? s.views j ≡ some v → 0 < count t v.refusals → t < tickets job
      → word_of s t ≡ 4
  -- what it has found of a ticket
  pub refused : (j t : ℕ) (v : View) → get_elem? s.views j ≡ some v → 0 < count t v.refused → t < tickets job
      → word_of s t ≡ 4
  pub read : (j t : ℕ) (v : View) → get_elem? s.views j ≡ some v → 0 < count t v.read → t < tickets job
      → (word_of s t ≡ 2) ⊎ (word_of s t ≡ 3)
