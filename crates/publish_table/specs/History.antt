-- The steps of the seats, and what each adds to the history of a table: the words, the cells at home and the views
-- that a step does not name stay as they are.
use Rattle.std.specs.Prelude.{◌≡◌, ◌≢◌, ℕ, ◌+◌, ◌<◌, ◌≤◌, List, [], ◌∷◌, ◌++◌, slice_index, slice_set, Some, Option}
use Rattle.std.specs.Arc.{arc_value}
use Rattle.std.specs.declared.sync.Arc.{Arc}
use Rattle.std.specs.declared.alloc.Global.{Global}
use mathlib.Core.Option.{some, none}
use lib.ListN.{get_elem?}
use Rattle.atomic_table.specs.Table.{State}
use Rattle.board_core.specs.declared.state.BoardEvent.{BoardEvent}
use Rattle.board_core.specs.declared.state.BoardEvent.TheVariants.{Draw, BeginFill, EndFill, BeginRead, EndRead}
use Rattle.board_core.specs.declared.state.Mark.TheVariants as mark
use Rattle.inline_finish.specs.declared.bodies.Built.{Built}
use Rattle.publish_table.specs.declared.job.Job.{Job}
use Rattle.publish_table.specs.declared.view.Cell.{Cell}
use Rattle.publish_table.specs.declared.view.Cell.TheVariants.{Body, Refused}
use Rattle.publish_table.specs.declared.view.Stage.TheVariants.{Idle, Filling, Reading}
use Rattle.publish_table.specs.declared.view.View.{View}
use Rattle.publish_table.specs.Facts.{word_of}
use Rattle.publish_table.specs.Jobs.{tickets, IsFinished}
use Rattle.publish_table.specs.Plays.{with_drawn, with_end, filling, with_body, with_refusal, reading, with_read}
use Rattle.publish_table.specs.Plays.{with_refused, with_seat, new_seat, joined, spent}
use Rattle.publish_table.specs.Seats.{IsOpen}

abbrev pub Shown : Type 0
Shown = State (Option Cell) View

-- the seat j with the view v, which was not joined into another, nor another into it
abbrev pub IsSeatAt : Shown → ℕ → View → Type 0
IsSeatAt s j v = (get_elem? s.views j ≡ some v) × (v.seats ≡ 1)

-- the word 0 goes up by one, and the view of the seat j becomes w
abbrev pub drawn_by : Shown → ℕ → View → Shown
drawn_by s j w = record {
  words = slice_set s.words 0 (slice_index s.words 0 + 1);
  homes = s.homes;
  views = slice_set s.views j w;
}

-- the word of the ticket t becomes n, its slot goes out, and the view of the seat j becomes w
abbrev pub gone_out : Shown → ℕ → ℕ → ℕ → View → Shown
gone_out s t n j w = record {
  words = slice_set s.words (t + 1) n;
  homes = slice_set s.homes t none;
  views = slice_set s.views j w;
}

-- the slot comes home with the cell
abbrev pub come_home : Shown → ℕ → ℕ → Cell → ℕ → View → Shown
come_home s t n cell j w = record {
  words = slice_set s.words (t + 1) n;
  homes = slice_set s.homes t (some (Some cell));
  views = slice_set s.views j w;
}

abbrev pub with_view : Shown → ℕ → View → Shown
with_view s j w = record { words = s.words; homes = s.homes; views = slice_set s.views j w }

-- one step, and the events of the board that it is: one, or none
pub data Steps (job : Job) (s : Shown) : List BoardEvent → Shown → Type 0 where
  draw : (j : ℕ) (v : View) → IsSeatAt s j v → slice_index s.words 0 < tickets job
      → Steps job s (Draw j ∷ []) (drawn_by s j (with_drawn v (slice_index s.words 0)))
  draw_none : (j : ℕ) (v : View) → IsSeatAt s j v → v.ends ≡ 0 → tickets job ≤ slice_index s.words 0
      → Steps job s (Draw j ∷ []) (drawn_by s j (with_end v))
  begin_fill : (j t : ℕ) (v : View) → IsSeatAt s j v → v.stage ≡ Idle → t < tickets job → IsOpen v t
      → Steps job s (BeginFill j t ∷ []) (gone_out s t 1 j (filling v t))
  fill_body : (j t : ℕ) (v : View) (a : Arc Built Global) → IsSeatAt s j v → v.stage ≡ Filling t → t < tickets job
      → IsFinished v.job t (arc_value a)
      → Steps job s (EndFill j t mark.Body ∷ []) (come_home s t 2 (Body a) j (with_body v t))
  fill_refused : (j t : ℕ) (v : View) → IsSeatAt s j v → v.stage ≡ Filling t → t < tickets job
      → Steps job s (EndFill j t mark.Refused ∷ []) (come_home s t 4 Refused j (with_refusal v t))
  begin_read : (j t : ℕ) (v : View) → IsSeatAt s j v → v.stage ≡ Idle → t < tickets job → word_of s t ≡ 2
      → Steps job s (BeginRead j t ∷ []) (gone_out s t 3 j (reading v t))
  find_refused : (j t : ℕ) (v : View) → IsSeatAt s j v → t < tickets job → word_of s t ≡ 4
      → Steps job s [] (with_view s j (with_refused v t))
  find_nothing : Steps job s [] s
  end_read : (j t : ℕ) (v : View) (a : Arc Built Global) → IsSeatAt s j v → v.stage ≡ Reading t → t < tickets job
      → IsFinished v.job t (arc_value a)
      → Steps job s (EndRead j t ∷ []) (come_home s t 2 (Body a) j (with_read v t))
  split_seat : (v : View) → IsSeatAt s 0 v → v.made < 64
      → Steps job s []
      record { words = s.words; homes = s.homes; views = slice_set s.views 0 (with_seat v) ++ new_seat v ∷ [] }
  join_seat : (j : ℕ) (v w : View) → get_elem? s.views 0 ≡ some v → 0 < v.seats → v.stage ≡ Idle → j ≢ 0
      → IsSeatAt s j w → w.stage ≡ Idle
      → Steps job s [] (with_view (with_view s 0 (joined v w)) j spent)

-- a state, and a later one of the same table: the events between them
pub data Leads (job : Job) (s : Shown) : List BoardEvent → Shown → Type 0 where
  stays : Leads job s [] s
  goes_on : (events more : List BoardEvent) (middle later : Shown) → Leads job s events middle
      → Steps job middle more later → Leads job s (events ++ more) later
