-- A later state of a table shows the history of an earlier one, and more.
use Rattle.std.proofs.Common.{◌≡◌, ℕ, ◌+◌, List, [], ◌∷◌, ◌++◌, get_or, set, sym, ◌∙◌, subst, refl, arith, Option, append_assoc, append-nil}
use mathlib.Core.Option.{some}
use mathlib.Core.Option as maybe
use lib.ListN.{get_elem?}
use Rattle.atomic_table.proofs.Lists.{set_else}
use Rattle.board_core.specs.Machine.{phase_at}
use Rattle.board_core.specs.declared.state.BoardEvent.{BoardEvent}
use Rattle.board_core.specs.declared.state.BoardEvent.TheVariants.{Draw}
use Rattle.board_core.specs.declared.state.Phase.{Phase}
use Rattle.board_core.specs.declared.state.Phase.TheVariants as phase
use Rattle.board_core.specs.declared.state.Mark.TheVariants as mark
use Rattle.publish_table.specs.declared.job.Job.{Job}
use Rattle.publish_table.specs.declared.view.Cell.{Cell}
use Rattle.publish_table.specs.declared.view.View.{View}
use Rattle.publish_table.specs.Plays.{with_drawn, with_end, joined}
use Rattle.publish_table.specs.Rule.{CellIs, ShowsAfter}
use Rattle.publish_table.specs.Facts.{word_of}
use Rattle.publish_table.specs.History.{Shown, Steps, draw, draw_none, begin_fill, fill_body, fill_refused, begin_read, find_refused, find_nothing, end_read, split_seat, join_seat, Leads, stays, goes_on}
use Rattle.publish_table.proofs.Moves.{draws_ticket, draws_none}
use Rattle.publish_table.proofs.Kept.{fill_begun, body_filled, refusal_filled, refusal_found, read_begun, read_ended}
use Rattle.publish_table.proofs.Bounds.{has_split, has_joined}

has_two : (job : Job) (t w : ℕ) (home : maybe.Option (maybe.Option (Option Cell))) (p : Phase) → CellIs job t w home p → w ≡ 2 → p ≡ phase.Full mark.Body
has_two job t w home phase.Vacant c e = let z = c.0 in absurd (omega arith)
has_two job t w home (phase.Filling x) c e = absurd (omega arith)
has_two job t w home (phase.Full mark.Body) c e = refl
has_two job t w home (phase.Full mark.Refused) c e = let z = c.0 in absurd (omega arith)
has_two job t w home (phase.Reading x) c e = absurd (omega arith)

has_four : (job : Job) (t w : ℕ) (home : maybe.Option (maybe.Option (Option Cell))) (p : Phase) → CellIs job t w home p → w ≡ 4 → p ≡ phase.Full mark.Refused
has_four job t w home phase.Vacant c e = let z = c.0 in absurd (omega arith)
has_four job t w home (phase.Filling x) c e = absurd (omega arith)
has_four job t w home (phase.Full mark.Body) c e = let z = c.0 in absurd (omega arith)
has_four job t w home (phase.Full mark.Refused) c e = refl
has_four job t w home (phase.Reading x) c e = absurd (omega arith)

module _ (job : Job) (s : Shown) (es : List BoardEvent) (r : ShowsAfter job es s) where
  -- a step that is no event of the board
  silently : (s' : Shown) → ShowsAfter job es s' → ShowsAfter job (es ++ []) s'
  silently s' h = subst (λ (x : List BoardEvent). ShowsAfter job x s') (sym (append-nil es)) h

  -- the number that is drawn is that of the word 0
  drawn : (j : ℕ) (w : ℕ → View)
      → ShowsAfter job (es ++ Draw j ∷ []) record { words = set s.words 0 (r.board.next + 1); homes = s.homes; views = set s.views j (w r.board.next) }
      → ShowsAfter job (es ++ Draw j ∷ []) record { words = set s.words 0 (get_or s.words 0 0 + 1); homes = s.homes; views = set s.views j (w (get_or s.words 0 0)) }
  drawn j w h = subst (λ (n : ℕ). ShowsAfter job (es ++ Draw j ∷ []) record { words = set s.words 0 (n + 1); homes = s.homes; views = set s.views j (w n) }) (sym r.next_is) h

  pub step_adds : (more : List BoardEvent) (s' : Shown) → Steps job s more s' → ShowsAfter job (es ++ more) s'
  step_adds _ _ (draw j v at low) = drawn j (λ n. with_drawn v n) (draws_ticket job s r j v at.0 at.1 (let e = r.next_is in omega arith))
  step_adds _ _ (draw_none j v at none past) = drawn j (λ _. with_end v) (draws_none job s r j v at.0 at.1 none (let e = r.next_is in omega arith))
  step_adds _ _ (begin_fill j t v at idle lt open_) = fill_begun job s r j t v at.0 at.1 lt idle open_.0 open_.1 open_.2
  step_adds _ _ (fill_body j t v a at stage lt finished) = body_filled job s r j t v at.0 at.1 lt a stage finished
  step_adds _ _ (fill_refused j t v at stage lt) = refusal_filled job s r j t v at.0 at.1 lt stage
  step_adds _ _ (begin_read j t v at idle lt two) = read_begun job s r j t v at.0 at.1 lt idle (has_two job t (word_of s t) (get_elem? s.homes t) (phase_at r.board t) (r.each_cell t lt) two)
  step_adds _ _ (find_refused j t v at lt four) =
      silently _ (refusal_found job s r j t v at.0 at.1 lt (has_four job t (word_of s t) (get_elem? s.homes t) (phase_at r.board t) (r.each_cell t lt) four))
  step_adds _ _ find_nothing = silently s r
  step_adds _ _ (end_read j t v a at stage lt finished) = read_ended job s r j t v at.0 at.1 lt a stage finished
  step_adds _ _ (split_seat v at room) = silently _ (has_split job v at.1 room s r at.0)
  step_adds _ _ (join_seat j v w at some_v idle_v ne there idle_w) =
      silently _ (has_joined job v j w some_v (let n = there.1 in omega arith) idle_v idle_w s r at ne (set_else s.views 0 j (joined v w) ne ∙ there.0))

pub later : (job : Job) (s : Shown) (es : List BoardEvent) → ShowsAfter job es s → (more : List BoardEvent) (s' : Shown) → Leads job s more s' → ShowsAfter job (es ++ more) s'
later job s es r _ _ stays = subst (λ (x : List BoardEvent). ShowsAfter job x s) (sym (append-nil es)) r
later job s es r _ s' (goes_on events more middle later_ l step) =
    subst (λ (x : List BoardEvent). ShowsAfter job x later_) (append_assoc es events more) (step_adds job middle (es ++ events) (later job s es r events middle l) more later_ step)
