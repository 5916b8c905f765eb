-- The rule, read as facts.
use Rattle.std.proofs.Common.{◌≡◌, ◌≢◌, ℕ, ◌+◌, ◌<◌, ◌≤◌, ◌⊎◌, true, false, List, sym, ap, ◌∙◌, subst, inl, inr, ⊎_elim, arith, Option, refl, Some, None}
use mathlib.Core.Logic.{dite}
use mathlib.Core.Option.{some, some-injective}
use mathlib.Core.Option as maybe
use native.Mathlib.Decide.{ℕ_discrete, dec_le}
use lib.ListN.{get_elem?}
use Rattle.std.proofs.lemmas.Bool.Decides.{nat_tests}
use Rattle.board_core.specs.Machine.{start, run, phase_at, owner_at}
use Rattle.board_core.proofs.Runs.{told}
use Rattle.board_core.specs.declared.state.Phase.{Phase}
use Rattle.board_core.specs.declared.state.Phase.TheVariants as phase
use Rattle.board_core.specs.declared.state.Mark.TheVariants as mark
use Rattle.board_core.specs.declared.state.BoardEvent.{BoardEvent}
use Rattle.board_core.specs.declared.state.BoardState.{BoardState}
use Rattle.publish_table.specs.declared.job.Job.{Job}
use Rattle.publish_table.specs.declared.view.Cell.{Cell}
use Rattle.publish_table.specs.declared.view.Stage.{Stage}
use Rattle.publish_table.specs.declared.view.Stage.TheVariants.{Idle, Filling, Reading}
use Rattle.publish_table.specs.declared.view.View.{View}
use Rattle.publish_table.specs.Jobs.{tickets}
use Rattle.publish_table.specs.Plays.{count}
use Rattle.publish_table.specs.Rule.{CellIs, has_body, once_below, ShowsAfter}
use Rattle.publish_table.specs.Facts.{IsNoted, IsShown, word_of}
use Rattle.publish_table.proofs.Lists.{total_two, total_has, total_some}
use Rattle.publish_table.proofs.Moves.{St, sound, low, once, at_most_once}

body_word : (job : Job) (t w : ℕ) (home : maybe.Option (maybe.Option (Option Cell))) (p : Phase) → CellIs job t w home p → has_body p ≡ true → (w ≡ 2) ⊎ (w ≡ 3)
body_word job t w home phase.Vacant c h = cc
body_word job t w home (phase.Filling x) c h = cc
body_word job t w home (phase.Full mark.Body) c h = inl c.0
body_word job t w home (phase.Full mark.Refused) c h = cc
body_word job t w home (phase.Reading x) c h = inr c

below_once : (n next t : ℕ) → t < n → t < next → once_below n next t ≡ 1
below_once n next t l m = grind (arith, nat_tests)

past_once : (n next t : ℕ) → next ≤ t → once_below n next t ≡ 0
past_once n next t l = grind (arith, nat_tests)

is_filling : (x : Stage) (t : ℕ) → (x ≡ Filling t) ⊎ (x ≢ Filling t)
is_filling Idle t = inr (λ e. let bad : Idle ≡ Filling t = e in cc)
is_filling (Filling k) t = dite (ℕ_discrete k t) (λ e. inl (ap (λ (z : ℕ). Filling z) e)) (λ ne. inr (λ e. ne (let same : Filling k ≡ Filling t = e in cc)))
is_filling (Reading k) t = inr (λ e. let bad : Reading k ≡ Filling t = e in cc)

module _ (job : Job) (s : St) {es : List BoardEvent} (r : ShowsAfter job es s) where
  -- a seat has a ticket once
  one_draw : (j t : ℕ) (v : View) → get_elem? s.views j ≡ some v → count t v.drawn ≤ 1
  one_draw j t v at = let h = total_has (λ (z : View). count t z.drawn) s.views j v at in let o = once job s r t in let m = at_most_once (tickets job) r.board.next t in omega arith

  module _ (j t : ℕ) (v : View) (at : get_elem? s.views j ≡ some v) (mine : 0 < count t v.drawn) where
    no_body : (p : Phase) → phase_at r.board t ≡ p → has_body p ≡ false → count t v.bodies ≡ 0
    no_body p is none = dite (ℕ_discrete (count t v.bodies) 0) (λ z. z)
        (λ z. let bad : false ≡ true = sym none ∙ (ap has_body (sym is) ∙ (r.each_seat j v at).bodies t (omega arith)) in cc)

    no_refusal : (p : Phase) → phase_at r.board t ≡ p → p ≢ phase.Full mark.Refused → count t v.refusals ≡ 0
    no_refusal p is other = dite (ℕ_discrete (count t v.refusals) 0) (λ z. z)
        (λ z. absurd (other (sym is ∙ (r.each_seat j v at).refusals t (omega arith))))

    -- a cell that is neither vacant nor being filled was filled
    some_fill : (p : Phase) → phase_at r.board t ≡ p → p ≢ phase.Vacant → p ≢ phase.Filling j → 0 < count t v.bodies + count t v.refusals
    some_fill p is full done = let k = r.each_seat j v at in dite (ℕ_discrete (count t v.bodies + count t v.refusals) 0)
        (λ z. absurd (full (sym is ∙ k.pending t mine (omega arith) (omega arith) (λ e. done (sym is ∙ k.fills t e)))))
        (λ z. omega arith)

    now_filling : (w : ℕ) → phase_at r.board t ≡ phase.Filling w → v.stage ≡ Filling t
    now_filling w is = ⊎_elim (λ (e : v.stage ≡ Filling t). e)
        (λ (ne : v.stage ≢ Filling t). let bad : phase.Filling w ≡ phase.Vacant = sym is ∙ (r.each_seat j v at).pending t mine (no_body (phase.Filling w) is refl) (no_refusal (phase.Filling w) is (λ e. cc)) ne in cc)
        (is_filling v.stage t)

    noted : (p : Phase) → phase_at r.board t ≡ p → IsNoted v t p
    noted phase.Vacant is = (no_body phase.Vacant is refl, no_refusal phase.Vacant is (λ e. cc))
    noted (phase.Filling w) is = ((no_body (phase.Filling w) is refl, no_refusal (phase.Filling w) is (λ e. cc)), now_filling w is)
    noted (phase.Full mark.Body) is = let n = no_refusal (phase.Full mark.Body) is (λ e. cc) in let f = some_fill (phase.Full mark.Body) is (λ e. cc) (λ e. cc) in
        let o = (r.each_seat j v at).fills_once t in let d = one_draw j t v at in (omega arith, n)
    noted (phase.Full mark.Refused) is = let n = no_body (phase.Full mark.Refused) is refl in let f = some_fill (phase.Full mark.Refused) is (λ e. cc) (λ e. cc) in
        let o = (r.each_seat j v at).fills_once t in let d = one_draw j t v at in (n, omega arith)
    noted (phase.Reading w) is = let n = no_refusal (phase.Reading w) is (λ e. cc) in let f = some_fill (phase.Reading w) is (λ e. cc) (λ e. cc) in
        let o = (r.each_seat j v at).fills_once t in let d = one_draw j t v at in (omega arith, n)

  -- a ticket that was drawn, and whose it is
  owner_below : (t j : ℕ) → owner_at r.board t ≡ Some j → (t < tickets job) × (t < r.board.next)
  owner_below t j o = let so = sound job s r in (
    elim (dec_le (tickets job) t) [ yes d ↦ let bad : None ≡ Some j = sym (so.beyond t d) ∙ o in cc | no d ↦ omega (arith, d) ],
    elim (dec_le r.board.next t) [ yes d ↦ let bad : None ≡ Some j = sym (so.unowned t d) ∙ o in cc | no d ↦ omega (arith, d) ],
  )

  -- the seat that fills a cell
  filler : (t w : ℕ) → phase_at r.board t ≡ phase.Filling w → (v : View) × (get_elem? s.views w ≡ some v) × (v.stage ≡ Filling t) × (0 < count t v.drawn)
  filler t w is =
      let b = owner_below t w ((sound job s r).filler t w is) in let o = once job s r t ∙ below_once (tickets job) r.board.next t b.0 b.1 in
      let f = total_some (λ (z : View). count t z.drawn) s.views (omega arith) in
      let stage : f.1.stage ≡ Filling t = now_filling f.0 t f.1 f.2 f.3 w is in
      let own : phase.Filling w ≡ phase.Filling f.0 = sym is ∙ (r.each_seat f.0 f.1 f.2).fills t stage in let same : w ≡ f.0 = cc in
      (f.1, ap (get_elem? s.views) same ∙ f.2, stage, f.3)

pub shown : (job : Job) (es : List BoardEvent) (s : St) → ShowsAfter job es s → IsShown job s es
shown job es s r =
    let cell : (t : ℕ) → t < tickets job → CellIs job t (word_of s t) (get_elem? s.homes t) (phase_at r.board t) = r.each_cell in
    let at : (t : ℕ) (p : Phase) → t < tickets job → phase_at r.board t ≡ p → CellIs job t (word_of s t) (get_elem? s.homes t) p =
    λ (t : ℕ) (p : Phase) (l : t < tickets job) (is : phase_at r.board t ≡ p). subst (CellIs job t (word_of s t) (get_elem? s.homes t)) is (cell t l) in
    let phase_is : (t : ℕ) → phase_at (run (start (tickets job)) es) t ≡ phase_at r.board t = λ (t : ℕ). ap (λ (b : BoardState). phase_at b t) r.board_is in
    let owner_is : (t : ℕ) → owner_at (run (start (tickets job)) es) t ≡ owner_at r.board t = λ (t : ℕ). ap (λ (b : BoardState). owner_at b t) r.board_is in
    let next = r.next_is in let lower = low job s r in record {
      machine = told (tickets job) es;
      next = r.next_is ∙ ap (λ (b : BoardState). b.next) (sym r.board_is);
      cells = λ t l. subst (λ (b : BoardState). CellIs job t (word_of s t) (get_elem? s.homes t) (phase_at b t)) (sym r.board_is) (cell t l);
      key = λ j v a h. (r.each_seat j v a).job_is h;
      few = let b = r.bounded in omega arith;
      wraps_never = omega arith;
      ended = λ j v a h. let e = (r.each_seat j v a).ended h in omega arith;
      ended_once = λ j v a. (r.each_seat j v a).ends_few;
      drawn_once = λ t l m. once job s r t ∙ below_once (tickets job) r.board.next t l (omega arith);
      undrawn = λ t l. once job s r t ∙ past_once (tickets job) r.board.next t (omega arith);
      inside = λ j t v a c. (r.each_seat j v a).inside t c;
      one_owner = λ i j t u v a b c d. dite (ℕ_discrete i j) (λ e. e) (λ ne. absurd (
          let h = total_two (λ (z : View). count t z.drawn) s.views i j u v ne a b in let o = once job s r t in let m = at_most_once (tickets job) r.board.next t in omega arith));
      owner = λ j t v a one c. owner_is t ∙ (r.each_seat j v a).owned one t c;
      owner_drew = λ t j o. r.owners t j (sym (owner_is t) ∙ o);
      has_owner = λ t l m. let o = (sound job s r).owned t (omega arith) l in (o.0, owner_is t ∙ o.1);
      filling = λ j t v a st. let f = (r.each_seat j v a).fills t st in ((λ l. at t (phase.Filling j) l f), phase_is t ∙ f);
      reading = λ j t v a st. let f = (r.each_seat j v a).reads t st in ((λ l. at t (phase.Reading j) l f), phase_is t ∙ f);
      filler = λ t w e. filler job s r t w (sym (phase_is t) ∙ e);
      reader = λ t w e. r.reader t w (sym (phase_is t) ∙ e);
      filled_once = λ j t v a. (r.each_seat j v a).fills_once t;
      noted = λ j t v a c. subst (IsNoted v t) (sym (phase_is t)) (noted job s r j t v a c (phase_at r.board t) refl);
      bodies = λ j t v a c l. body_word job t (word_of s t) (get_elem? s.homes t) (phase_at r.board t) (cell t l) ((r.each_seat j v a).bodies t c);
      refusals = λ j t v a c l. (at t (phase.Full mark.Refused) l ((r.each_seat j v a).refusals t c)).0;
      refused = λ j t v a c l. (at t (phase.Full mark.Refused) l ((r.each_seat j v a).refused t c)).0;
      read = λ j t v a c l. body_word job t (word_of s t) (get_elem? s.homes t) (phase_at r.board t) (cell t l) ((r.each_seat j v a).read t c);
    }
