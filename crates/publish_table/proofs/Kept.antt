-- What each step of a seat leaves: the board after one event more.
use Rattle.std.proofs.Common.{◌≡◌, ℕ, ◌+◌, ◌<◌, ◌≤◌, ◌≢◌, ◌⊎◌, eqb, cond, Bool, true, false, List, [], ◌∷◌, ◌++◌, length, get_or, set, refl, sym, ap, ◌∙◌, subst, ⊎_elim, inl, inr, arith, Option, Some, None, length-set, ne_eqb}
use mathlib.Core.Logic.{dite}
use mathlib.Core.Option.{some, none, some-injective}
use mathlib.Core.Option as maybe
use native.Mathlib.Decide.{ℕ_discrete}
use lib.ListN.{get_elem?}
use Rattle.std.specs.Arc.{arc_value}
use Rattle.std.specs.declared.sync.Arc.{Arc}
use Rattle.std.specs.declared.alloc.Global.{Global}
use Rattle.atomic_table.proofs.Lists.{set_here, set_else}
use Rattle.board_core.specs.Machine.{phase_at, owner_at}
use Rattle.board_core.proofs.Facts.{may_fill, may_end_fill, may_read, may_end_read}
use Rattle.board_core.specs.declared.state.Phase.{Phase}
use Rattle.board_core.specs.declared.state.Phase.TheVariants as phase
use Rattle.board_core.specs.declared.state.Mark.{Mark}
use Rattle.board_core.specs.declared.state.Mark.TheVariants as mark
use Rattle.board_core.specs.declared.state.BoardEvent.{BoardEvent}
use Rattle.board_core.specs.declared.state.BoardEvent.TheVariants.{BeginFill, EndFill, BeginRead, EndRead}
use Rattle.publish_table.specs.declared.job.Job.{Job}
use Rattle.inline_finish.specs.declared.bodies.Built.{Built}
use Rattle.publish_table.specs.declared.view.Cell.{Cell}
use Rattle.publish_table.specs.declared.view.Cell.TheVariants.{Body, Refused}
use Rattle.publish_table.specs.declared.view.Stage.TheVariants.{Idle, Filling, Reading}
use Rattle.publish_table.specs.declared.view.View.{View}
use Rattle.publish_table.specs.Jobs.{tickets, IsFinished}
use Rattle.publish_table.specs.Plays.{count, filling, with_body, with_refusal, reading, with_read, with_refused}
use Rattle.publish_table.specs.Rule.{has_body, CellIs, Knows, ShowsAfter}
use Rattle.publish_table.proofs.Lists.{counted, count_here, count_more, count_snoc, total_two}
use Rattle.publish_table.proofs.Claims.{put_phase, claim, phase_here, phase_else, others}
use Rattle.publish_table.proofs.Moves.{St, IsLike, sound, once, at_most_once, cell_step, looked}

pub alike : (v w : View) → w.seats ≡ v.seats → w.made ≡ v.made → w.drawn ≡ v.drawn → w.ends ≡ v.ends → IsLike v w
alike v w a b c d = record { seats = a; made = b; drawn = c; ends = d }

module _ (job : Job) (s : St) {es : List BoardEvent} (r : ShowsAfter job es s) (id t : ℕ) (v : View) (at : get_elem? s.views id ≡ some v) (one : v.seats ≡ 1) (lt : t < tickets job) where
  there : t < length r.board.phases
  there = let so = sound job s r in let a = so.phases in omega arith

  -- a ticket that the seat drew and has not filled has a vacant cell
  pub is_vacant : v.stage ≡ Idle → 0 < count t v.drawn → count t v.bodies ≡ 0 → count t v.refusals ≡ 0 → phase_at r.board t ≡ phase.Vacant
  is_vacant idle mine no_body no_refusal = (r.each_seat id v at).pending t mine no_body no_refusal (λ e. let bad : Idle ≡ Filling t = sym idle ∙ e in cc)

  pub vacant_home : v.stage ≡ Idle → 0 < count t v.drawn → count t v.bodies ≡ 0 → count t v.refusals ≡ 0 → get_elem? s.homes t ≡ some (some None)
  vacant_home idle mine no_body no_refusal =
      (subst (CellIs job t (get_or s.words (t + 1) 0) (get_elem? s.homes t)) (is_vacant idle mine no_body no_refusal) (r.each_cell t lt)).1

  -- the seat begins to fill the cell of a ticket that it drew and has not filled
  pub fill_begun : v.stage ≡ Idle → 0 < count t v.drawn → count t v.bodies ≡ 0 → count t v.refusals ≡ 0
      → ShowsAfter job (es ++ BeginFill id t ∷ []) record { words = set s.words (t + 1) 1; homes = set s.homes t none; views = set s.views id (filling v t) }
  fill_begun idle mine no_body no_refusal =
      let k = r.each_seat id v at in
      let empty : phase_at r.board t ≡ phase.Vacant = is_vacant idle mine no_body no_refusal in
      let owner : owner_at r.board t ≡ Some id = k.owned one t mine in
      let so = sound job s r in let a = so.phases in let b = so.owners in
      let w : View = filling v t in let p : Phase = phase.Filling id in
      cell_step job s r id v w t 1 (BeginFill id t) p (set s.homes t none) at lt
      (may_fill r.board t there id (omega arith) owner empty)
      (length-set s.homes t none) (λ z ne. set_else s.homes t z none ne) refl (alike v w refl refl refl refl)
      record {
        job_is = k.job_is;
        inside = k.inside;
        owned = k.owned;
        fills = λ z e. let same : t ≡ z = cc in ap (phase_at (put_phase r.board t p)) (sym same) ∙ phase_here r.board t p there;
        reads = λ z e. let bad : Filling t ≡ Reading z = e in cc;
        bodies = λ z c. claim r.board t p there (λ q. has_body q ≡ true) z (k.bodies z c) (λ e _. absurd (let h : 0 < count t v.bodies = subst (λ (x : ℕ). 0 < count x v.bodies) e c in omega arith));
        refusals = λ z c. claim r.board t p there (λ q. q ≡ phase.Full mark.Refused) z (k.refusals z c) (λ e _. absurd (let h : 0 < count t v.refusals = subst (λ (x : ℕ). 0 < count x v.refusals) e c in omega arith));
        fills_once = k.fills_once;
        pending = λ z c nb nr ns. phase_else r.board t p there z (λ e. ns (ap (λ (x : ℕ). Filling x) (sym e)))
            ∙ k.pending z c nb nr (λ e. let bad : Idle ≡ Filling z = sym idle ∙ e in cc);
        read = λ z c. claim r.board t p there (λ q. has_body q ≡ true) z (k.read z c) (λ e h. let bad : false ≡ true = ap has_body (sym empty) ∙ h in cc);
        refused = λ z c. claim r.board t p there (λ q. q ≡ phase.Full mark.Refused) z (k.refused z c) (λ e h. let bad : phase.Vacant ≡ phase.Full mark.Refused = sym empty ∙ h in cc);
        ended = k.ended;
        ends_few = k.ends_few;
        idle = λ h. absurd (h one);
        spent = λ h. absurd (omega arith);
      }
      (λ j u ne there_j h. others r.board t p there job phase.Vacant j u empty
      (λ _ c. let both = total_two (λ (z : View). count t z.drawn) s.views id j v u (λ e. ne (sym e)) at there_j in let o = once job s r t in let m = at_most_once (tickets job) r.board.next t in omega arith)
      (λ e. cc) (λ e. cc) (λ e. cc) (λ e. cc) h)
      (λ y e. cc)
      (λ z e. let bad : Idle ≡ Reading z = sym idle ∙ e in cc)

  -- what the seat fills it has drawn, and has not filled before
  filling_now : v.stage ≡ Filling t → (0 < count t v.drawn) × (count t v.bodies ≡ 0) × (count t v.refusals ≡ 0)
  filling_now stage =
      let k = r.each_seat id v at in let was : phase_at r.board t ≡ phase.Filling id = k.fills t stage in
      let o = r.owners t id ((sound job s r).filler t id was) in let same : v ≡ o.0 = some-injective v o.0 (sym at ∙ o.1) in (
        subst (λ (u : View). 0 < count t u.drawn) (sym same) (o.2 (let n : v.seats ≡ o.0.seats = ap (λ (u : View). u.seats) same in omega arith)),
        dite (ℕ_discrete (count t v.bodies) 0) (λ z. z) (λ z. let bad : false ≡ true = ap has_body (sym was) ∙ k.bodies t (omega arith) in cc),
        dite (ℕ_discrete (count t v.refusals) 0) (λ z. z) (λ z. let bad : phase.Filling id ≡ phase.Full mark.Refused = sym was ∙ k.refusals t (omega arith) in cc),
      )

  -- the seat ends its fill with y, in the phase Full m, by the word x
  fill_ended : (x : ℕ) (y : Option Cell) (m : Mark) (w : View) → v.stage ≡ Filling t
      → ((home : maybe.Option (maybe.Option (Option Cell))) → home ≡ some (some y) → v.job ≡ job → CellIs job t x home (phase.Full m))
      → w.stage ≡ Idle → w.job ≡ v.job → w.read ≡ v.read → w.refused ≡ v.refused → IsLike v w
      → ((z : ℕ) → 0 < count z w.bodies → ((z ≡ t) × (has_body (phase.Full m) ≡ true)) ⊎ (0 < count z v.bodies))
      → ((z : ℕ) → 0 < count z w.refusals → ((z ≡ t) × (m ≡ mark.Refused)) ⊎ (0 < count z v.refusals))
      → ((z : ℕ) → count z w.bodies + count z w.refusals ≡ count z v.bodies + count z v.refusals + cond (eqb t z) 1 0)
      → ((z : ℕ) → count z w.bodies ≡ 0 → count z w.refusals ≡ 0 → (z ≢ t) × (count z v.bodies ≡ 0) × (count z v.refusals ≡ 0))
      → ShowsAfter job (es ++ EndFill id t m ∷ []) record { words = set s.words (t + 1) x; homes = set s.homes t (some y); views = set s.views id w }
  fill_ended x y m w stage cell w_stage w_job w_read w_refused like w_bodies w_refusals w_once w_open =
      let k = r.each_seat id v at in let d = r.deep in
      let was : phase_at r.board t ≡ phase.Filling id = k.fills t stage in
      let now = filling_now stage in
      let p : Phase = phase.Full m in let b' = put_phase r.board t p in
      let home : get_elem? (set s.homes t (some y)) t ≡ some (some y) = set_here s.homes t (some y) (omega arith) in
      cell_step job s r id v w t x (EndFill id t m) p (set s.homes t (some y)) at lt (may_end_fill r.board t there id m was)
      (length-set s.homes t (some y)) (λ z ne. set_else s.homes t z (some y) ne)
      (cell (get_elem? (set s.homes t (some y)) t) home (k.job_is (omega arith))) like
      record {
        job_is = λ _. w_job ∙ k.job_is (omega arith);
        inside = λ z c. k.inside z (subst (λ (l : List ℕ). 0 < count z l) like.drawn c);
        owned = λ _ z c. k.owned one z (subst (λ (l : List ℕ). 0 < count z l) like.drawn c);
        fills = λ z e. let bad : Idle ≡ Filling z = sym w_stage ∙ e in cc;
        reads = λ z e. let bad : Idle ≡ Reading z = sym w_stage ∙ e in cc;
        bodies = λ z c. ⊎_elim (λ (e : (z ≡ t) × (has_body p ≡ true)). ap (λ (i : ℕ). has_body (phase_at b' i)) e.0 ∙ (ap has_body (phase_here r.board t p there) ∙ e.1))
            (λ o. claim r.board t p there (λ q. has_body q ≡ true) z (k.bodies z o) (λ e h. let bad : false ≡ true = ap has_body (sym was) ∙ h in cc)) (w_bodies z c);
        refusals = λ z c. ⊎_elim (λ (e : (z ≡ t) × (m ≡ mark.Refused)). ap (phase_at b') e.0 ∙ (phase_here r.board t p there ∙ ap (λ (i : Mark). phase.Full i) e.1))
            (λ o. claim r.board t p there (λ q. q ≡ phase.Full mark.Refused) z (k.refusals z o) (λ e h. let bad : phase.Filling id ≡ phase.Full mark.Refused = sym was ∙ h in cc)) (w_refusals z c);
        fills_once = λ z. let drawn : count z w.drawn ≡ count z v.drawn = ap (count z) like.drawn in let e = w_once z in let f = k.fills_once z in dite (ℕ_discrete z t)
            (λ q. let a : 0 < count z v.drawn = subst (λ (i : ℕ). 0 < count i v.drawn) (sym q) now.0 in let b : count z v.bodies ≡ 0 = ap (λ (i : ℕ). count i v.bodies) q ∙ now.1 in
            let c : count z v.refusals ≡ 0 = ap (λ (i : ℕ). count i v.refusals) q ∙ now.2 in let n : cond {A = ℕ} (eqb t z) 1 0 ≤ 1 = at_most (eqb t z) in omega arith)
            (λ ne. let n : ◌≡◌ {A = ℕ} (cond (eqb t z) 1 0) 0 = ap (λ q. cond {A = ℕ} q 1 0) (ne_eqb t z (λ i. ne (sym i))) in omega arith);
        pending = λ z c nb nr ns. let o = w_open z nb nr in phase_else r.board t p there z o.0
            ∙ k.pending z (subst (λ (l : List ℕ). 0 < count z l) like.drawn c) o.1 o.2 (λ e. o.0 (let same : Filling t ≡ Filling z = sym stage ∙ e in cc));
        read = λ z c. claim r.board t p there (λ q. has_body q ≡ true) z (k.read z (subst (λ (l : List ℕ). 0 < count z l) w_read c)) (λ e h. let bad : false ≡ true = ap has_body (sym was) ∙ h in cc);
        refused = λ z c. claim r.board t p there (λ q. q ≡ phase.Full mark.Refused) z (k.refused z (subst (λ (l : List ℕ). 0 < count z l) w_refused c)) (λ e h. let bad : phase.Filling id ≡ phase.Full mark.Refused = sym was ∙ h in cc);
        ended = λ e. k.ended (subst (λ (z : ℕ). 0 < z) like.ends e);
        ends_few = let a = like.ends in let b = like.seats in let h = k.ends_few in omega arith;
        idle = λ h. absurd (h (like.seats ∙ one));
        spent = λ h. let n = like.seats in absurd (omega arith);
      }
      (λ j u ne _ h. others r.board t p there job (phase.Filling id) j u was
      (λ e. cc) (λ e. ne (let same : id ≡ j = cc in sym same)) (λ e. cc) (λ e. cc) (λ e. cc) h)
      (λ y' e. cc)
      (λ z e. let bad : Filling t ≡ Reading z = sym stage ∙ e in cc)
    where
      at_most : (q : Bool) → cond {A = ℕ} q 1 0 ≤ 1
      at_most true = omega arith
      at_most false = omega arith

  pub body_filled : (a : Arc Built Global) → v.stage ≡ Filling t → IsFinished v.job t (arc_value a)
      → ShowsAfter job (es ++ EndFill id t mark.Body ∷ []) record { words = set s.words (t + 1) 2; homes = set s.homes t (some (Some (Body a))); views = set s.views id (with_body v t) }
  body_filled a stage finished = let w : View = with_body v t in
      fill_ended 2 (Some (Body a)) mark.Body w stage (λ home h j. (refl, (a, h, subst (λ (z : Job). IsFinished z t (arc_value a)) j finished))) refl refl refl refl (alike v w refl refl refl refl)
      (λ z c. ⊎_elim (λ (e : z ≡ t). inl (e, refl)) (λ o. inr o) (counted z t v.bodies c)) (λ z c. inr c)
      (λ z. let h = count_snoc z t v.bodies in omega arith)
      (λ z nb nr. ((λ e. let h = count_here t v.bodies in let n : count t (v.bodies ++ t ∷ []) ≡ 0 = subst (λ (i : ℕ). count i (v.bodies ++ t ∷ []) ≡ 0) e nb in omega arith), count_more z t v.bodies nb, nr))

  pub refusal_filled : v.stage ≡ Filling t
      → ShowsAfter job (es ++ EndFill id t mark.Refused ∷ []) record { words = set s.words (t + 1) 4; homes = set s.homes t (some (Some Refused)); views = set s.views id (with_refusal v t) }
  refusal_filled stage = let w : View = with_refusal v t in
      fill_ended 4 (Some Refused) mark.Refused w stage (λ home h j. (refl, h)) refl refl refl refl (alike v w refl refl refl refl)
      (λ z c. inr c) (λ z c. ⊎_elim (λ (e : z ≡ t). inl (e, refl)) (λ o. inr o) (counted z t v.refusals c))
      (λ z. let h = count_snoc z t v.refusals in omega arith)
      (λ z nb nr. ((λ e. let h = count_here t v.refusals in let n : count t (v.refusals ++ t ∷ []) ≡ 0 = subst (λ (i : ℕ). count i (v.refusals ++ t ∷ []) ≡ 0) e nr in omega arith), nb, count_more z t v.refusals nr))

  -- the seat notes that it found a refusal
  pub knows_refused : phase_at r.board t ≡ phase.Full mark.Refused → Knows job r.board id (with_refused v t)
  knows_refused is = let k = r.each_seat id v at in record {
    job_is = k.job_is;
    inside = k.inside;
    owned = k.owned;
    fills = k.fills;
    reads = k.reads;
    bodies = k.bodies;
    refusals = k.refusals;
    fills_once = k.fills_once;
    pending = k.pending;
    read = k.read;
    refused = λ z c. ⊎_elim (λ (e : z ≡ t). ap (phase_at r.board) e ∙ is) (λ o. k.refused z o) (counted z t v.refused c);
    ended = k.ended;
    ends_few = k.ends_few;
    idle = k.idle;
    spent = k.spent;
  }

  pub refusal_found : phase_at r.board t ≡ phase.Full mark.Refused → ShowsAfter job es record { words = s.words; homes = s.homes; views = set s.views id (with_refused v t) }
  refusal_found is = let w : View = with_refused v t in looked job s r id v w at (alike v w refl refl refl refl) refl (knows_refused is)

  -- the seat begins to read
  pub read_begun : v.stage ≡ Idle → phase_at r.board t ≡ phase.Full mark.Body
      → ShowsAfter job (es ++ BeginRead id t ∷ []) record { words = set s.words (t + 1) 3; homes = set s.homes t none; views = set s.views id (reading v t) }
  read_begun idle is =
      let k = r.each_seat id v at in let w : View = reading v t in let p : Phase = phase.Reading id in
      cell_step job s r id v w t 3 (BeginRead id t) p (set s.homes t none) at lt (may_read r.board t there id is)
      (length-set s.homes t none) (λ z ne. set_else s.homes t z none ne) refl (alike v w refl refl refl refl)
      record {
        job_is = k.job_is;
        inside = k.inside;
        owned = k.owned;
        fills = λ z e. let bad : Reading t ≡ Filling z = e in cc;
        reads = λ z e. let same : t ≡ z = cc in ap (phase_at (put_phase r.board t p)) (sym same) ∙ phase_here r.board t p there;
        bodies = λ z c. claim r.board t p there (λ q. has_body q ≡ true) z (k.bodies z c) (λ _ _. refl);
        refusals = λ z c. claim r.board t p there (λ q. q ≡ phase.Full mark.Refused) z (k.refusals z c) (λ e h. let bad : phase.Full mark.Body ≡ phase.Full mark.Refused = sym is ∙ h in cc);
        fills_once = k.fills_once;
        pending = λ z c nb nr ns. claim r.board t p there (λ q. q ≡ phase.Vacant) z (k.pending z c nb nr (λ e. let bad : Idle ≡ Filling z = sym idle ∙ e in cc))
            (λ e h. let bad : phase.Full mark.Body ≡ phase.Vacant = sym is ∙ h in cc);
        read = λ z c. claim r.board t p there (λ q. has_body q ≡ true) z (k.read z c) (λ _ _. refl);
        refused = λ z c. claim r.board t p there (λ q. q ≡ phase.Full mark.Refused) z (k.refused z c) (λ e h. let bad : phase.Full mark.Body ≡ phase.Full mark.Refused = sym is ∙ h in cc);
        ended = k.ended;
        ends_few = k.ends_few;
        idle = λ h. absurd (h one);
        spent = λ h. absurd (omega arith);
      }
      (λ j u ne _ h. others r.board t p there job (phase.Full mark.Body) j u is (λ e. cc) (λ e. cc) (λ e. cc) (λ e. cc) (λ _. refl) h)
      (λ y e. let same : id ≡ y = cc in (sym same, refl))
      (λ z e. let bad : Idle ≡ Reading z = sym idle ∙ e in cc)

  -- the seat ends its read
  pub read_ended : (a : Arc Built Global) → v.stage ≡ Reading t → IsFinished v.job t (arc_value a)
      → ShowsAfter job (es ++ EndRead id t ∷ []) record { words = set s.words (t + 1) 2; homes = set s.homes t (some (Some (Body a))); views = set s.views id (with_read v t) }
  read_ended a stage finished =
      let k = r.each_seat id v at in let d = r.deep in
      let was : phase_at r.board t ≡ phase.Reading id = k.reads t stage in
      let p : Phase = phase.Full mark.Body in let b' = put_phase r.board t p in let w : View = with_read v t in let y : Option Cell = Some (Body a) in
      let home : get_elem? (set s.homes t (some y)) t ≡ some (some y) = set_here s.homes t (some y) (omega arith) in
      cell_step job s r id v w t 2 (EndRead id t) p (set s.homes t (some y)) at lt (may_end_read r.board t there id was)
      (length-set s.homes t (some y)) (λ z ne. set_else s.homes t z (some y) ne)
      (refl, (a, home, subst (λ (z : Job). IsFinished z t (arc_value a)) (k.job_is (omega arith)) finished)) (alike v w refl refl refl refl)
      record {
        job_is = k.job_is;
        inside = k.inside;
        owned = k.owned;
        fills = λ z e. let bad : Idle ≡ Filling z = e in cc;
        reads = λ z e. let bad : Idle ≡ Reading z = e in cc;
        bodies = λ z c. claim r.board t p there (λ q. has_body q ≡ true) z (k.bodies z c) (λ _ _. refl);
        refusals = λ z c. claim r.board t p there (λ q. q ≡ phase.Full mark.Refused) z (k.refusals z c) (λ e h. let bad : phase.Reading id ≡ phase.Full mark.Refused = sym was ∙ h in cc);
        fills_once = k.fills_once;
        pending = λ z c nb nr ns. claim r.board t p there (λ q. q ≡ phase.Vacant) z (k.pending z c nb nr (λ e. let bad : Reading t ≡ Filling z = sym stage ∙ e in cc))
            (λ e h. let bad : phase.Reading id ≡ phase.Vacant = sym was ∙ h in cc);
        read = λ z c. ⊎_elim (λ (e : z ≡ t). ap (λ (i : ℕ). has_body (phase_at b' i)) e ∙ ap has_body (phase_here r.board t p there))
            (λ o. claim r.board t p there (λ q. has_body q ≡ true) z (k.read z o) (λ _ _. refl)) (counted z t v.read c);
        refused = λ z c. claim r.board t p there (λ q. q ≡ phase.Full mark.Refused) z (k.refused z c) (λ e h. let bad : phase.Reading id ≡ phase.Full mark.Refused = sym was ∙ h in cc);
        ended = k.ended;
        ends_few = k.ends_few;
        idle = λ h. absurd (h one);
        spent = λ h. absurd (omega arith);
      }
      (λ j u ne _ h. others r.board t p there job (phase.Reading id) j u was
      (λ e. cc) (λ e. cc) (λ e. ne (let same : id ≡ j = cc in sym same)) (λ e. cc) (λ e. refl) h)
      (λ y' e. cc)
      (λ z e. let same : Reading t ≡ Reading z = sym stage ∙ e in cc)
