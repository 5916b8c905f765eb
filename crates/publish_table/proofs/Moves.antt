-- A step that moves one cell, a step that moves none, and a draw keep the rule.
use Rattle.std.proofs.Common.{nat_lt, add-one, zero, suc, ◌≡◌, ℕ, ◌+◌, ◌<◌, ◌≤◌, ◌≢◌, eqb, true, false, cond, List, [], ◌∷◌, ◌++◌, length, get_or, set, refl, sym, ap, ◌∙◌, subst, ⊎_elim, arith, Option, Some, None, length-set, get_or-set_other, get_or-set_same}
use mathlib.Core.Logic.{dite}
use mathlib.Core.Option.{some, some-injective}
use mathlib.Core.Option as maybe
use native.Mathlib.Decide.{ℕ_discrete, dec_le}
use lib.ListN.{get_elem?}
use lib.Seq.{set-get_or}
use Rattle.std.proofs.lemmas.List.{get_or_past}
use Rattle.std.proofs.lemmas.Bool.Decides.{nat_tests}
use Rattle.atomic_table.specs.Table.{State, Me}
use Rattle.atomic_table.proofs.Lists.{at_set, set_here, set_else}
use Rattle.board_core.specs.Machine.{start, run, after, phase_at, owner_at}
use Rattle.board_core.specs.Sound.{IsSound}
use Rattle.board_core.proofs.Facts.{run_snoc, may_draw}
use Rattle.board_core.proofs.Runs.{told}
use Rattle.board_core.specs.declared.state.Phase.{Phase}
use Rattle.board_core.specs.declared.state.Phase.TheVariants as phase
use Rattle.board_core.specs.declared.state.Mark.TheVariants as mark
use Rattle.board_core.specs.declared.state.BoardEvent.{BoardEvent}
use Rattle.board_core.specs.declared.state.BoardEvent.TheVariants.{Draw}
use Rattle.board_core.specs.declared.state.BoardState.{BoardState}
use Rattle.publish_table.specs.declared.job.Job.{Job}
use Rattle.publish_table.specs.declared.view.Cell.{Cell}
use Rattle.publish_table.specs.declared.view.Stage.TheVariants.{Reading}
use Rattle.publish_table.specs.declared.view.View.{View}
use Rattle.publish_table.specs.Jobs.{tickets}
use Rattle.publish_table.specs.Plays.{total, count, with_drawn, with_end, IsNew}
use Rattle.publish_table.specs.Rule.{has_body, CellIs, Knows, ends_of, seats_of, once_below, below, reached, HasDrawn, ShowsAfter}
use Rattle.publish_table.proofs.Lists.{within, total_set, total_append, total_has, total_le, counted, count_else, count_here, count_snoc}
use Rattle.publish_table.proofs.Claims.{put_phase, phase_here, phase_else}

abbrev pub Homes : Type 0
Homes = List (maybe.Option (Option Cell))

abbrev pub St : Type 0
St = State (Option Cell) View

abbrev pub M : Type 0
M = Me (Option Cell) View

-- the parts of a view that the totals are over
pub record IsLike (v w : View) : Type 0 where
  pub seats : w.seats ≡ v.seats
  pub made : w.made ≡ v.made
  pub drawn : w.drawn ≡ v.drawn
  pub ends : w.ends ≡ v.ends

pub seats_stay : (K : ℕ → View → Type 0) (vs : List View) (me : ℕ) (w : View) → K me w → ((j : ℕ) (d : View) → j ≢ me → get_elem? vs j ≡ some d → K j d)
    → (j : ℕ) (d : View) → get_elem? (set vs me w) j ≡ some d → K j d
seats_stay K vs me w mine others j d e = ⊎_elim (λ (t : (j ≡ me) × (w ≡ d)). subst (λ (x : ℕ × View). K x.0 x.1) (λ i. (sym t.0 i, t.1 i)) mine)
    (λ (t : (j ≢ me) × (get_elem? vs j ≡ some d)). others j d t.0 t.1) (at_set vs me j w d e)

pub same_total : (f : View → ℕ) (vs : List View) (i : ℕ) (v w : View) → get_elem? vs i ≡ some v → f w ≡ f v → total f (set vs i w) ≡ total f vs
same_total f vs i v w at e = let h = total_set f vs i v w at in omega arith

-- a seat's view changes, and it has still drawn what it drew
pub drawn_stays : (vs : List View) (id : ℕ) (v w : View) (j t : ℕ) → get_elem? vs id ≡ some v → (0 < w.seats → 0 < v.seats) → (0 < w.seats → 0 < count t v.drawn → 0 < count t w.drawn) → HasDrawn vs j t
    → HasDrawn (set vs id w) j t
drawn_stays vs id v w j t at seats drawn o = dite (ℕ_discrete j id)
    (λ e. (
      w,
      ap (get_elem? (set vs id w)) e ∙ set_here vs id w (within vs id v at),
      λ n. drawn n (subst (λ (z : View). 0 < count t z.drawn) (some-injective o.0 v (sym o.1 ∙ (ap (get_elem? vs) e ∙ at)))
          (o.2 (subst (λ (z : View). 0 < z.seats) (some-injective v o.0 (sym at ∙ (ap (get_elem? vs) (sym e) ∙ o.1))) (seats n)))),
    ))
    (λ ne. (o.0, set_else vs id j w ne ∙ o.1, o.2))

step_one : (t k : ℕ) → cond (nat_lt t k) 1 0 + cond (eqb k t) 1 0 ≡ cond (nat_lt t (k + 1)) 1 0
step_one t k = grind (arith, nat_tests)

none_below : (t : ℕ) → ◌≡◌ {A = ℕ} (cond (nat_lt t 0) 1 0) 0
none_below t = grind (arith, nat_tests)

pub below_one : (t k : ℕ) → below (λ x. cond (eqb x t) 1 0) k ≡ cond (nat_lt t k) 1 0
below_one t zero = sym (none_below t)
below_one t (suc k) = ap (λ (z : ℕ). z + cond (eqb k t) 1 0) (below_one t k) ∙ (step_one t k ∙ ap (λ (z : ℕ). cond (nat_lt t z) 1 0) (add-one k))

pub at_most_once : (n next t : ℕ) → once_below n next t ≤ 1
at_most_once n next t = grind (arith, nat_tests)

once_reached : (n next t : ℕ) → cond (nat_lt t (reached n next)) 1 0 ≡ once_below n next t
once_reached n next t = grind (arith, nat_tests)

module _ (job : Job) (s : St) {es : List BoardEvent} (r : ShowsAfter job es s) where
  pub sound : IsSound (tickets job) r.board
  sound = subst (IsSound (tickets job)) r.board_is (told (tickets job) es).sound

  -- the run goes on by one event
  pub goes_on : (e : BoardEvent) (b' : BoardState) → after r.board e ≡ b' → run (start (tickets job)) (es ++ e ∷ []) ≡ b'
  goes_on e b' is = run_snoc es (start (tickets job)) e ∙ (ap (λ (b : BoardState). after b e) r.board_is ∙ is)

  made_stays : (id : ℕ) (v w : View) → get_elem? s.views id ≡ some v → w.made ≡ v.made → (u : View) → get_elem? (set s.views id w) 0 ≡ some u → u.made ≡ length (set s.views id w)
  made_stays id v w at same u e = ⊎_elim
      (λ (t : (0 ≡ id) × (w ≡ u)). ap (λ (x : View). x.made) (sym t.1) ∙ (same ∙ (r.made v (subst (λ (i : ℕ). get_elem? s.views i ≡ some v) (sym t.0) at) ∙ sym (length-set s.views id w))))
      (λ (t : (0 ≢ id) × (get_elem? s.views 0 ≡ some u)). r.made u t.1 ∙ sym (length-set s.views id w))
      (at_set s.views id 0 w u e)

  -- the cell t goes to the phase p, by the seat id
  pub cell_step : (id : ℕ) (v w : View) (t x : ℕ) (e : BoardEvent) (p : Phase) (homes' : Homes) → get_elem? s.views id ≡ some v → t < tickets job
      → after r.board e ≡ put_phase r.board t p → length homes' ≡ length s.homes → ((k : ℕ) → k ≢ t → get_elem? homes' k ≡ get_elem? s.homes k)
      → CellIs job t x (get_elem? homes' t) p → IsLike v w → Knows job (put_phase r.board t p) id w
      → ((j : ℕ) (u : View) → j ≢ id → get_elem? s.views j ≡ some u → Knows job r.board j u → Knows job (put_phase r.board t p) j u)
      → ((y : ℕ) → p ≡ phase.Reading y → (y ≡ id) × (w.stage ≡ Reading t)) → ((k : ℕ) → v.stage ≡ Reading k → k ≡ t)
      → ShowsAfter job (es ++ e ∷ []) record { words = set s.words (t + 1) x; homes = homes'; views = set s.views id w }
  cell_step id v w t x e p homes' at inside moves as_deep slots here like known others reads own =
      let deep = sound.phases in
      let there : t < length r.board.phases = omega arith in
      let wide = r.wide in record {
        board = put_phase r.board t p;
        board_is = goes_on e (put_phase r.board t p) moves;
        wide = length-set s.words (t + 1) x ∙ r.wide;
        deep = as_deep ∙ r.deep;
        next_is = get_or-set_other s.words (t + 1) 0 x 0 (λ z. omega arith) ∙ r.next_is;
        bounded = let b = r.bounded in let same = same_total ends_of s.views id v w at (like.ends) in omega arith;
        few = let f = r.few in omega (arith, length-set s.views id w);
        small = r.small;
        each_cell = λ k l. dite (ℕ_discrete k t)
            (λ is. subst (λ (z : ℕ). CellIs job z (get_or (set s.words (t + 1) x) (z + 1) 0) (get_elem? homes' z) (phase_at (put_phase r.board t p) z)) (sym is)
            (subst (λ (z : ℕ × Phase). CellIs job t z.0 (get_elem? homes' t) z.1)
            (λ c. (sym (get_or-set_same s.words (t + 1) x 0 (omega arith)) c, sym (phase_here r.board t p there) c)) here))
            (λ ne. subst (λ (z : ℕ × maybe.Option (maybe.Option (Option Cell)) × Phase). CellIs job k z.0 z.1 z.2)
            (λ c. (sym (get_or-set_other s.words (t + 1) (k + 1) x 0 (λ z. ne (omega arith))) c, sym (slots k ne) c, sym (phase_else r.board t p there k ne) c)) (r.each_cell k l));
        each_seat = seats_stay (Knows job (put_phase r.board t p)) s.views id w known (λ j u ne h. others j u ne h (r.each_seat j u h));
        owners = λ k j o. drawn_stays s.views id v w j k at (λ n. subst (λ (z : ℕ). 0 < z) like.seats n) (λ _. subst (λ (l : List ℕ). 0 < count k l) (sym like.drawn)) (r.owners k j o);
        whole = same_total seats_of s.views id v w at like.seats ∙ (r.whole ∙ sym (length-set s.views id w));
        made = made_stays id v w at like.made;
        weighed = λ h. same_total (λ u. total h u.drawn) s.views id v w at (ap (total h) like.drawn) ∙ r.weighed h;
        reader = λ k y is. dite (ℕ_discrete k t)
            (λ e'. let q = reads y (sym (phase_here r.board t p there) ∙ (ap (phase_at (put_phase r.board t p)) (sym e') ∙ is)) in
            (w, subst (λ (z : ℕ). get_elem? (set s.views id w) z ≡ some w) (sym q.0) (set_here s.views id w (within s.views id v at)), q.1 ∙ ap (λ (z : ℕ). Reading z) (sym e')))
            (λ ne. let o = r.reader k y (sym (phase_else r.board t p there k ne) ∙ is) in
            (o.0, set_else s.views id y w (λ e'. ne (own k (ap (λ (z : View). z.stage) (some-injective v o.0 (sym at ∙ (ap (get_elem? s.views) (sym e') ∙ o.1))) ∙ o.2))) ∙ o.1, o.2));
      }

  -- no cell and no word moves, and the seat's view becomes w
  pub looked : (id : ℕ) (v w : View) → get_elem? s.views id ≡ some v → IsLike v w → w.stage ≡ v.stage → Knows job r.board id w
      → ShowsAfter job es record { words = s.words; homes = s.homes; views = set s.views id w }
  looked id v w at like same known = record {
    board = r.board;
    board_is = r.board_is;
    wide = r.wide;
    deep = r.deep;
    next_is = r.next_is;
    bounded = let b = r.bounded in let e = same_total ends_of s.views id v w at (like.ends) in omega arith;
    few = let f = r.few in omega (arith, length-set s.views id w);
    small = r.small;
    each_cell = r.each_cell;
    each_seat = seats_stay (Knows job r.board) s.views id w known (λ j u ne h. r.each_seat j u h);
    owners = λ k j o. drawn_stays s.views id v w j k at (λ n. subst (λ (z : ℕ). 0 < z) like.seats n) (λ _. subst (λ (l : List ℕ). 0 < count k l) (sym like.drawn)) (r.owners k j o);
    whole = same_total seats_of s.views id v w at like.seats ∙ (r.whole ∙ sym (length-set s.views id w));
    made = made_stays id v w at like.made;
    weighed = λ h. same_total (λ u. total h u.drawn) s.views id v w at (ap (total h) like.drawn) ∙ r.weighed h;
    reader = λ k y is. let o = r.reader k y is in dite (ℕ_discrete y id)
        (λ e. (
          w,
          ap (get_elem? (set s.views id w)) e ∙ set_here s.views id w (within s.views id v at),
          same ∙ (ap (λ (z : View). z.stage) (some-injective v o.0 (sym at ∙ (ap (get_elem? s.views) (sym e) ∙ o.1))) ∙ o.2),
        ))
        (λ ne. (o.0, set_else s.views id y w ne ∙ o.1, o.2));
  }

  pub unmoved : (i id : ℕ) (v w : View) → get_elem? s.views id ≡ some v → IsLike v w → w.stage ≡ v.stage → Knows job r.board id w
      → ShowsAfter job es record { words = set s.words i (get_or s.words i 0); homes = s.homes; views = set s.views id w }
  unmoved i id v w at like same known = subst (λ (ws : List ℕ). ShowsAfter job es record { words = ws; homes = s.homes; views = set s.views id w }) (sym (set-get_or s.words i 0)) (looked id v w at like same known)

  -- each ticket that was drawn stands once among all views
  pub once : (t : ℕ) → total (λ v. count t v.drawn) s.views ≡ once_below (tickets job) r.board.next t
  once t = r.weighed (λ x. cond (eqb x t) 1 0) ∙ (below_one t (reached (tickets job) r.board.next) ∙ once_reached (tickets job) r.board.next t)

  -- where a ticket was not drawn, no view has it
  pub undrawn : (j k : ℕ) (u : View) → get_elem? s.views j ≡ some u → r.board.next ≤ k → count k u.drawn ≡ 0
  undrawn j k u at past = let h = total_has (λ (z : View). count k z.drawn) s.views j u at in
      let none : total (λ z. count k z.drawn) s.views ≡ 0 = once k ∙ grind (arith, nat_tests) in
      omega arith

  few_ends : total ends_of s.views ≤ 64
  few_ends = let h = total_le ends_of seats_of s.views (λ j u at. (r.each_seat j u at).ends_few) in let w = r.whole in let f = r.few in omega arith

  pub low : r.board.next < 18446744073709551614
  low = let b = r.bounded in let f = few_ends in let m = r.small in omega arith

  -- the board after a draw
  abbrev drawn_board : ℕ → BoardState
  drawn_board id = record { next = r.board.next + 1; owners = set r.board.owners r.board.next (Some id); phases = r.board.phases }

  owner_else : (id k : ℕ) → k ≢ r.board.next → owner_at (drawn_board id) k ≡ owner_at r.board k
  owner_else id k ne = get_or-set_other r.board.owners r.board.next k (Some id) None ne

  owner_here : (id : ℕ) → r.board.next < tickets job → owner_at (drawn_board id) r.board.next ≡ Some id
  owner_here id l = let h = sound.owners in get_or-set_same r.board.owners r.board.next (Some id) None (omega arith)

  drawn_owner : (id j : ℕ) → owner_at (drawn_board id) r.board.next ≡ Some j → (r.board.next < tickets job) × (j ≡ id)
  drawn_owner id j e = elim (dec_le (tickets job) r.board.next) [
    | yes past ↦ let len = sound.owners in let none : owner_at (drawn_board id) r.board.next ≡ None = get_or_past (set r.board.owners r.board.next (Some id)) r.board.next None (omega (arith, length-set r.board.owners r.board.next (Some id), len, past)) in
        let bad : None ≡ Some j = sym none ∙ e in cc
    | no more ↦ let l : r.board.next < tickets job = omega (arith, more) in let same : Some id ≡ Some j = sym (owner_here id l) ∙ e in (l, let i : id ≡ j = cc in sym i)
  ]

  others_draw : (id j : ℕ) (u : View) → get_elem? s.views j ≡ some u → Knows job r.board j u → Knows job (drawn_board id) j u
  others_draw id j u at k = record {
    job_is = k.job_is;
    inside = k.inside;
    owned = λ one x d. owner_else id x (λ e. let z = undrawn j x u at (omega arith) in omega arith) ∙ k.owned one x d;
    fills = k.fills;
    reads = k.reads;
    bodies = k.bodies;
    refusals = k.refusals;
    fills_once = k.fills_once;
    pending = k.pending;
    read = k.read;
    refused = k.refused;
    ended = λ e. let h = k.ended e in omega arith;
    ends_few = k.ends_few;
    idle = k.idle;
    spent = k.spent;
  }

  -- a seat draws: its view becomes w
  pub draw_step : (id : ℕ) (v w : View) → get_elem? s.views id ≡ some v → w.seats ≡ v.seats → w.made ≡ v.made → w.stage ≡ v.stage → Knows job (drawn_board id) id w
      → (r.board.next < tickets job → 0 < count r.board.next w.drawn) → ((t : ℕ) → 0 < count t v.drawn → 0 < count t w.drawn)
      → r.board.next + 1 ≤ tickets job + total ends_of (set s.views id w)
      → ((h : ℕ → ℕ) → total (λ u. total h u.drawn) (set s.views id w) ≡ below h (reached (tickets job) (r.board.next + 1)))
      → ShowsAfter job (es ++ Draw id ∷ []) record { words = set s.words 0 (r.board.next + 1); homes = s.homes; views = set s.views id w }
  draw_step id v w at seats made stage known new old bound once = let wide = r.wide in record {
    board = drawn_board id;
    board_is = goes_on (Draw id) (drawn_board id) (may_draw r.board id (let h = low in omega arith));
    wide = length-set s.words 0 (r.board.next + 1) ∙ r.wide;
    deep = r.deep;
    next_is = get_or-set_same s.words 0 (r.board.next + 1) 0 (omega arith);
    bounded = bound;
    few = let f = r.few in omega (arith, length-set s.views id w);
    small = r.small;
    each_cell = λ k l. subst (λ (z : ℕ). CellIs job k z (get_elem? s.homes k) (phase_at r.board k)) (sym (get_or-set_other s.words 0 (k + 1) (r.board.next + 1) 0 (λ z. omega arith))) (r.each_cell k l);
    each_seat = seats_stay (Knows job (drawn_board id)) s.views id w known (λ j u ne h. others_draw id j u h (r.each_seat j u h));
    owners = λ t j o. dite (ℕ_discrete t r.board.next)
        (λ e. let p = drawn_owner id j (ap (owner_at (drawn_board id)) (sym e) ∙ o) in (
          w,
          ap (get_elem? (set s.views id w)) p.1 ∙ set_here s.views id w (within s.views id v at),
          λ _. subst (λ (z : ℕ). 0 < count z w.drawn) (sym e) (new p.0),
        ))
        (λ ne. drawn_stays s.views id v w j t at (λ n. subst (λ (z : ℕ). 0 < z) seats n) (λ _. old t) (r.owners t j (sym (owner_else id t ne) ∙ o)));
    whole = same_total seats_of s.views id v w at seats ∙ (r.whole ∙ sym (length-set s.views id w));
    made = made_stays id v w at made;
    weighed = once;
    reader = λ k y is. let o = r.reader k y is in dite (ℕ_discrete y id)
        (λ e. (
          w,
          ap (get_elem? (set s.views id w)) e ∙ set_here s.views id w (within s.views id v at),
          stage ∙ (ap (λ (z : View). z.stage) (some-injective v o.0 (sym at ∙ (ap (get_elem? s.views) (sym e) ∙ o.1))) ∙ o.2),
        ))
        (λ ne. (o.0, set_else s.views id y w ne ∙ o.1, o.2));
  }

  -- the ticket next
  knows_drawn : (id : ℕ) (v : View) → get_elem? s.views id ≡ some v → v.seats ≡ 1 → r.board.next < tickets job → Knows job (drawn_board id) id (with_drawn v r.board.next)
  knows_drawn id v at one l = let x : ℕ = r.board.next in let k = r.each_seat id v at in record {
    job_is = k.job_is;
    inside = λ t c. ⊎_elim (λ (e : t ≡ x). omega arith) (λ h. k.inside t h) (counted t x v.drawn c);
    owned = λ _ t c. dite (ℕ_discrete t x) (λ e. ap (owner_at (drawn_board id)) e ∙ owner_here id l)
        (λ ne. owner_else id t ne ∙ k.owned one t (let h = count_else t x v.drawn ne in omega arith));
    fills = k.fills;
    reads = k.reads;
    bodies = k.bodies;
    refusals = k.refusals;
    fills_once = λ t. let h = count_snoc t x v.drawn in let f = k.fills_once t in omega arith;
    pending = λ t c nb nr ns. dite (ℕ_discrete t x) (λ e. ap (phase_at r.board) e ∙ sound.vacant x (sound.unowned x (omega arith)))
        (λ ne. k.pending t (let h = count_else t x v.drawn ne in omega arith) nb nr ns);
    read = k.read;
    refused = k.refused;
    ended = λ e. let h = k.ended e in omega arith;
    ends_few = k.ends_few;
    idle = k.idle;
    spent = λ z. absurd (omega arith);
  }

  knows_end : (id : ℕ) (v : View) → get_elem? s.views id ≡ some v → v.seats ≡ 1 → v.ends ≡ 0 → tickets job ≤ r.board.next → Knows job (drawn_board id) id (with_end v)
  knows_end id v at one none past = let k = others_draw id id v at (r.each_seat id v at) in record {
    job_is = k.job_is;
    inside = k.inside;
    owned = k.owned;
    fills = k.fills;
    reads = k.reads;
    bodies = k.bodies;
    refusals = k.refusals;
    fills_once = k.fills_once;
    pending = k.pending;
    read = k.read;
    refused = k.refused;
    ended = λ _. omega arith;
    ends_few = omega arith;
    idle = k.idle;
    spent = k.spent;
  }

module _ (job : Job) (s : St) {es : List BoardEvent} (r : ShowsAfter job es s) where
  -- a ticket that was not drawn is new to each seat
  pub is_new : (j k : ℕ) (u : View) → get_elem? s.views j ≡ some u → r.board.next ≤ k → IsNew u k
  is_new j k u at past = let so = sound job s r in let q = r.each_seat j u at in let empty : phase_at r.board k ≡ phase.Vacant = so.vacant k (so.unowned k past) in (
    undrawn job s r j k u at past,
    dite (ℕ_discrete (count k u.bodies) 0) (λ z. z) (λ z. let bad : false ≡ true = ap has_body (sym empty) ∙ q.bodies k (omega arith) in cc),
    dite (ℕ_discrete (count k u.refusals) 0) (λ z. z) (λ z. let bad : phase.Vacant ≡ phase.Full mark.Refused = sym empty ∙ q.refusals k (omega arith) in cc),
  )

reached_here : (n x : ℕ) → x < n → (reached n x ≡ x) × (reached n (x + 1) ≡ suc x)
reached_here n x l = (grind (arith, nat_tests), grind (arith, nat_tests))

reached_past : (n x : ℕ) → n ≤ x → reached n (x + 1) ≡ reached n x
reached_past n x l = grind (arith, nat_tests)

module _ (job : Job) (s : St) {es : List BoardEvent} (r : ShowsAfter job es s) (id : ℕ) (v : View) (at : get_elem? s.views id ≡ some v) (one : v.seats ≡ 1) where
  pub draws_ticket : r.board.next < tickets job → ShowsAfter job (es ++ Draw id ∷ []) record { words = set s.words 0 (r.board.next + 1); homes = s.homes; views = set s.views id (with_drawn v r.board.next) }
  draws_ticket l = let x : ℕ = r.board.next in let w : View = with_drawn v x in
      draw_step job s r id v w at refl refl refl (knows_drawn job s r id v at one l)
      (λ _. let h = count_here x v.drawn in omega arith) (λ t c. let h = count_snoc t x v.drawn in omega arith)
      (omega arith)
      (λ h. let t = total_set (λ (u : View). total h u.drawn) s.views id v w at in let c = total_append h v.drawn (x ∷ []) in let o = r.weighed h in
      let q = reached_here (tickets job) x l in let a = ap (below h) q.0 in let b = ap (below h) q.1 in omega arith)

  pub draws_none : v.ends ≡ 0 → tickets job ≤ r.board.next → ShowsAfter job (es ++ Draw id ∷ []) record { words = set s.words 0 (r.board.next + 1); homes = s.homes; views = set s.views id (with_end v) }
  draws_none not_ended past = let w : View = with_end v in
      draw_step job s r id v w at refl refl refl (knows_end job s r id v at one not_ended past)
      (λ l. absurd (omega arith)) (λ _ c. c)
      (let t = total_set ends_of s.views id v w at in let b = r.bounded in omega arith)
      (λ h. same_total (λ (u : View). total h u.drawn) s.views id v w at refl ∙ (r.weighed h ∙ ap (below h) (sym (reached_past (tickets job) r.board.next past))))
