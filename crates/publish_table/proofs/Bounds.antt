-- The start of a table, a seat made, a seat joined into another, and the end.
use Rattle.std.proofs.Common.{◌≡◌, ℕ, zero, suc, ◌+◌, ◌<◌, ◌≤◌, ◌≢◌, ◌⊎◌, eqb, true, false, cond, List, [], ◌∷◌, ◌++◌, map, length, replicate, get_or, set, refl, sym, ap, ◌∙◌, subst, ⊎_elim, inl, inr, arith, Option, Some, None, length-set, length-append}
use mathlib.Core.Logic.{dite}
use mathlib.Core.Option.{some, some-injective, some-ne-none}
use native.Mathlib.Decide.{ℕ_discrete}
use lib.ListN.{get_elem?, length-map, length-replicate}
use Rattle.std.proofs.lemmas.Bool.Decides.{nat_tests}
use Rattle.std.specs.Arc.{arc_value}
use Rattle.atomic_table.specs.Table.{Splits, Joins, opening}
use Rattle.atomic_table.proofs.Lists.{set_here, set_else, at_snoc, at_longer}
use Rattle.board_core.specs.Machine.{start, phase_at}
use Rattle.board_core.proofs.Runs.{start_vacant, told}
use Rattle.board_core.specs.declared.state.BoardEvent.{BoardEvent}
use Rattle.board_core.specs.declared.state.Phase.{Phase}
use Rattle.board_core.specs.declared.state.Phase.TheVariants as phase
use Rattle.board_core.specs.declared.state.Mark.TheVariants as mark
use Rattle.board_core.specs.declared.state.BoardState.{BoardState}
use Rattle.publish_table.specs.declared.job.Job.{Job}
use Rattle.publish_table.specs.declared.view.Cell.{Cell}
use Rattle.publish_table.specs.declared.view.Cell.TheVariants.{Body, Refused}
use Rattle.publish_table.specs.declared.view.Stage.TheVariants.{Idle, Filling, Reading}
use Rattle.publish_table.specs.declared.view.View.{View}
use Rattle.publish_table.specs.Jobs.{tickets, IsFinished}
use Rattle.publish_table.specs.Plays.{total, count, fresh, with_seat, new_seat, joined, joined_all, spent}
use Rattle.publish_table.specs.Rule.{first_view, has_body, CellIs, Knows, ends_of, seats_of, once_below, below, reached, ShowsAfter, Shows}
use Rattle.publish_table.proofs.Lists.{within, total_set, total_append, total_two, total_only}
use Rattle.publish_table.proofs.Moves.{St, seats_stay, same_total, drawn_stays, once}

-- a view that says nothing of the board
knows_nothing : (job : Job) (b : BoardState) (j : ℕ) (made : ℕ) → Knows job b j (fresh job made)
knows_nothing job b j made = record {
  job_is = λ _. refl;
  inside = λ t c. absurd (omega arith);
  owned = λ _ t c. absurd (omega arith);
  fills = λ t e. let bad : Idle ≡ Filling t = e in cc;
  reads = λ t e. let bad : Idle ≡ Reading t = e in cc;
  bodies = λ t c. absurd (omega arith);
  refusals = λ t c. absurd (omega arith);
  fills_once = λ t. omega arith;
  pending = λ t c. absurd (omega arith);
  read = λ t c. absurd (omega arith);
  refused = λ t c. absurd (omega arith);
  ended = λ c. absurd (omega arith);
  ends_few = omega arith;
  idle = λ _. refl;
  spent = λ e. absurd (omega arith);
}

knows_spent : (job : Job) (b : BoardState) (j : ℕ) → Knows job b j spent
knows_spent job b j = record {
  job_is = λ h. absurd (omega arith);
  inside = λ t c. absurd (omega arith);
  owned = λ _ t c. absurd (omega arith);
  fills = λ t e. let bad : Idle ≡ Filling t = e in cc;
  reads = λ t e. let bad : Idle ≡ Reading t = e in cc;
  bodies = λ t c. absurd (omega arith);
  refusals = λ t c. absurd (omega arith);
  fills_once = λ t. omega arith;
  pending = λ t c. absurd (omega arith);
  read = λ t c. absurd (omega arith);
  refused = λ t c. absurd (omega arith);
  ended = λ c. absurd (omega arith);
  ends_few = omega arith;
  idle = λ _. refl;
  spent = λ _ t. refl;
}

all_vacant : {A : Type 0} (n i : ℕ) (a : A) → i < n → get_elem? (map some (replicate n a)) i ≡ some (some a)
all_vacant zero i a h = absurd (omega arith)
all_vacant (suc n) zero a h = refl
all_vacant (suc n) (suc i) a h = all_vacant n i a (omega arith)

reached_none : (n : ℕ) → reached n 0 ≡ 0
reached_none n = grind (arith, nat_tests)

only_one : (v u : View) (j : ℕ) → get_elem? (v ∷ []) j ≡ some u → v ≡ u
only_one v u j e = ⊎_elim (λ (h : get_elem? [] j ≡ some u). absurd (some-ne-none u (sym h))) (λ (h : v ≡ u). h) (at_snoc [] v u j e)

module _ (job : Job) where
  pub starts : (words : List ℕ) → length words ≡ tickets job + 1 → ((i : ℕ) → i < length words → get_or words i 0 ≡ 0) → tickets job < 9223372036854775808
      → ShowsAfter job [] (opening words (replicate (tickets job) None) (first_view job))
  starts words wide blank small = let n : ℕ = tickets job in let v : View = first_view job in record {
    board = start n;
    board_is = refl;
    wide = wide;
    deep = length-map (replicate n None) (λ (x : Option Cell). some x) ∙ length-replicate n None;
    next_is = blank 0 (omega arith);
    bounded = omega arith;
    few = omega arith;
    small = small;
    each_cell = λ t l. subst (CellIs job t (get_or words (t + 1) 0) (get_elem? (map some (replicate n None)) t)) (sym (start_vacant n t)) (blank (t + 1) (omega arith), all_vacant n t None l);
    each_seat = λ j u e. subst (Knows job (start n) j) (only_one v u j e) (knows_nothing job (start n) j 1);
    owners = λ t j e. let bad : None ≡ Some j = sym ((told n []).sound.unowned t (omega arith)) ∙ e in cc;
    whole = refl;
    made = λ u e. ap (λ (x : View). x.made) (sym (only_one v u 0 e));
    weighed = λ h. ap (below h) (sym (reached_none n));
    reader = λ t w e. let bad : phase.Vacant ≡ phase.Reading w = sym (start_vacant n t) ∙ e in cc;
  }

  pub starts_at : (n : ℕ) (words : List ℕ) → n ≡ tickets job → length words ≡ n + 1 → ((i : ℕ) → i < length words → get_or words i 0 ≡ 0) → n < 9223372036854775808
      → Shows job (opening words (replicate n None) (first_view job))
  starts_at n words is wide blank small = ([], subst (λ (m : ℕ). ShowsAfter job [] (opening words (replicate m None) (first_view job))) (sym is) (starts words (omega arith) blank (omega arith)))

  -- the first seat makes another
  pub has_split : (v : View) → v.seats ≡ 1 → v.made < 64 → (s : St) {es : List BoardEvent} → ShowsAfter job es s → get_elem? s.views 0 ≡ some v
      → ShowsAfter job es record { words = s.words; homes = s.homes; views = set s.views 0 (with_seat v) ++ new_seat v ∷ [] }
  has_split v one room s r at = let w : View = with_seat v in let u0 : View = new_seat v in let k = r.each_seat 0 v at in let vs : List View = set s.views 0 w in
      let lw : length vs ≡ length s.views = length-set s.views 0 w in let la : length (vs ++ u0 ∷ []) ≡ length vs + 1 = length-append vs (u0 ∷ []) in
      let here : get_elem? (vs ++ u0 ∷ []) 0 ≡ some w = at_longer vs (u0 ∷ []) 0 w (set_here s.views 0 w (within s.views 0 v at)) in
      let m = r.made v at in
      let K = Knows job r.board in
      let known : K 0 w = record {
        job_is = k.job_is;
        inside = k.inside;
        owned = k.owned;
        fills = k.fills;
        reads = k.reads;
        bodies = k.bodies;
        refusals = k.refusals;
        fills_once = k.fills_once;
        pending = k.pending;
        read = k.read;
        refused = k.refused;
        ended = k.ended;
        ends_few = k.ends_few;
        idle = k.idle;
        spent = k.spent;
      } in
      let jobs : v.job ≡ job = k.job_is (omega arith) in record {
        board = r.board;
        board_is = r.board_is;
        wide = r.wide;
        deep = r.deep;
        next_is = r.next_is;
        bounded = let b = r.bounded in let e = same_total ends_of s.views 0 v w at refl in let f = total_append ends_of vs (u0 ∷ []) in omega arith;
        few = omega arith;
        small = r.small;
        each_cell = r.each_cell;
        each_seat = λ j u e. ⊎_elim (λ (h : get_elem? vs j ≡ some u). seats_stay K s.views 0 w known (λ i x _ p. r.each_seat i x p) j u h)
            (λ (h : u0 ≡ u). subst (K j) h (subst (λ (q : Job). K j (fresh q 0)) (sym jobs) (knows_nothing job r.board j 0))) (at_snoc vs u0 u j e);
        owners = λ t j e. let o = drawn_stays s.views 0 v w j t at (λ n. n) (λ _ n. n) (r.owners t j e) in (o.0, at_longer vs (u0 ∷ []) j o.0 o.1, o.2);
        whole = let b = r.whole in let e = same_total seats_of s.views 0 v w at refl in let f = total_append seats_of vs (u0 ∷ []) in omega arith;
        made = λ u e. let same : w ≡ u = some-injective w u (sym here ∙ e) in ap (λ (x : View). x.made) (sym same) ∙ omega arith;
        weighed = λ h. let e = same_total (λ (x : View). total h x.drawn) s.views 0 v w at refl in let f = total_append (λ (x : View). total h x.drawn) vs (u0 ∷ []) in let o = r.weighed h in omega arith;
        reader = λ t y e. let o = r.reader t y e in dite (ℕ_discrete y 0)
            (λ z. (w, ap (get_elem? (vs ++ u0 ∷ [])) z ∙ here, ap (λ (x : View). x.stage) (some-injective v o.0 (sym at ∙ (ap (get_elem? s.views) (sym z) ∙ o.1))) ∙ o.2))
            (λ ne. (o.0, at_longer vs (u0 ∷ []) y o.0 (set_else s.views 0 y w ne ∙ o.1), o.2));
      }

  pub splits : (v : View) → v.seats ≡ 1 → v.made < 64 → Splits (Shows job) 0 v (with_seat v) (new_seat v)
  splits v one room s r at = (r.0, has_split v one room s r.1 at)

  -- the first seat takes in another
  pub has_joined : (v : View) (other : ℕ) (w : View) → 0 < v.seats → 0 < w.seats → v.stage ≡ Idle → w.stage ≡ Idle → (s : St) {es : List BoardEvent} → ShowsAfter job es s → get_elem? s.views 0 ≡ some v
      → other ≢ 0 → get_elem? (set s.views 0 (joined v w)) other ≡ some w → ShowsAfter job es record { words = s.words; homes = s.homes; views = set (set s.views 0 (joined v w)) other spent }
  has_joined v other w some_v some_w idle_v idle_w s r at apart there = let both : View = joined v w in let vs : List View = set s.views 0 both in let us : List View = set vs other spent in
      let was : get_elem? s.views other ≡ some w = sym (set_else s.views 0 other both apart) ∙ there in
      let k = r.each_seat 0 v at in let q = r.each_seat other w was in let K = Knows job r.board in
      let lens : length us ≡ length s.views = length-set vs other spent ∙ length-set s.views 0 both in
      let sums : (f : View → ℕ) → f both ≡ f v + f w → f spent ≡ 0 → total f us ≡ total f s.views =
      λ (f : View → ℕ) (a : f both ≡ f v + f w) (b : f spent ≡ 0). let x = total_set f s.views 0 v both at in let y = total_set f vs other w spent there in omega arith in
      let counts : (z : ℕ) (a b : List ℕ) → count z (a ++ b) ≡ count z a + count z b = λ (z : ℕ) (a : List ℕ) (b : List ℕ). total_append (λ x. cond (eqb x z) 1 0) a b in
      let idles : (u : View) → u.stage ≡ Idle → (t : ℕ) → u.stage ≢ Filling t = λ (u : View) (i : u.stage ≡ Idle) (t : ℕ) (e : u.stage ≡ Filling t). let bad : Idle ≡ Filling t = sym i ∙ e in cc in
      let either_of : (z : ℕ) (a b : List ℕ) → 0 < count z (a ++ b) → (0 < count z a) ⊎ (0 < count z b) =
      λ (z : ℕ) (a : List ℕ) (b : List ℕ) (h : 0 < count z (a ++ b)). let e = total_append (λ x. cond (eqb x z) 1 0) a b in
      dite (ℕ_discrete (count z a) 0) (λ n. inr (omega arith)) (λ n. inl (omega arith)) in
      let known : K 0 both = record {
        job_is = λ _. k.job_is some_v;
        inside = λ t c. ⊎_elim (k.inside t) (q.inside t) (either_of t v.drawn w.drawn c);
        owned = λ e. absurd (omega arith);
        fills = k.fills;
        reads = k.reads;
        bodies = λ t c. ⊎_elim (k.bodies t) (q.bodies t) (either_of t v.bodies w.bodies c);
        refusals = λ t c. ⊎_elim (k.refusals t) (q.refusals t) (either_of t v.refusals w.refusals c);
        fills_once = λ t. let a = k.fills_once t in let b = q.fills_once t in let c = counts t v.drawn w.drawn in let d = counts t v.bodies w.bodies in let e = counts t v.refusals w.refusals in omega arith;
        pending = λ t c nb nr ns. let d = counts t v.bodies w.bodies in let e = counts t v.refusals w.refusals in
            ⊎_elim (λ (h : 0 < count t v.drawn). k.pending t h (omega arith) (omega arith) (idles v idle_v t))
            (λ (h : 0 < count t w.drawn). q.pending t h (omega arith) (omega arith) (idles w idle_w t)) (either_of t v.drawn w.drawn c);
        read = λ t c. ⊎_elim (k.read t) (q.read t) (either_of t v.read w.read c);
        refused = λ t c. ⊎_elim (k.refused t) (q.refused t) (either_of t v.refused w.refused c);
        ended = λ c. dite (ℕ_discrete v.ends 0) (λ n. q.ended (omega arith)) (λ n. k.ended (omega arith));
        ends_few = let a = k.ends_few in let b = q.ends_few in omega arith;
        idle = λ _. idle_v;
        spent = λ e. absurd (omega arith);
      } in record {
        board = r.board;
        board_is = r.board_is;
        wide = r.wide;
        deep = r.deep;
        next_is = r.next_is;
        bounded = let b = r.bounded in let e = sums ends_of refl refl in omega arith;
        few = let f = r.few in omega arith;
        small = r.small;
        each_cell = r.each_cell;
        each_seat = seats_stay K vs other spent (knows_spent job r.board other) (λ j x _. seats_stay K s.views 0 both known (λ i y _ p. r.each_seat i y p) j x);
        owners = λ t j e. drawn_stays vs other w spent j t there (λ n. absurd (omega arith)) (λ n _. absurd (omega arith))
            (drawn_stays s.views 0 v both j t at (λ _. some_v) (λ _ n. let c = counts t v.drawn w.drawn in omega arith) (r.owners t j e));
        whole = sums seats_of refl refl ∙ (r.whole ∙ sym lens);
        made = λ u e. let here : get_elem? us 0 ≡ some both = set_else vs other 0 spent (λ z. apart (sym z)) ∙ set_here s.views 0 both (within s.views 0 v at) in
            ap (λ (x : View). x.made) (some-injective u both (sym e ∙ here)) ∙ (r.made v at ∙ sym lens);
        weighed = λ h. sums (λ u. total h u.drawn) (total_append h v.drawn w.drawn) refl ∙ r.weighed h;
        reader = λ t y e. let o = r.reader t y e in
            let not_idle : (u : View) → get_elem? s.views y ≡ some u → u.stage ≢ Idle = λ (u : View) (h : get_elem? s.views y ≡ some u) (i : u.stage ≡ Idle).
            let bad : Idle ≡ Reading t = sym i ∙ (ap (λ (x : View). x.stage) (some-injective u o.0 (sym h ∙ o.1)) ∙ o.2) in cc in (
              o.0,
              set_else vs other y spent (λ z. not_idle w (ap (get_elem? s.views) z ∙ was) idle_w)
                  ∙ (set_else s.views 0 y both (λ z. not_idle v (ap (get_elem? s.views) z ∙ at) idle_v) ∙ o.1),
              o.2,
            );
      }

  pub joins : (v : View) (other : ℕ) (w : View) → 0 < v.seats → 0 < w.seats → v.stage ≡ Idle → w.stage ≡ Idle → Joins (Shows job) 0 v other w (joined v w) spent
  joins v other w some_v some_w idle_v idle_w s r at apart there = (r.0, has_joined v other w some_v some_w idle_v idle_w s r.1 at apart there)

-- what the views know together
pub joined_sum : (f : View → ℕ) → ((v w : View) → f (joined v w) ≡ f v + f w) → (v : View) (ws : List View) → f (joined_all v ws) ≡ f v + total f ws
joined_sum f add v [] = omega arith
joined_sum f add v (w ∷ ws) = let h = joined_sum f add (joined v w) ws in let a = add v w in omega arith

pub joined_stage : (v : View) (ws : List View) → (joined_all v ws).stage ≡ v.stage
joined_stage v [] = refl
joined_stage v (w ∷ ws) = joined_stage (joined v w) ws

pub joined_made : (v : View) (ws : List View) → (joined_all v ws).made ≡ v.made
joined_made v [] = refl
joined_made v (w ∷ ws) = joined_made (joined v w) ws

pub joined_push : (v : View) (ws : List View) (w : View) → joined_all v (ws ++ w ∷ []) ≡ joined (joined_all v ws) w
joined_push v [] w = refl
joined_push v (x ∷ xs) w = joined_push (joined v x) xs w

-- the end of a table: v is the view of the one seat that is left
pub record Gathered (job : Job) (v : View) : Type 0 where
  pub seats : v.seats ≡ v.made
  pub stage : v.stage ≡ Idle
  pub some : 0 < v.seats
  pub filled : (t : ℕ) → 0 < count t v.drawn → 0 < count t v.bodies + count t v.refusals
  pub ended : 0 < v.ends

abbrev pub AtEnd : Job → View → ℕ → Cell → Type 0
AtEnd job v t (Body a) = IsFinished job t (arc_value a) × (count t v.refusals ≡ 0)
AtEnd job v t Refused = 0 < count t v.refusals

once_all : (n next t : ℕ) → t < n → n ≤ next → once_below n next t ≡ 1
once_all n next t l m = let p : t < next = omega arith in grind (arith, nat_tests)

reached_all : (n next : ℕ) → n ≤ next → reached n next ≡ n
reached_all n next l = grind (arith, nat_tests)

no_head : (t n : ℕ) → cond (eqb t t) 1 0 + n ≡ 0 → ⊥
no_head t n e = grind (arith, nat_tests)

pub no_count : (h : ℕ → ℕ) (ts : List ℕ) → ((t : ℕ) → count t ts ≡ 0) → total h ts ≡ 0
no_count h [] none = refl
no_count h (t ∷ ts) none = absurd (no_head t (count t ts) (none t))

none_drawn : (h : ℕ → ℕ) (u : View) → ((t : ℕ) → count t u.drawn ≡ 0) → total h u.drawn ≡ 0
none_drawn h u none = no_count h u.drawn none

module _ (job : Job) (s : St) {es : List BoardEvent} (r : ShowsAfter job es s) (v : View) (at : get_elem? s.views 0 ≡ some v) (g : Gathered job v) where
  others_spent : (j : ℕ) (u : View) → j ≢ 0 → get_elem? s.views j ≡ some u → u.seats ≡ 0
  others_spent j u ne e = let h = total_two seats_of s.views 0 j v u (λ z. ne (sym z)) at e in let w = r.whole in let m = r.made v at in let q = g.seats in omega arith

  pub drawn_once : (t : ℕ) → t < tickets job → count t v.drawn ≡ 1
  drawn_once t l = let h = total_only (λ (u : View). count t u.drawn) s.views 0 v at (λ j u ne e. (r.each_seat j u e).spent (others_spent j u ne e) t) in
      sym h ∙ (once job s r t ∙ once_all (tickets job) r.board.next t l ((r.each_seat 0 v at).ended g.ended))

  -- all tickets, each once, however they are weighed
  pub drawn_all : (h : ℕ → ℕ) → total h v.drawn ≡ below h (tickets job)
  drawn_all h = sym (total_only (λ (u : View). total h u.drawn) s.views 0 v at (λ j u ne e. none_drawn h u ((r.each_seat j u e).spent (others_spent j u ne e))))
      ∙ (r.weighed h ∙ ap (below h) (reached_all (tickets job) r.board.next ((r.each_seat 0 v at).ended g.ended)))

  not_read : (t w : ℕ) → phase_at r.board t ≢ phase.Reading w
  not_read t w is = let o = r.reader t w is in
      let idle : o.0.stage ≡ Idle = dite (ℕ_discrete w 0) (λ e. ap (λ (x : View). x.stage) (some-injective o.0 v (sym o.1 ∙ (ap (get_elem? s.views) e ∙ at))) ∙ g.stage)
      (λ ne. (r.each_seat w o.0 o.1).idle (λ one. let z = others_spent w o.0 ne o.1 in omega arith)) in
      let bad : Idle ≡ Reading t = sym idle ∙ o.2 in cc

  by_end : (t : ℕ) (p : Phase) → phase_at r.board t ≡ p → CellIs job t (get_or s.words (t + 1) 0) (get_elem? s.homes t) p → 0 < count t v.bodies + count t v.refusals
      → (c : Cell) × (get_elem? s.homes t ≡ some (some (Some c))) × AtEnd job v t c
  by_end t phase.Vacant is c f = absurd (let k = r.each_seat 0 v at in dite (ℕ_discrete (count t v.bodies) 0)
      (λ z. let bad : phase.Vacant ≡ phase.Full mark.Refused = sym is ∙ k.refusals t (omega arith) in cc)
      (λ z. let bad : false ≡ true = ap has_body (sym is) ∙ k.bodies t (omega arith) in cc))
  by_end t (phase.Filling w) is c f = absurd (let k = r.each_seat 0 v at in dite (ℕ_discrete (count t v.bodies) 0)
      (λ z. let bad : phase.Filling w ≡ phase.Full mark.Refused = sym is ∙ k.refusals t (omega arith) in cc)
      (λ z. let bad : false ≡ true = ap has_body (sym is) ∙ k.bodies t (omega arith) in cc))
  by_end t (phase.Full mark.Body) is c f = (
    Body c.1.0,
    c.1.1,
    (
      c.1.2,
      dite (ℕ_discrete (count t v.refusals) 0) (λ z. z)
          (λ z. let bad : phase.Full mark.Body ≡ phase.Full mark.Refused = sym is ∙ (r.each_seat 0 v at).refusals t (omega arith) in cc),
    ),
  )
  by_end t (phase.Full mark.Refused) is c f = (
    Refused,
    c.1,
    dite (ℕ_discrete (count t v.refusals) 0)
        (λ z. let bad : false ≡ true = ap has_body (sym is) ∙ (r.each_seat 0 v at).bodies t (omega arith) in cc) (λ z. omega arith),
  )
  by_end t (phase.Reading w) is c f = absurd (not_read t w is)

  pub ends_as : (t : ℕ) → t < tickets job → (c : Cell) × (get_elem? s.homes t ≡ some (some (Some c))) × AtEnd job v t c
  ends_as t l = let d = drawn_once t l in by_end t (phase_at r.board t) refl (r.each_cell t l) (g.filled t (omega arith))
