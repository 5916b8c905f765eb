-- Each event keeps what holds of the board, so every list of events does.
use Rattle.std.proofs.Common.{◌≡◌, ℕ, ◌<◌, ◌≤◌, ◌≢◌, eqb, Bool, true, false, cond, List, [], ◌∷◌, ◌++◌, length, replicate, get_or, set, refl, sym, ap, ◌∙◌, subst, arith, Option, Some, None, length-set, get_or-set_other, get_or-set_same, append_assoc, append-nil, eq-eqb, ne_eqb}
use mathlib.Core.Logic.{dite}
use native.Mathlib.Decide.{ℕ_discrete, dec_le}
use Rattle.std.specs.List.{slice_get}
use Rattle.std.proofs.lemmas.Option.{get_or_from_slice_get, slice_get_within}
use Rattle.std.proofs.lemmas.List.{length-replicate, get_or-replicate, get_or_past}
use Rattle.std.proofs.lemmas.Bool.Decides.{nat_tests}
use Rattle.std.proofs.lemmas.Bool.{and_parts}
use Rattle.board_core.specs.declared.state.Mark.TheVariants.{Body, Refused}
use Rattle.board_core.specs.declared.state.Phase.{Phase}
use Rattle.board_core.specs.declared.state.Phase.TheVariants.{Vacant, Filling, Full, Reading}
use Rattle.board_core.specs.declared.state.BoardEvent.{BoardEvent}
use Rattle.board_core.specs.declared.state.BoardEvent.TheVariants.{Draw, BeginFill, EndFill, BeginRead, EndRead}
use Rattle.board_core.specs.Board.{Board}
use Rattle.board_core.specs.Machine.{start, is_owned_by, is_vacant, is_filled_by, is_read_by, has_body, is_allowed, changed_by, after, run, phase_at, owner_at}
use Rattle.board_core.specs.Sound.{IsSound, Fill, drawn_by, filled_by, draws, fills, FilledAs, DrawnOnce, IsTold}

-- what an event that is allowed finds
owner_found : (w : ℕ) (o : Option (Option ℕ)) → is_owned_by w o ≡ true → o ≡ Some (Some w)
owner_found w None h = cc
owner_found w (Some None) h = cc
owner_found w (Some (Some v)) h = let e : v ≡ w = grind (arith, nat_tests) in ap (λ (x : ℕ). Some (Some x)) e

vacant_found : (p : Option Phase) → is_vacant p ≡ true → p ≡ Some Vacant
vacant_found None h = cc
vacant_found (Some Vacant) h = refl
vacant_found (Some (Filling v)) h = cc
vacant_found (Some (Full m)) h = cc
vacant_found (Some (Reading v)) h = cc

filling_found : (w : ℕ) (p : Option Phase) → is_filled_by w p ≡ true → p ≡ Some (Filling w)
filling_found w None h = cc
filling_found w (Some Vacant) h = cc
filling_found w (Some (Filling v)) h = let e : v ≡ w = grind (arith, nat_tests) in ap (λ (x : ℕ). Some (Filling x)) e
filling_found w (Some (Full m)) h = cc
filling_found w (Some (Reading v)) h = cc

body_found : (p : Option Phase) → has_body p ≡ true → p ≡ Some (Full Body)
body_found None h = cc
body_found (Some Vacant) h = cc
body_found (Some (Filling v)) h = cc
body_found (Some (Full Body)) h = refl
body_found (Some (Full Refused)) h = cc
body_found (Some (Reading v)) h = cc

reading_found : (w : ℕ) (p : Option Phase) → is_read_by w p ≡ true → p ≡ Some (Reading w)
reading_found w None h = cc
reading_found w (Some Vacant) h = cc
reading_found w (Some (Filling v)) h = cc
reading_found w (Some (Full m)) h = cc
reading_found w (Some (Reading v)) h = let e : v ≡ w = grind (arith, nat_tests) in ap (λ (x : ℕ). Some (Reading x)) e

-- what each event keeps: the board is sound, and the draws and fills so far are those that the board shows
record Inv (n : ℕ) (b : Board) (ds : ℕ → List ℕ) (fs : ℕ → List Fill) : Type 0 where
  sound : IsSound n b
  drawn : (t : ℕ) → t < b.next → DrawnOnce n t (ds t) (owner_at b t)
  undrawn : (t : ℕ) → b.next ≤ t → ds t ≡ []
  fills : (t : ℕ) → FilledAs (owner_at b t) (fs t) (phase_at b t)

-- only what the histories have at each ticket counts
same_histories : {n : ℕ} {b : Board} {ds' : ℕ → List ℕ} {fs' : ℕ → List Fill} (ds : ℕ → List ℕ) (fs : ℕ → List Fill) → ((t : ℕ) → ds' t ≡ ds t) → ((t : ℕ) → fs' t ≡ fs t)
    → Inv n b ds fs → Inv n b ds' fs'
same_histories {n} {b} {ds'} {fs'} ds fs d f h = record {
  sound = h.sound;
  drawn = λ t l. let one = h.drawn t l in record { worker = one.worker; once = d t ∙ one.once; owns = one.owns };
  undrawn = λ t l. d t ∙ h.undrawn t l;
  fills = λ t. subst (λ (x : List Fill). FilledAs (owner_at b t) x (phase_at b t)) (sym (f t)) (h.fills t);
}

module _ (n : ℕ) (b : Board) (ds : ℕ → List ℕ) (fs : ℕ → List Fill) (i : Inv n b ds fs) where
  -- one cell goes to another phase
  cell_moves : (t : ℕ) (p : Phase) (fs' : ℕ → List Fill) → t < length b.phases → owner_at b t ≢ None → ((w : ℕ) → p ≡ Filling w → owner_at b t ≡ Some w)
      → ((k : ℕ) → k ≢ t → fs' k ≡ fs k) → FilledAs (owner_at b t) (fs' t) p → Inv n (record { next = b.next; owners = b.owners; phases = set b.phases t p }) ds fs'
  cell_moves t p fs' there some_owner filler other here =
      let now : get_or (set b.phases t p) t Vacant ≡ p = get_or-set_same b.phases t p Vacant there in
      let else_ : (k : ℕ) → k ≢ t → get_or (set b.phases t p) k Vacant ≡ phase_at b k = λ k ne. get_or-set_other b.phases t k p Vacant ne in record {
        sound = record {
          owners = i.sound.owners;
          phases = length-set b.phases t p ∙ i.sound.phases;
          owned = i.sound.owned;
          unowned = i.sound.unowned;
          beyond = i.sound.beyond;
          vacant = λ k none. else_ k (λ e. some_owner (ap (owner_at b) (sym e) ∙ none)) ∙ i.sound.vacant k none;
          filler = λ k w is. dite (ℕ_discrete k t)
              (λ e. ap (owner_at b) e ∙ filler w (sym now ∙ (ap (λ z. get_or (set b.phases t p) z Vacant) (sym e) ∙ is)))
              (λ ne. i.sound.filler k w (sym (else_ k ne) ∙ is));
        };
        drawn = i.drawn;
        undrawn = i.undrawn;
        fills = λ k. dite (ℕ_discrete k t)
            (λ e. subst (λ (z : ℕ). FilledAs (owner_at b z) (fs' z) (get_or (set b.phases t p) z Vacant)) (sym e) (subst (FilledAs (owner_at b t) (fs' t)) (sym now) here))
            (λ ne. subst (λ (x : List Fill × Phase). FilledAs (owner_at b k) x.0 x.1) (λ c. (sym (other k ne) c, sym (else_ k ne) c)) (i.fills k));
      }

  same_draws : (ds' : ℕ → List ℕ) (b' : Board) (fs' : ℕ → List Fill) → ((t : ℕ) → ds' t ≡ ds t) → Inv n b' ds fs' → Inv n b' ds' fs'
  same_draws ds' b' fs' e h = same_histories ds fs' e (λ t. refl) h

  draw_moves : (w : ℕ) → Inv n (changed_by b (Draw w)) (λ t. ds t ++ cond (eqb b.next t) (w ∷ []) []) (λ t. fs t ++ [])
  draw_moves w = let x : ℕ = b.next in let len = i.sound.owners in
      let else_ : (k : ℕ) → k ≢ x → get_or (set b.owners x (Some w)) k None ≡ owner_at b k = λ k ne. get_or-set_other b.owners x k (Some w) None ne in
      let now : x < n → get_or (set b.owners x (Some w)) x None ≡ Some w = λ l. get_or-set_same b.owners x (Some w) None (omega arith) in
      let was : owner_at b x ≡ None = i.sound.unowned x (omega arith) in
      let empty : phase_at b x ≡ Vacant = i.sound.vacant x was in
      let other : (t : ℕ) → t ≢ x → ds t ++ cond (eqb x t) (w ∷ []) [] ≡ ds t =
      λ t ne. ap (λ c. ds t ++ cond c (w ∷ []) []) (ne_eqb x t (λ e. ne (sym e))) ∙ append-nil (ds t) in record {
        sound = record {
          owners = length-set b.owners x (Some w) ∙ i.sound.owners;
          phases = i.sound.phases;
          owned = λ t l m. dite (ℕ_discrete t x) (λ e. (w, ap (λ z. get_or (set b.owners x (Some w)) z None) e ∙ now (omega arith)))
              (λ ne. let o = i.sound.owned t (omega arith) m in (o.0, else_ t ne ∙ o.1));
          unowned = λ t l. else_ t (λ e. omega arith) ∙ i.sound.unowned t (omega arith);
          beyond = λ t l. get_or_past (set b.owners x (Some w)) t None (omega (arith, length-set b.owners x (Some w), len));
          vacant = λ t none. dite (ℕ_discrete t x) (λ e. ap (phase_at b) e ∙ empty) (λ ne. i.sound.vacant t (sym (else_ t ne) ∙ none));
          filler = λ t v is. let f = i.sound.filler t v is in dite (ℕ_discrete t x)
              (λ e. let bad : None ≡ Some v = sym was ∙ (ap (owner_at b) (sym e) ∙ f) in cc)
              (λ ne. else_ t ne ∙ f);
        };
        drawn = λ t l. dite (ℕ_discrete t x)
            (λ e. record {
              worker = w;
              once = ap (λ z. ds z ++ cond (eqb x z) (w ∷ []) []) e ∙ (ap (λ (d : List ℕ). d ++ cond (eqb x x) (w ∷ []) []) (i.undrawn x (omega arith)) ∙ ap (λ c. cond c (w ∷ []) []) (eq-eqb x x refl));
              owns = λ m. ap (λ z. get_or (set b.owners x (Some w)) z None) e ∙ now (omega arith);
            })
            (λ ne. let d = i.drawn t (omega arith) in record { worker = d.worker; once = other t ne ∙ d.once; owns = λ m. else_ t ne ∙ d.owns m });
        undrawn = λ t l. other t (λ e. omega arith) ∙ i.undrawn t (omega arith);
        fills = λ t. dite (ℕ_discrete t x)
            (λ e. let here : phase_at b t ≡ Vacant = ap (phase_at b) e ∙ empty in
            let none : fs t ≡ [] = subst (λ (p : Phase). FilledAs (owner_at b t) (fs t) p) here (i.fills t) in
            subst (λ (p : Phase). FilledAs (get_or (set b.owners x (Some w)) t None) (fs t ++ []) p) (sym here) (append-nil (fs t) ∙ none))
            (λ ne. subst (λ (z : Option ℕ × List Fill). FilledAs z.0 z.1 (phase_at b t)) (λ c. (sym (else_ t ne) c, sym (append-nil (fs t)) c)) (i.fills t));
      }

  none_is : (t : ℕ) (p : Phase) → phase_at b t ≡ p → p ≢ Vacant → owner_at b t ≢ None
  none_is t p is not_vacant none = not_vacant (sym is ∙ i.sound.vacant t none)

  allowed_step : (e : BoardEvent) → is_allowed b e ≡ true → Inv n (changed_by b e) (λ t. ds t ++ drawn_by t b e) (λ t. fs t ++ filled_by t b e)
  allowed_step (Draw w) h = subst (λ c. Inv n (changed_by b (Draw w)) (λ t. ds t ++ cond c (cond (eqb b.next t) (w ∷ []) []) []) (λ t. fs t ++ [])) (sym h) (draw_moves w)
  allowed_step (BeginFill w t) h =
      let both = and_parts (is_owned_by w (slice_get b.owners t)) (is_vacant (slice_get b.phases t)) h in
      let o = owner_found w (slice_get b.owners t) both.0 in
      let p = vacant_found (slice_get b.phases t) both.1 in
      let mine : owner_at b t ≡ Some w = get_or_from_slice_get b.owners t (Some w) None o in
      let empty : phase_at b t ≡ Vacant = get_or_from_slice_get b.phases t Vacant Vacant p in
      let there : t < length b.phases = slice_get_within b.phases t Vacant p in
      let none : fs t ≡ [] = subst (λ (q : Phase). FilledAs (owner_at b t) (fs t) q) empty (i.fills t) in
      same_draws (λ k. ds k ++ []) _ _ (λ k. append-nil (ds k))
      (cell_moves t (Filling w) (λ k. fs k ++ []) there (λ e. let bad : Some w ≡ None = sym mine ∙ e in cc)
      (λ v e. mine ∙ (let same : w ≡ v = cc in ap (λ (x : ℕ). Some x) same)) (λ k _. append-nil (fs k)) (append-nil (fs t) ∙ none))
  allowed_step (EndFill w t m) h =
      let p = filling_found w (slice_get b.phases t) h in
      let is : phase_at b t ≡ Filling w = get_or_from_slice_get b.phases t (Filling w) Vacant p in
      let there : t < length b.phases = slice_get_within b.phases t (Filling w) p in
      let mine : owner_at b t ≡ Some w = i.sound.filler t w is in
      let none : fs t ≡ [] = subst (λ (q : Phase). FilledAs (owner_at b t) (fs t) q) is (i.fills t) in
      let one : List Fill = record { worker = w; mark = m } ∷ [] in
      same_draws (λ k. ds k ++ []) _ _ (λ k. append-nil (ds k))
      (cell_moves t (Full m) (λ k. fs k ++ cond (is_filled_by w (slice_get b.phases t)) (cond (eqb t k) one []) []) there (λ e. let bad : Some w ≡ None = sym mine ∙ e in cc)
      (λ v e. let e' : Full m ≡ Filling v = e in cc)
      (λ k ne. ap (λ c. fs k ++ cond c (cond (eqb t k) one []) []) h ∙ (ap (λ c. fs k ++ cond c one []) (ne_eqb t k (λ e. ne (sym e))) ∙ append-nil (fs k)))
      (w, mine, ap (λ c. fs t ++ cond c (cond (eqb t t) one []) []) h ∙ (ap (λ c. fs t ++ cond c one []) (eq-eqb t t refl) ∙ ap (λ (x : List Fill). x ++ one) none)))
  allowed_step (BeginRead w t) h =
      let p = body_found (slice_get b.phases t) h in
      let is : phase_at b t ≡ Full Body = get_or_from_slice_get b.phases t (Full Body) Vacant p in
      let there : t < length b.phases = slice_get_within b.phases t (Full Body) p in
      let f = subst (λ (q : Phase). FilledAs (owner_at b t) (fs t) q) is (i.fills t) in
      same_draws (λ k. ds k ++ []) _ _ (λ k. append-nil (ds k))
      (cell_moves t (Reading w) (λ k. fs k ++ []) there (none_is t (Full Body) is (λ e. let e' : Full Body ≡ Vacant = e in cc))
      (λ v e. let e' : Reading w ≡ Filling v = e in cc) (λ k _. append-nil (fs k)) (f.0, f.1, append-nil (fs t) ∙ f.2))
  allowed_step (EndRead w t) h =
      let p = reading_found w (slice_get b.phases t) h in
      let is : phase_at b t ≡ Reading w = get_or_from_slice_get b.phases t (Reading w) Vacant p in
      let there : t < length b.phases = slice_get_within b.phases t (Reading w) p in
      let f = subst (λ (q : Phase). FilledAs (owner_at b t) (fs t) q) is (i.fills t) in
      same_draws (λ k. ds k ++ []) _ _ (λ k. append-nil (ds k))
      (cell_moves t (Full Body) (λ k. fs k ++ []) there (none_is t (Reading w) is (λ e. let e' : Reading w ≡ Vacant = e in cc))
      (λ v e. let e' : Full Body ≡ Filling v = e in cc) (λ k _. append-nil (fs k)) (f.0, f.1, append-nil (fs t) ∙ f.2))

  -- an event that is not allowed tells nothing
  silent : (e : BoardEvent) → is_allowed b e ≡ false → (t : ℕ) → (drawn_by t b e ≡ []) × (filled_by t b e ≡ [])
  silent (Draw w) h t = (ap (λ c. cond c (cond (eqb b.next t) (w ∷ []) []) []) h, refl)
  silent (BeginFill w k) h t = (refl, refl)
  silent (EndFill w k m) h t = (refl, ap (λ c. cond c (cond (eqb k t) (record { worker = w; mark = m } ∷ []) []) []) h)
  silent (BeginRead w k) h t = (refl, refl)
  silent (EndRead w k) h t = (refl, refl)

  any_step : (e : BoardEvent) (a : Bool) → is_allowed b e ≡ a → Inv n (after b e) (λ t. ds t ++ drawn_by t b e) (λ t. fs t ++ filled_by t b e)
  any_step e true h = subst (λ (b' : Board). Inv n b' (λ t. ds t ++ drawn_by t b e) (λ t. fs t ++ filled_by t b e)) (sym (ap (λ c. cond c (changed_by b e) b) h)) (allowed_step e h)
  any_step e false h = subst (λ (b' : Board). Inv n b' (λ t. ds t ++ drawn_by t b e) (λ t. fs t ++ filled_by t b e)) (sym (ap (λ c. cond c (changed_by b e) b) h))
      (same_histories ds fs (λ t. ap (λ (x : List ℕ). ds t ++ x) (silent e h t).0 ∙ append-nil (ds t)) (λ t. ap (λ (x : List Fill). fs t ++ x) (silent e h t).1 ∙ append-nil (fs t)) i)

run_keeps : (n : ℕ) (es : List BoardEvent) (b : Board) (ds : ℕ → List ℕ) (fs : ℕ → List Fill) → Inv n b ds fs → Inv n (run b es) (λ t. ds t ++ draws t b es) (λ t. fs t ++ fills t b es)
run_keeps n [] b ds fs i = same_histories ds fs (λ t. append-nil (ds t)) (λ t. append-nil (fs t)) i
run_keeps n (e ∷ es) b ds fs i =
    same_histories (λ t. (ds t ++ drawn_by t b e) ++ draws t (after b e) es) (λ t. (fs t ++ filled_by t b e) ++ fills t (after b e) es)
    (λ t. sym (append_assoc (ds t) (drawn_by t b e) (draws t (after b e) es))) (λ t. sym (append_assoc (fs t) (filled_by t b e) (fills t (after b e) es)))
    (run_keeps n es (after b e) (λ t. ds t ++ drawn_by t b e) (λ t. fs t ++ filled_by t b e) (any_step n b ds fs i e (is_allowed b e) refl))

start_keeps : (n : ℕ) → Inv n (start n) (λ _. []) (λ _. [])
start_keeps n = record {
  sound = record {
    owners = length-replicate n None;
    phases = length-replicate n Vacant;
    owned = λ t l. absurd (omega arith);
    unowned = λ t _. none_at t;
    beyond = λ t _. none_at t;
    vacant = λ t _. vacant_at t;
    filler = λ t w e. let bad : Vacant ≡ Filling w = sym (vacant_at t) ∙ e in cc;
  };
  drawn = λ t l. absurd (omega arith);
  undrawn = λ t l. refl;
  fills = λ t. subst (FilledAs (owner_at (start n) t) []) (sym (vacant_at t)) refl;
}
  where
    none_at : (t : ℕ) → owner_at (start n) t ≡ None
    none_at t = let none : Option ℕ = None in elim (dec_le n t) [ yes d ↦ get_or_past (replicate n None) t None (omega (arith, length-replicate n none, d)) | no d ↦ get_or-replicate n t None None (omega (arith, d)) ]

    vacant_at : (t : ℕ) → phase_at (start n) t ≡ Vacant
    vacant_at t = elim (dec_le n t) [ yes d ↦ get_or_past (replicate n Vacant) t Vacant (omega (arith, length-replicate n Vacant, d)) | no d ↦ get_or-replicate n t Vacant Vacant (omega (arith, d)) ]

pub start_vacant : (n t : ℕ) → phase_at (start n) t ≡ Vacant
start_vacant n t = elim (dec_le n t) [ yes d ↦ get_or_past (replicate n Vacant) t Vacant (omega (arith, length-replicate n Vacant, d)) | no d ↦ get_or-replicate n t Vacant Vacant (omega (arith, d)) ]

pub told : (n : ℕ) (es : List BoardEvent) → IsTold n es
told n es = let h = run_keeps n es (start n) (λ _. []) (λ _. []) (start_keeps n) in record { sound = h.sound; drawn = h.drawn; undrawn = h.undrawn; filled = h.fills }
