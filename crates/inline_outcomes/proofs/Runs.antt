-- Whole runs, in both directions.
use Rattle.std.proofs.Common.{◌≡◌, ◌≢◌, ℕ, zero, suc, ◌*◌, ◌≤◌, inl, inr, List, [], Option, Some, None, refl, sym, ap, ◌∙◌, subst, arith}
use Rattle.ir_core.specs.declared.names.FuncName.{FuncName}
use Rattle.clk_num.specs.Operations.{DataValue}
use Rattle.ir_core.specs.Module.{Function, Module}
use Rattle.ir_core.specs.Lookup.{find_function}
use Rattle.ir_semantics.specs.Machine.{BadReply, End, Frame, Going, Moment, On, Over, Returned, ScriptEnded, Stuck, Threw, Trapped, Unwritten, Wait, World}
use Rattle.ir_semantics.specs.Step.{begin, must, step, written}
use Rattle.ir_semantics.specs.Runs.{first, outcome, run}
use Rattle.ir_semantics.specs.Splice.{Splicing}
use Rattle.ir_semantics.specs.Same.{Safe, Written}
use Rattle.inline_outcomes.proofs.Local.{Free}
use Rattle.inline_outcomes.proofs.Related.{Stack, none}
use Rattle.inline_outcomes.proofs.Returning.{Foll}
use Rattle.inline_outcomes.proofs.Stepping.{E, LinkOf, Linked, begin_once, step_follow}

not_free : (e : End) → (e ≢ Stuck) → (e ≢ Unwritten) → Free e → ⊥
not_free Stuck a b h = a refl
not_free Unwritten a b h = b refl
not_free Going a b h = h
not_free (Returned x) a b h = h
not_free (Trapped x) a b h = h
not_free (Threw t p q) a b h = h
not_free ScriptEnded a b h = h
not_free BadReply a b h = h

-- the runs of one entry call in both: one step of M is one step or two of R
pub record RunsAlike (m r : Module) (entry : FuncName) (args : List DataValue) (w : World) : Type 0 where
  pub forth : (n : ℕ) → (k : ℕ) × (n ≤ k) × (k ≤ 2 * n) × (outcome r entry args w k ≡ outcome m entry args w n)
  pub back : (k : ℕ) → (n : ℕ) × (n ≤ k) × (outcome r entry args w k ≡ outcome m entry args w n)

abbrev pub SameRuns : Module → Module → Type 0
SameRuns m r = (entry : FuncName) (args : List DataValue) (w : World) → Safe m entry args w → Written m entry args w → RunsAlike m r entry args w

module _ (M R : Module) (S : Splicing) (linked : Linked M R S) where
  abbrev Pair : Frame → List Wait → Frame → List Wait → Type 0
  Pair = Stack S

  record Forth (m : ℕ) (t t' : Moment) : Type 0 where
    k : ℕ
    least : m ≤ k
    most : k ≤ 2 * m
    same : run R k t' ≡ run M m t

  record Back (k : ℕ) (t t' : Moment) : Type 0 where
    m : ℕ
    most : m ≤ k
    same : run R k t' ≡ run M m t

  forth : (m : ℕ) (x x' : Frame) (s s' : List Wait) (w : World) → Pair x s x' s' → ((run M m (On x s w)).end ≢ Stuck) → ((run M m (On x s w)).end ≢ Unwritten) → Forth m (On x s w) (On x' s' w)
  forth zero x x' s s' w st a b = record { k = 0; least = omega arith; most = omega arith; same = refl }
  forth (suc m) x x' s s' w st a b =
      let r = go (forth m) (step M x s w) (step R x' s' w) (step_follow M R S linked st w) a b in
      record { k = suc r.0; least = r.1; most = r.2; same = r.3 }
    where
      go : ((x1 x1' : Frame) (s1 s1' : List Wait) (w1 : World) → Pair x1 s1 x1' s1' → ((run M m (On x1 s1 w1)).end ≢ Stuck) → ((run M m (On x1 s1 w1)).end ≢ Unwritten) → Forth m (On x1 s1 w1) (On x1' s1' w1)) → (t t' : Moment) → Foll S R linked.names t t' → ((run M m t).end ≢ Stuck) → ((run M m t).end ≢ Unwritten) → (k : ℕ) × (suc m ≤ suc k) × (suc k ≤ 2 * suc m) × (run R k t' ≡ run M m t)
      go ih (Over w1 e) t' (inl free) a b = absurd (not_free e a b free)
      go ih (Over w1 e) t' (inr h) a b = (m, omega arith, omega arith, ap (run R m) h)
      go ih (On x1 s1 w1) t' (x1', s1', inl h, st1) a b = let i = ih x1 x1' s1 s1' w1 st1 a b in (i.k, omega (arith, i.least), omega (arith, i.most), ap (run R i.k) h ∙ i.same)
      go ih (On x1 s1 w1) t' (x1', s1', inr (y, sy, h, h2), st1) a b =
          let i = ih x1 x1' s1 s1' w1 st1 a b in
          (suc i.k, omega (arith, i.least), omega (arith, i.most), ap (run R (suc i.k)) h ∙ ap (run R i.k) h2 ∙ i.same)

  -- the source never ends in what no_values is said of
  abbrev Fine : Moment → Type 0
  Fine t = (m : ℕ) → ((run M m t).end ≢ Stuck) × ((run M m t).end ≢ Unwritten)

  abbrev BackAt : ℕ → Type 0
  BackAt k = (x x' : Frame) (s s' : List Wait) (w : World) → Pair x s x' s' → Fine (On x s w) → Back k (On x s w) (On x' s' w)

  back_step : (k : ℕ) → BackAt k → ((j : ℕ) → k ≡ suc j → BackAt j) → BackAt (suc k)
  back_step k ih ih2 x x' s s' w st fine =
      let r = made (step M x s w) (step R x' s' w) (step_follow M R S linked st w) (λ m. fine (suc m)) in
      record { m = suc r.0; most = r.1; same = r.2 }
    where
      at_two : (x1 x1' : Frame) (s1 s1' : List Wait) (w1 : World) (y : Frame) (sy : List Wait) → step R y sy w1 ≡ On x1' s1' w1 → Pair x1 s1 x1' s1' → Fine (On x1 s1 w1) → (j : ℕ) → ((i : ℕ) → j ≡ suc i → BackAt i) → (m : ℕ) × (suc m ≤ suc j) × (run R j (On y sy w1) ≡ run M m (On x1 s1 w1))
      at_two x1 x1' s1 s1' w1 y sy h st1 fine zero later = (0, omega arith, refl)
      at_two x1 x1' s1 s1' w1 y sy h st1 fine (suc j) later = let i = later j refl x1 x1' s1 s1' w1 st1 fine in (i.m, omega (arith, i.most), ap (run R j) h ∙ i.same)

      made : (t t' : Moment) → Foll S R linked.names t t' → Fine t → (m : ℕ) × (suc m ≤ suc k) × (run R k t' ≡ run M m t)
      made (Over w1 e) t' (inl free) fine = absurd (not_free e (fine 0).0 (fine 0).1 free)
      made (Over w1 e) t' (inr h) fine = (0, omega arith, ap (run R k) h)
      made (On x1 s1 w1) t' (x1', s1', inl h, st1) fine = let i = ih x1 x1' s1 s1' w1 st1 fine in (i.m, omega (arith, i.most), ap (run R k) h ∙ i.same)
      made (On x1 s1 w1) t' (x1', s1', inr (y, sy, h, h2), st1) fine = let i = at_two x1 x1' s1 s1' w1 y sy h2 st1 fine k ih2 in (i.0, i.1, ap (run R k) h ∙ i.2)

  back : (k : ℕ) → BackAt k
  back zero = λ x x' s s' w st fine. record { m = 0; most = omega arith; same = refl }
  back (suc zero) = back_step zero (back zero) (λ j q. absurd (omega arith))
  back (suc (suc k)) = back_step (suc k) (back (suc k)) (λ j q. let e : k ≡ j = omega arith in subst BackAt e (back k))

  -- moments that belong together
  forth_from : (t t' : Moment) → E M R S linked t t' → Fine t → (m : ℕ) → (k : ℕ) × (m ≤ k) × (k ≤ 2 * m) × (run R k t' ≡ run M m t)
  forth_from (Over w e) t' (inl free) fine m = absurd (not_free e (fine 0).0 (fine 0).1 free)
  forth_from (Over w e) t' (inr h) fine m = (m, omega arith, omega arith, ap (run R m) h)
  forth_from (On x s w) t' (x', s', h, st) fine m = let r = forth m x x' s s' w st (fine m).0 (fine m).1 in (r.k, r.least, r.most, ap (run R r.k) h ∙ r.same)

  back_from : (t t' : Moment) → E M R S linked t t' → Fine t → (k : ℕ) → (m : ℕ) × (m ≤ k) × (run R k t' ≡ run M m t)
  back_from (Over w e) t' (inl free) fine k = absurd (not_free e (fine 0).0 (fine 0).1 free)
  back_from (Over w e) t' (inr h) fine k = (0, omega arith, ap (run R k) h)
  back_from (On x s w) t' (x', s', h, st) fine k = let r = back k x x' s s' w st fine in (r.m, r.most, ap (run R k) h ∙ r.same)

  -- a run from its beginning
  pub same_runs : SameRuns M R
  same_runs entry args w safe written = begun (find_function entry M) refl (linked.funcs entry)
    where
      from_first : (t t' : Moment) → first (find_function entry M) args w ≡ t → first (find_function entry R) args w ≡ t' → E M R S linked t t' → RunsAlike M R entry args w
      from_first t t' h h' e =
          let fine : Fine t = λ m. ((λ q. safe m (ap (λ z. (run M m z).end) h ∙ q)), (λ q. written m (ap (λ z. (run M m z).end) h ∙ q))) in
          record {
            forth = λ m. let r = forth_from t t' e fine m in (r.0, r.1, r.2, ap (run R r.0) h' ∙ r.3 ∙ sym (ap (run M m) h));
            back = λ k. let r = back_from t t' e fine k in (r.0, r.1, ap (run R k) h' ∙ r.2 ∙ sym (ap (run M r.0) h));
          }

      begun : (o : Option Function) → find_function entry M ≡ o → LinkOf S o (find_function entry R) → RunsAlike M R entry args w
      begun None h v = absurd (safe 0 (ap (λ o. (run M 0 (first o args w)).end) h))
      begun (Some h1) h v =
          from_first (must w (begin h1 args []) Stuck (λ y. On y [] w)) (must w (begin v.0 args []) Stuck (λ y. On y [] w)) (ap (λ o. first o args w) h) (ap (λ o. first o args w) v.1) (begin_once M R S linked none h1 v.0 v.2 args [] [] refl w)
