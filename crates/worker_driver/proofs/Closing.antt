-- The seats that `drive` gives back are all seats of the board, each through.
use Rattle.std.proofs.Common.{◌≡◌, ℕ, suc, ◌+◌, ◌<◌, List, [], ◌∷◌, ◌++◌, All, length, refl, sym, ap, ◌∙◌, subst, arith, length-append}
use mathlib.Core.Logic.{dite}
use native.Mathlib.Decide.{ℕ_discrete, dec_le}
use lib.ListN.{get_or}
use Rattle.std.proofs.Math.Seq.{get_or-append_seam}
use Rattle.std.specs.List.{slice_get}
use Rattle.std.specs.Prelude.{◌==◌, if◌then◌else◌}
use Rattle.publish_table.specs.declared.board.Board.{Board}
use Rattle.publish_table.specs.declared.board.Seat.{Seat}
use Rattle.ir_core.specs.Module.{Module}
use Rattle.inline_finish.specs.declared.bodies.Policy.{Policy}
use Rattle.publish_table.specs.declared.view.View.{View}
use Rattle.publish_table.specs.declared.view.Cell.{Cell}
use Rattle.publish_table.specs.declared.view.Cell.TheVariants.{Body, Refused}
use Rattle.publish_table.specs.Plays.{total, count, fresh}
use Rattle.publish_table.specs.Seats.{view_of, IsMade, AreAllSeats, ClosedAs, IsClosed}
use Rattle.worker_driver.specs.Turns.{IsBoardFor, IsIdle, IsThroughAs, IsAnswer, AllAnswered, AllBodies}
use Rattle.std.proofs.lemmas.List.Elements.{All-cons}
use Rattle.publish_table.proofs.Moves.{below_one}
use Rattle.publish_table.proofs.Bounds.{no_count}
use Rattle.publish_table.specs.Rule.{below}
use Rattle.std.proofs.lemmas.Bool.Decides.{nat_tests}
use Rattle.std.proofs.Common.{eqb, cond, nat_lt, zero, suc, ◌≤◌, Some}
use Rattle.publish_table.specs.Seats.{refusals_in}

module _ {A : Type 0} where
  -- where each f that is above 0 has a g that is, so have the totals
  pub total_some : (f g : A → ℕ) (xs : List A) → ((k : ℕ) (d : A) → k < length xs → 0 < f (get_or xs k d) → 0 < g (get_or xs k d)) → 0 < total f xs → 0 < total g xs
  total_some f g [] each h = h
  total_some f g (x ∷ xs) each h = dite (ℕ_discrete (f x) 0)
      (λ z. let t = total_some f g xs (λ k d l. each (suc k) d (omega arith)) (omega arith) in omega arith)
      (λ nz. let o = each 0 x (omega arith) (omega arith) in omega arith)

  pub total_first : (f : A → ℕ) (xs : List A) → 0 < length xs → ((k : ℕ) (d : A) → k < length xs → 0 < f (get_or xs k d)) → 0 < total f xs
  total_first f [] some each = some
  total_first f (x ∷ xs) some each = let o = each 0 x (omega arith) in omega arith

  pub total_plus : (f g : A → ℕ) (xs : List A) → total (λ x. f x + g x) xs ≡ total f xs + total g xs
  total_plus f g [] = refl
  total_plus f g (x ∷ xs) = let h = total_plus f g xs in omega arith

each_none : {A : Type 0} (f : A → ℕ) (xs : List A) → total f xs ≡ 0 → (k : ℕ) (d : A) → k < length xs → f (get_or xs k d) ≡ 0
each_none f [] e k d l = absurd (omega arith)
each_none f (x ∷ xs) e zero d l = omega arith
each_none f (x ∷ xs) e (suc k) d l = each_none f xs (omega arith) k d (omega arith)

total_same : {A : Type 0} (f g : A → ℕ) (xs : List A) → ((k : ℕ) (d : A) → k < length xs → f (get_or xs k d) ≡ g (get_or xs k d)) → total f xs ≡ total g xs
total_same f g [] each = refl
total_same f g (x ∷ xs) each = let h = total_same f g xs (λ k d l. each (suc k) d (omega arith)) in let o = each 0 x (omega arith) in omega arith

total_zero : {A : Type 0} (f : A → ℕ) (xs : List A) → ((k : ℕ) (d : A) → k < length xs → f (get_or xs k d) ≡ 0) → total f xs ≡ 0
total_zero f [] each = refl
total_zero f (x ∷ xs) each = let h = total_zero f xs (λ k d l. each (suc k) d (omega arith)) in let o = each 0 x (omega arith) in omega arith

past : (t n : ℕ) → n ≤ t → ◌≡◌ {A = ℕ} (cond (nat_lt t n) 1 0) 0
past t n l = grind (arith, nat_tests)

all_snoc : (P : Seat → Type 0) (xs : List Seat) (s : Seat) → All P xs → P s → All P (xs ++ s ∷ [])
all_snoc P [] s h p = All-cons P s [] p (λ k d l. absurd (omega arith))
all_snoc P (x ∷ xs) s h p = All-cons P x (xs ++ s ∷ []) (h 0 x (omega arith)) (all_snoc P xs s (λ k d l. h (suc k) d (omega arith)) p)

module _ (functions : Module) (policy : Policy) (workers : ℕ) (b : Board) (all : List Seat) (m : IsMade functions policy workers b all) where
  pub board_for : IsBoardFor functions policy b
  board_for = (m.functions_are, m.policy_is, m.count)

  idle_of : (made : ℕ) (s : Seat) → s.place.table_id ≡ b.table.shared.table_id → view_of s ≡ fresh b.table.shared.key made → IsIdle b s
  idle_of made s t v = (
    (t, ap (λ (x : View). x.seats) v, ap (λ (x : View). x.stage) v, ap (λ (x : View). x.job) v),
    v ∙ ap (fresh b.table.shared.key) (sym (ap (λ (x : View). x.made) v)),
  )

  pub many : length all ≡ workers
  many = let e = ap length m.made.2 in let f = length-append m.made.0 (m.made.1 ∷ []) in let g = m.made.4 in omega arith

  pub all_idle : All (IsIdle b) all
  all_idle = subst (All (IsIdle b)) (sym m.made.2) (all_snoc (IsIdle b) m.made.0 m.made.1
      (λ k d l. let h = m.made.3 k d l in idle_of 0 (get_or m.made.0 k d) h.0 h.1) (idle_of workers m.made.1 m.made.5 m.made.7))

  pub all_seats : (out : List Seat) → 0 < workers → length out ≡ length all → ((i : ℕ) (d : Seat) → i < length all → IsThroughAs functions b (get_or all i d) (get_or out i d)) → AreAllSeats b out
  all_seats out some len each = let n = many in record {
    some = omega arith;
    joinable = λ k d l. let e = (each k d (omega arith)).0.0 in (e.0, e.1, e.2);
    last = λ front s is.
        let i : ℕ = length front in let f = length-append front (s ∷ []) in let o = ap length is in
        let here : get_or out i s ≡ s = ap (λ (l : List Seat). get_or l i s) is ∙ get_or-append_seam front s [] s in
        let g = length-append m.made.0 (m.made.1 ∷ []) in let a = ap length m.made.2 in
        let place : length m.made.0 ≡ i = omega arith in
        let was : get_or all i s ≡ m.made.1 = ap (λ (l : List Seat). get_or l i s) m.made.2 ∙ (ap (λ (z : ℕ). get_or (m.made.0 ++ m.made.1 ∷ []) z s) (sym place) ∙ get_or-append_seam m.made.0 m.made.1 [] s) in
        let e = (each i s (omega arith)).1 in (
          ap (λ (x : Seat). x.place.id) (sym here) ∙ (e.0 ∙ (ap (λ (x : Seat). x.place.id) was ∙ m.made.6)),
          ap (λ (x : Seat). (view_of x).made) (sym here) ∙ (e.1 ∙ (ap (λ (x : Seat). (view_of x).made) was ∙ (ap (λ (x : View). x.made) m.made.7 ∙ omega arith))),
        );
    filled = λ t c. let both = total_plus (λ (s : Seat). count t (view_of s).bodies) (λ (s : Seat). count t (view_of s).refusals) out in
        let h = total_some (λ (s : Seat). count t (view_of s).drawn) (λ (s : Seat). count t (view_of s).bodies + count t (view_of s).refusals) out
        (λ k d l p. let e = (each k d (omega arith)).0.1 (λ x. if x == t then 1 else 0) in omega arith) c in omega arith;
    ended = total_first (λ (s : Seat). (view_of s).ends) out (omega arith) (λ k d l. (each k d (omega arith)).0.2);
  }

  answer_of : (out : List Seat) (t : ℕ) (c : Cell) → ClosedAs b.table.shared.key out t c → IsAnswer policy functions t c
  answer_of out t (Body a) h = subst (λ (fs : Module). IsAnswer policy fs t (Body a)) m.functions_are
      (subst (λ (p : Policy). IsAnswer p b.table.shared.key.functions.value t (Body a)) m.policy_is h.0)
  answer_of out t Refused h = tt

  pub answered : (out : List Seat) (cells : List Cell) → IsClosed b.table.shared.key out cells → AllAnswered policy functions cells
  answered out cells h = let n = ap length m.functions_are in record {
    long = h.long ∙ n;
    each = λ t l. let e = h.each t (omega arith) in (e.1.0, e.1.1, answer_of out t e.1.0 e.1.2);
  }

  -- where no cell is refused, all bodies together cost what all tickets do
  no_refusals : (out : List Seat) (cells : List Cell) → IsClosed b.table.shared.key out cells → AllBodies cells → (t : ℕ) → t < length functions → refusals_in t out ≡ 0
  no_refusals out cells h none t l = let n = ap length m.functions_are in let e = h.each t (omega arith) in by_cell e.1.0 e.1.1 e.1.2
    where
      by_cell : (c : Cell) → slice_get cells t ≡ Some c → ClosedAs b.table.shared.key out t c → refusals_in t out ≡ 0
      by_cell (Body a) at x = x.1
      by_cell Refused at x = absurd (none t at)

  module _ (out : List Seat) (cells : List Cell) (len : length out ≡ length all) (each : (i : ℕ) (d : Seat) → i < length all → IsThroughAs functions b (get_or all i d) (get_or out i d))
      (h : IsClosed b.table.shared.key out cells) (none : AllBodies cells) where
    parts : (w : ℕ → ℕ) → total (λ s. total w (view_of s).bodies) out + total (λ s. total w (view_of s).refusals) out ≡ below w (length functions)
    parts w = let n = ap length m.functions_are in
        sym (total_plus (λ (s : Seat). total w (view_of s).bodies) (λ (s : Seat). total w (view_of s).refusals) out)
        ∙ (total_same (λ (s : Seat). total w (view_of s).bodies + total w (view_of s).refusals) (λ (s : Seat). total w (view_of s).drawn) out (λ k d l. (each k d (omega arith)).0.1 w)
        ∙ (h.all_drawn w ∙ ap (below w) n))

    refusals_none : (t : ℕ) → refusals_in t out ≡ 0
    refusals_none t = elim (dec_le (length functions) t) [
      | yes p ↦ let e = parts (λ x. cond (eqb x t) 1 0) in let z = below_one t (length functions) in let o = past t (length functions) p in omega arith
      | no q ↦ no_refusals out cells h none t (omega (arith, q))
    ]

    pub all_cost : (w : ℕ → ℕ) → total (λ s. total w (view_of s).bodies) out ≡ below w (length functions)
    all_cost w = let p = parts w in
        let z = total_zero (λ (s : Seat). total w (view_of s).refusals) out (λ k d l. no_count w (view_of (get_or out k d)).refusals
        (λ t. each_none (λ (s : Seat). count t (view_of s).refusals) out (refusals_none t) k d l)) in omega arith
