-- How the view of a seat goes through a turn.
use Rattle.std.proofs.Common.{Bool, true, false, cond, eq-eqb, ◌≡◌, ◌≢◌, ℕ, ◌+◌, ◌*◌, ◌<◌, ◌≤◌, List, [], ◌∷◌, ◌++◌, length, length-append, refl, sym, ap, ◌∙◌, subst, ⊎_elim, arith}
use Rattle.std.specs.Prelude.{◌==◌, if◌then◌else◌}
use Rattle.std.proofs.lemmas.List.{append_assoc, append-nil}
use Rattle.ir_core.specs.Module.{Module}
use Rattle.inline_finish.specs.declared.bodies.Policy.{Policy}
use Rattle.publish_table.specs.declared.view.View.{View}
use Rattle.publish_table.specs.Plays.{total, count, with_end, once_ended, with_drawn, with_read, with_body, with_refusal, IsNew}
use Rattle.publish_table.specs.declared.board.Board.{Board}
use Rattle.publish_table.specs.declared.board.Seat.{Seat}
use Rattle.publish_table.specs.Seats.{IsOpen, view_of}
use Rattle.publish_table.proofs.Lists.{total_append, count_here, count_else, count_snoc, counted}
use Rattle.worker_driver.specs.Reading.{OnlyRead, ReadsStay, CalleesRead}
use Rattle.std.proofs.lemmas.Bool.{cases_eq}
use Rattle.worker_driver.proofs.Sums.{few, counted_in, total_ones}
use Rattle.worker_driver.specs.Turns.{IsDone, IsDoneBut, IsIdle, IsNoted, IsOnce, IsOnceBelow, OnlyDrew, RoseBy, cost_of, inlined_at}

count_grows : (k t : ℕ) (l : List ℕ) → count k l ≤ count k (l ++ t ∷ [])
count_grows k t l = let h = count_snoc k t l in omega arith

-- a read adds one note
pub only_read_by : (v w : View) (t : ℕ) → w ≡ with_read v t → OnlyRead v w
only_read_by v w t is = (
  ap (λ (z : View). z.drawn) is,
  ap (λ (z : View). z.bodies) is,
  ap (λ (z : View). z.refusals) is,
  ap (λ (z : View). z.ends) is,
  ap (λ (z : View). z.made) is,
  λ k c. subst (λ (z : View). 0 < count k z.read) (sym is) (let g = count_grows k t v.read in omega arith),
)

pub only_read_both : (u v w : View) → OnlyRead u v → OnlyRead v w → OnlyRead u w
only_read_both u v w a b = (b.0 ∙ a.0, b.1 ∙ a.1, b.2 ∙ a.2, b.3 ∙ a.3, b.4 ∙ a.4, λ k c. b.5 k (a.5 k c))

pub read_noted : (v w : View) (t : ℕ) → w ≡ with_read v t → 0 < count t w.read
read_noted v w t is = subst (λ (z : View). 0 < count t z.read) (sym is) (let h = count_here t v.read in omega arith)

-- what was noted of a ticket's callees stays so
callees_stay : (m : Module) (v w : View) (t : ℕ) → ReadsStay v w → CalleesRead m v t → CalleesRead m w t
callees_stay m v w t stay h = λ f y e i a n. let r = h f y e i a n in (r.0, r.1, stay r.0 r.2)

-- ---- a draw

only_drew_none : (n : ℕ) (v : View) → OnlyDrew n v v
only_drew_none n v = (refl, refl, refl, refl, λ h. h)

pub only_drew_both : (n : ℕ) (u v w : View) → OnlyDrew n u v → OnlyDrew n v w → OnlyDrew n u w
only_drew_both n u v w a b = (b.0 ∙ a.0, b.1 ∙ a.1, b.2 ∙ a.2, b.3 ∙ a.3, λ h. b.4 (a.4 h))

once_more : (n : ℕ) (v w : View) (t : ℕ) → IsNew v t → t < n → w.drawn ≡ v.drawn ++ t ∷ [] → IsOnceBelow n v → IsOnceBelow n w
once_more n v w t new low is once = (
  λ k. ⊎_elim (λ (e : k ≡ t). subst (λ (z : ℕ). count z w.drawn ≤ 1) (sym e) (let h = ap (count t) is ∙ count_here t v.drawn in let n = new.0 in omega arith))
      (λ (other : k ≢ t). let h = ap (count k) is ∙ count_else k t v.drawn other in let o = once.0 k in omega arith) (cases_eq k t),
  λ k c. ⊎_elim (λ (e : k ≡ t). subst (λ (z : ℕ). z < n) (sym e) low) (λ h. once.1 k h) (counted k t v.drawn (subst (λ (l : List ℕ). 0 < count k l) is c)),
)

-- a draw that got a ticket
pub only_drew_by : (n : ℕ) (v w : View) (t : ℕ) → w ≡ with_drawn v t → IsNew v t → t < n → OnlyDrew n v w
only_drew_by n v w t is new low = (
  ap (λ (z : View). z.bodies) is,
  ap (λ (z : View). z.refusals) is,
  ap (λ (z : View). z.read) is,
  ap (λ (z : View). z.made) is,
  once_more n v w t new low (ap (λ (z : View). z.drawn) is),
)

-- and one that got none
by_end : (P : View → Type 0) (b : Bool) (v : View) → P v → P (with_end v) → P (if b then with_end v else v)
by_end P true v a h = h
by_end P false v a h = a

pub only_drew_end : (n : ℕ) (v w : View) → w ≡ once_ended v → OnlyDrew n v w
only_drew_end n v w is = subst (OnlyDrew n v) (sym is) (by_end (OnlyDrew n v) (v.ends == 0) v (only_drew_none n v) (refl, refl, refl, refl, λ h. h))

-- ---- the tickets that are left to fill

pub none_left : (n : ℕ) (v : View) (a : List ℕ) → a ≡ [] → IsDone v → IsDoneBut n v a
none_left n v a is done = subst (IsDoneBut n v) (sym is) (record {
  filled = λ h. let d = done h in omega arith;
  last = (v.drawn, sym (append-nil v.drawn));
  once = λ t c. absurd (omega arith);
})

-- a seat that has done nothing
pub idle_done : (m : Module) (b : Board) (s : Seat) (a : List ℕ) → a ≡ [] → IsIdle b s → IsDoneBut b.count (view_of s) a × IsNoted m (view_of s)
idle_done m b s a is idle = (
  none_left b.count (view_of s) a is (subst IsDone (sym idle.1) (λ h. refl)),
  subst (IsNoted m) (sym idle.1) (λ t c. absurd (omega arith)),
)

pub left_end : (n : ℕ) (v w : View) (a : List ℕ) → w ≡ once_ended v → IsDoneBut n v a → IsDoneBut n w a
left_end n v w a is but = subst (λ (z : View). IsDoneBut n z a) (sym is) (by_end (λ (z : View). IsDoneBut n z a) (v.ends == 0) v but
    (record { filled = but.filled; last = but.last; once = but.once }))

pub left_more : (n : ℕ) (v w : View) (t : ℕ) (a b : List ℕ) → w ≡ with_drawn v t → IsNew v t → t < n → b ≡ a ++ t ∷ [] → IsDoneBut n v a → IsDoneBut n w b
left_more n v w t a b is new low to but = let all : w.drawn ≡ v.drawn ++ t ∷ [] = ap (λ (z : View). z.drawn) is in record {
  filled = λ h.
      let d = but.filled h in let e = ap (λ (z : View). total h z.bodies) is in let f = ap (λ (z : View). total h z.refusals) is in
      let c = ap (total h) to ∙ total_append h a (t ∷ []) in let g = ap (total h) all ∙ total_append h v.drawn (t ∷ []) in omega arith;
  last = (but.last.0, all ∙ (ap (λ (l : List ℕ). l ++ t ∷ []) but.last.1 ∙ (append_assoc but.last.0 a (t ∷ []) ∙ ap (λ (l : List ℕ). but.last.0 ++ l) (sym to))));
  once = λ k c. ⊎_elim
      (λ (e : k ≡ t). subst (λ (z : ℕ). (z < n) × (count z w.drawn ≡ 1)) (sym e) (low, (let h = ap (count t) all ∙ count_here t v.drawn in let n = new.0 in omega arith)))
      (λ (other : k ≢ t).
      let h = ap (count k) all ∙ count_else k t v.drawn other in let g = ap (count k) to ∙ count_else k t a other in
      let o = but.once k (omega arith) in (o.0, h ∙ o.1))
      (cases_eq k t);
}

count_head : (t : ℕ) (l : List ℕ) → count t (t ∷ l) ≡ 1 + count t l
count_head t l = let a = ap {B = ℕ} (λ b. cond b 1 0) (eq-eqb t t refl) in omega arith

pub ticket_low : (n : ℕ) (w : View) (t : ℕ) (rest : List ℕ) → IsDoneBut n w (t ∷ rest) → t < n
ticket_low n w t rest left = let h = count_head t rest in (left.once t (omega arith)).0

-- ---- a turn: the next ticket is taken, bodies are read, and the ticket is filled

module _ (m : Module) (n : ℕ) (v w x : View) (t : ℕ) (rest : List ℕ) (drew : OnlyDrew n v w) (left : IsDoneBut n w (t ∷ rest)) (read : OnlyRead w x) where
  bodies_same : x.bodies ≡ v.bodies
  bodies_same = read.1 ∙ drew.0

  refusals_same : x.refusals ≡ v.refusals
  refusals_same = read.2 ∙ drew.1

  taken : (t < n) × (count t w.drawn ≡ 1)
  taken = let h = count_head t rest in left.once t (omega arith)

  pub open_now : (t < n) × IsOpen x t
  open_now =
      let a = ap (count t) read.0 in let b = ap (count t) read.1 in let c = ap (count t) read.2 in
      let h = count_head t rest in let f = left.filled (λ x. if x == t then 1 else 0) in let o = taken.1 in
      (taken.0, (omega arith, omega arith, omega arith))

  by_rest : (k : ℕ) → 0 < count k rest → (k < n) × (count k x.drawn ≡ 1)
  by_rest k c = let o = left.once k (omega arith) in (o.0, ap (count k) read.0 ∙ o.1)

  last_rest : (front : List ℕ) × (x.drawn ≡ front ++ rest)
  last_rest = (left.last.0 ++ t ∷ [], read.0 ∙ (left.last.1 ∙ sym (append_assoc left.last.0 (t ∷ []) rest)))

  pub done_by_body : (y : View) → y ≡ with_body x t → IsDoneBut n y rest
  done_by_body y is = subst (λ (z : View). IsDoneBut n z rest) (sym is) (record {
    filled = λ h.
        let a = ap (total h) read.0 in let b = ap (total h) read.1 in let c = ap (total h) read.2 in
        let d = total_append h x.bodies (t ∷ []) in let f = left.filled h in omega arith;
    last = last_rest;
    once = by_rest;
  })

  pub done_by_refusal : (y : View) → y ≡ with_refusal x t → IsDoneBut n y rest
  done_by_refusal y is = subst (λ (z : View). IsDoneBut n z rest) (sym is) (record {
    filled = λ h.
        let a = ap (total h) read.0 in let b = ap (total h) read.1 in let c = ap (total h) read.2 in
        let d = total_append h x.refusals (t ∷ []) in let f = left.filled h in omega arith;
    last = last_rest;
    once = by_rest;
  })

  reads_stay : ReadsStay v x
  reads_stay k c = read.5 k (subst (λ (l : List ℕ). 0 < count k l) (sym drew.2) c)

  pub noted_by_body : IsNoted m v → CalleesRead m x t → (y : View) → y ≡ with_body x t → IsNoted m y
  noted_by_body noted callees y is = subst (IsNoted m) (sym is) (λ k c. ⊎_elim
      (λ (e : k ≡ t). subst (CalleesRead m x) (sym e) callees)
      (λ h. callees_stay m v x k reads_stay (noted k (subst (λ (l : List ℕ). 0 < count k l) bodies_same h)))
      (counted k t x.bodies c))

  pub noted_by_refusal : IsNoted m v → (y : View) → y ≡ with_refusal x t → IsNoted m y
  noted_by_refusal noted y is = subst (IsNoted m) (sym is)
      (λ k c. callees_stay m v x k reads_stay (noted k (subst (λ (l : List ℕ). 0 < count k l) bodies_same c)))

  pub callees_by_body : CalleesRead m x t → (y : View) → y ≡ with_body x t → CalleesRead m y t
  callees_by_body callees y is = subst (λ (z : View). CalleesRead m z t) (sym is) callees

  pub bodies_by_body : (y : View) → y ≡ with_body x t → (y.bodies ≡ v.bodies ++ t ∷ []) × (y.refusals ≡ v.refusals)
  bodies_by_body y is = (ap (λ (z : View). z.bodies) is ∙ ap (λ (l : List ℕ). l ++ t ∷ []) bodies_same, ap (λ (z : View). z.refusals) is ∙ refusals_same)

  pub bodies_by_refusal : (y : View) → y ≡ with_refusal x t → (y.bodies ≡ v.bodies) × (y.refusals ≡ v.refusals ++ t ∷ [])
  bodies_by_refusal y is = (ap (λ (z : View). z.bodies) is ∙ bodies_same, ap (λ (z : View). z.refusals) is ∙ ap (λ (l : List ℕ). l ++ t ∷ []) refusals_same)

  once_after : (y : View) → y.drawn ≡ x.drawn → n ≡ length m → IsOnce m v → IsOnce m y
  once_after y is e once = subst (λ (l : List ℕ). ((k : ℕ) → count k l ≤ 1) × ((k : ℕ) → 0 < count k l → k < length m)) (sym (is ∙ read.0))
      (subst (λ (z : ℕ). IsOnceBelow z w) e (drew.4 (subst (λ (z : ℕ). IsOnceBelow z v) (sym e) once)))

  pub once_by_body : (y : View) → y ≡ with_body x t → n ≡ length m → IsOnce m v → IsOnce m y
  once_by_body y is = once_after y (ap (λ (z : View). z.drawn) is)

  pub once_by_refusal : (y : View) → y ≡ with_refusal x t → n ≡ length m → IsOnce m v → IsOnce m y
  once_by_refusal y is = once_after y (ap (λ (z : View). z.drawn) is)

-- ---- what a seat filled

-- it filled no more tickets than there are functions
pub few_bodies : (m : Module) (n : ℕ) (v : View) (a : List ℕ) → IsDoneBut n v a → IsOnce m v → length v.bodies ≤ length m
few_bodies m n v a but once =
    let d = but.filled (λ x. 1) in let b = total_ones v.bodies in let c = total_ones v.drawn in
    let f = few (length m) v.drawn (λ k i. once.1 k (counted_in k v.drawn i)) once.0 in omega arith

-- one ticket more in the count
pub cost_of_more : (p : Policy) (m : Module) (old new a t n : ℕ) (b b' : List ℕ) → cost_of p m b ≡ a + old → b' ≡ b ++ t ∷ []
    → n ≡ inlined_at p m t → new ≡ old + (1 + n) → cost_of p m b' ≡ a + new
cost_of_more p m old new a t n b b' h is inl e =
    let c = ap (cost_of p m) is in let f = total_append (λ (x : ℕ). 1 + inlined_at p m x) b (t ∷ []) in omega arith

-- and it is not too many steps for a number of 128 bits
pub count_bound : (m : Module) (k : ℕ) (v w : View) (a : List ℕ) (c n t : ℕ) → IsDoneBut k w a → IsOnce m w → w.bodies ≡ v.bodies ++ t ∷ [] → c ≤ 18446744073709551616 * length v.bodies
    → n < 18446744073709551616 → (c + (1 + n) ≤ 18446744073709551616 * length w.bodies) × (length w.bodies ≤ length m)
count_bound m k v w a c n t but once is low fits =
    let long : length w.bodies ≡ length v.bodies + 1 = ap length is ∙ length-append v.bodies (t ∷ []) in (omega arith, few_bodies m k w a but once)

-- the worker's counter rises with the count
pub rose_more : (v w : View) (n old new c i now : ℕ) → RoseBy v n old new → w.refusals ≡ v.refusals → c ≡ n + (1 + i) → now ≡ new + (1 + i) → RoseBy w c old now
rose_more v w n old new c i now h same e f = let low = h.0 in (omega (arith, low, e, f), λ none. let all = h.1 (sym same ∙ none) in omega (arith, all, e, f))

-- where a ticket was refused it may rise by more
pub rose_refused : (v w : View) (t n old new now : ℕ) → RoseBy v n old new → w.refusals ≡ v.refusals ++ t ∷ [] → new ≤ now → RoseBy w n old now
rose_refused v w t n old new now h more l = let low = h.0 in (
  omega (arith, low, l),
  λ none. let e = ap length (sym more ∙ none) in let f = length-append v.refusals (t ∷ []) in absurd (omega (arith, e, f)),
)

pub rose_same : (v w : View) (n old new now : ℕ) → RoseBy v n old new → w.refusals ≡ v.refusals → now ≡ new → RoseBy w n old now
rose_same v w n old new now h same e = let low = h.0 in (omega (arith, low, e), λ none. e ∙ h.1 (sym same ∙ none))
