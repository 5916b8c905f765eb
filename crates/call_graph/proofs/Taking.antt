-- The steps of the order as the code takes them.
use Rattle.std.proofs.Common.{◌≡◌, ◌⊎◌, inl, inr, ℕ, zero, suc, ◌+◌, ◌-◌, ◌<◌, ◌≤◌, List, [], ◌∷◌, ◌++◌, length, get_or, set, Some, None, Bool, true, false, ◌||◌, nat_eq, eq-eqb, refl, sym, ap, ap₂, ◌∙◌, subst, arith}
use Rattle.std.specs.Prelude.{slice_get, if◌then◌else◌}
use Rattle.std.proofs.lemmas.List.{get_or_read}
use Rattle.std.proofs.lemmas.Option.{get_or_from_slice_get}
use Rattle.ir_core.specs.Lists.{In}
use Rattle.ir_core.proofs.Members.{in_left}
use Rattle.call_graph.specs.Calls.{has}
use Rattle.call_graph.specs.Numbers.{called}
use Rattle.call_graph.specs.Stacks.{tail_of}
use Rattle.call_graph.specs.Turns.{own, IsPiece, Pieced}
use Rattle.call_graph.specs.Waiting.{Table, others, first_left, Decided, Settles, after_place, Keeps, Filled, unplaced}
use Rattle.call_graph.proofs.Numbers.{has_in}
use Rattle.call_graph.proofs.Searching.{total_less}
use Rattle.call_graph.proofs.Settling.{callee_is_piece, settle_keeps, place_keeps, first_in}
use Rattle.call_graph.proofs.Filling.{filled_more}

pub top_is : (xs : List ℕ) (x : ℕ) → Some x ≡ slice_get xs 0 → xs ≡ x ∷ tail_of xs
top_is [] x e = absurd cc
top_is (y ∷ ys) x e = let w : y ≡ x = cc in ap (λ (z : ℕ). z ∷ ys) w

pub none_is : (xs : List ℕ) → slice_get xs 0 ≡ None → xs ≡ []
none_is [] e = refl
none_is (y ∷ ys) e = absurd cc

in_has : (k : ℕ) (ks : List ℕ) → In k ks → has k ks ≡ true
in_has k [] i = elim i [ ]
in_has k (x ∷ xs) i = go (nat_eq k x) refl i (in_has k xs)
  where
    go : (b : Bool) → nat_eq k x ≡ b → In k (x ∷ xs) → (In k xs → has k xs ≡ true) → (b || has k xs) ≡ true
    go true e i ih = refl
    go false e (inl s) ih = let w : true ≡ false = sym (eq-eqb k x s) ∙ e in cc
    go false e (inr j) ih = ih j

-- ---- one function more is in the table

pub fill_on : (calls : List (List ℕ)) (piece : List ℕ) → Pieced calls piece → (r : ℕ) (ms cs : List (List ℕ)) (woken now : List ℕ) → Filled calls piece r ms cs woken → 0 < r → r ≤ length piece
    → (m old : List ℕ) → old ≡ get_or ms (own piece (r - 1)) old → m ≡ (r - 1) ∷ old
    → (c was ts : List ℕ) → was ≡ get_or cs (own piece (r - 1)) was → slice_get calls (r - 1) ≡ Some ts → c ≡ others piece (own piece (r - 1)) ts was
    → ((own piece (r - 1) ≡ r - 1) × (now ≡ (r - 1) ∷ woken)) ⊎ ((own piece (r - 1) ≡ r - 1 → ⊥) × (now ≡ woken))
    → Filled calls piece (r - 1) (set ms (own piece (r - 1)) m) (set cs (own piece (r - 1)) c) now
fill_on calls piece h r ms cs woken now f pos within m old a b c was ts d e g woke =
    let k = r - 1 in
    let p = own piece k in
    let same : r ≡ k + 1 = omega (arith, pos) in
    let f' : Filled calls piece (k + 1) ms cs woken = subst (λ (z : ℕ). Filled calls piece z ms cs woken) same f in
    let l : k < length piece = omega (arith, pos, within) in
    let there = (h.own_is k l).0 in
    let ml = f.members_long in
    let cl = f.callees_long in
    let m_is : k ∷ called ms p ≡ m = sym (b ∙ ap (λ (z : List ℕ). k ∷ z) (get_or_read ms p old (omega (arith, there, ml)) a [])) in
    let t_is : called calls k ≡ ts = get_or_from_slice_get calls k ts [] e in
    let c_is : others piece p (called calls k) (called cs p) ≡ c = sym (g ∙ ap₂ (λ (x y : List ℕ). others piece p x y) (sym t_is) (get_or_read cs p was (omega (arith, there, cl)) d [])) in
    subst (λ (z : List ℕ). Filled calls piece k (set ms p z) (set cs p c) now) m_is
    (subst (λ (z : List ℕ). Filled calls piece k (set ms p (k ∷ called ms p)) (set cs p z) now) c_is (filled_more calls piece h k ms cs woken f' l now woke))

-- ---- a piece settles

abbrev pub with_woken : Table → List ℕ → Table
with_woken t woken = record { members = t.members; callees = t.callees; waiting = t.waiting; placed = t.placed; ready = t.ready; woken = woken; list = t.list }

decided_as : (p : ℕ) (ls : List ℕ) (t : Table) (more : List ℕ) (u : Table) → Decided p ls (with_woken t more) u → Decided p ls t u
decided_as p [] t more u d = d
decided_as p (q ∷ qs) t more u d = d

module _ (calls : List (List ℕ)) (piece : List ℕ) (h : Pieced calls piece) (t : Table) (k : Keeps calls piece t) (p : ℕ) (top : Some p ≡ slice_get t.woken 0) where
  woken_is_piece : IsPiece piece p
  woken_is_piece = (k.woke p (subst (In p) (sym (top_is t.woken p top)) (inl refl))).0

  pub settle_there : p < length t.callees
  settle_there = let l = woken_is_piece.0 in let e = k.callees_long in omega (arith, l, e)

  pub settle_within : (q : ℕ) → In q (called t.callees p) → q < length t.waiting
  settle_within q i = let l = (callee_is_piece calls piece h p q (k.leads p q i)).0 in let e = k.waiting_long in omega (arith, l, e)

  pub settle_on : (more : List ℕ) → more ≡ tail_of t.woken → (u : Table) → Settles p (with_woken t more) u → Keeps calls piece u × (u.list ≡ t.list)
  settle_on more rest u s =
      let w : t.woken ≡ p ∷ more = top_is t.woken p top ∙ ap (λ (z : List ℕ). p ∷ z) (sym rest) in
      let e : record { members = t.members; callees = u.callees; waiting = u.waiting; placed = t.placed; ready = u.ready; woken = more; list = t.list } ≡ u =
      ap₂ (λ (m : List (List ℕ)) (b : List Bool). record { members = m; callees = u.callees; waiting = u.waiting; placed = b; ready = u.ready; woken = more; list = t.list }) (sym s.members) (sym s.placed)
      ∙ ap₂ (λ (m l : List ℕ). record { members = u.members; callees = u.callees; waiting = u.waiting; placed = u.placed; ready = u.ready; woken = m; list = l }) (sym s.woken) (sym s.list) in
      (subst (Keeps calls piece) e (settle_keeps calls piece h t u p more k w s.callees (decided_as p (first_left t.placed (called t.callees p)) t more u s.decided)), s.list)

-- ---- a piece is placed

most : (c : Bool) → (if c then 0 else 1) ≤ 1
most true = omega arith
most false = omega arith

abbrev weigh : List ℕ → ℕ → ℕ
weigh list r = if has r list then 0 else 1

abbrev pub with_ready : Table → List ℕ → List ℕ → Table
with_ready t ready woken = record { members = t.members; callees = t.callees; waiting = t.waiting; placed = t.placed; ready = ready; woken = woken; list = t.list }

module _ (calls : List (List ℕ)) (piece : List ℕ) (h : Pieced calls piece) (t : Table) (k : Keeps calls piece t) (p : ℕ) (ready : List ℕ) (next : t.ready ≡ p ∷ ready) where
  ready_fits : IsPiece piece p × (In p t.list → ⊥)
  ready_fits = let f = k.fit p (subst (In p) (sym next) (inl refl)) in (f.0, f.1)

  pub place_members : p < length t.members
  place_members = let l = ready_fits.0.0 in let e = k.members_long in omega (arith, l, e)

  pub place_waiting : p < length t.waiting
  place_waiting = let l = ready_fits.0.0 in let e = k.waiting_long in omega (arith, l, e)

  pub place_placed : p < length t.placed
  place_placed = let l = ready_fits.0.0 in let e = k.placed_long in omega (arith, l, e)

  pub place_on : t.woken ≡ [] → ((j : ℕ) → In j ready → p < j) → (more : List ℕ) (u : Table) → u ≡ after_place (with_ready t ready more) p ready → Keeps calls piece u × (unplaced piece u.list < unplaced piece t.list)
  place_on none least more u e =
      let a = after_place t p ready in (
        subst (Keeps calls piece) (sym e) (place_keeps calls piece h t p ready k none next least),
        subst (λ (z : Table). unplaced piece z.list < unplaced piece t.list) (sym e) (total_less (weigh a.list) (weigh t.list) (length piece) p ready_fits.0.0 (λ r l. lighter r) falls),
      )
    where
      lighter : (r : ℕ) → weigh (after_place t p ready).list r ≤ weigh t.list r
      lighter r = go (has r t.list) refl
        where
          go : (b : Bool) → has r t.list ≡ b → (if has r (t.list ++ called t.members p) then 0 else 1) ≤ (if b then 0 else 1)
          go true q = let s = in_has r (t.list ++ called t.members p) (in_left r t.list (called t.members p) (has_in r t.list q)) in subst (λ (c : Bool). (if c then 0 else 1) ≤ 0) (sym s) (omega arith)
          go false q = most (has r (t.list ++ called t.members p))

      falls : suc (weigh (after_place t p ready).list p) ≤ weigh t.list p
      falls =
          let s = in_has p (t.list ++ called t.members p) (first_in calls piece h t p ready k none next least) in
          subst (λ (c : Bool). suc (if c then 0 else 1) ≤ weigh t.list p) (sym s) (go (has p t.list) refl)
        where
          go : (b : Bool) → has p t.list ≡ b → 1 ≤ (if b then 0 else 1)
          go true q = absurd (ready_fits.1 (has_in p t.list q))
          go false q = omega arith
