-- A piece that settles, and a piece that is placed, keep what is known of pieces that wait.
use Rattle.std.proofs.Common.{◌≡◌, ◌⊎◌, inl, inr, ℕ, zero, suc, ◌+◌, ◌<◌, ◌≤◌, List, [], ◌∷◌, ◌++◌, length, get_or, set, Some, Bool, true, false, nat_eq, eq-eqb, refl, sym, ap, ◌∙◌, subst, arith}
use Rattle.std.specs.Prelude.{slice_get, if◌then◌else◌}
use Rattle.std.proofs.lemmas.List.{get_or-set_same, get_or-set_other, length-set, get_or_past, get_or_read}
use Rattle.std.proofs.lemmas.Bool.{cases_eq, cases_lt, eqb-true}
use Rattle.ir_core.specs.Lists.{In, Each, Below}
use Rattle.ir_core.proofs.Members.{in_left, in_right, in_cases, in_or_not, below_in}
use Rattle.call_graph.specs.Calls.{InRange}
use Rattle.call_graph.specs.Numbers.{called}
use Rattle.call_graph.specs.Turns.{own, IsPiece, Pieced, members_from, members, Calls, Waits, Next, Turns, turn, Ordered}
use Rattle.call_graph.specs.Waiting.{Table, first_left, Added, Decided, Settles, after_place, Keeps}
use Rattle.call_graph.proofs.Stepping.{in_slice}

-- ---- pieces

pub called_below : (n : ℕ) (cs : List (List ℕ)) (x y : ℕ) → Each (Below n) cs → In y (called cs x) → y < n
called_below n [] x y e i = elim i [ ]
called_below n (c ∷ cs) zero y e i = below_in n c y e.0 i
called_below n (c ∷ cs) (suc x) y e i = called_below n cs x y e.1 i

pub callee_is_piece : (calls : List (List ℕ)) (piece : List ℕ) → Pieced calls piece → (p q : ℕ) → Calls calls piece p q → IsPiece piece q
callee_is_piece calls piece h p q c =
    let l = called_below (length calls) calls c.caller c.callee h.in_range c.call in
    subst (IsPiece piece) c.of_callee (h.own_is c.callee (let e = h.long in omega (arith, l, e)))

member_from : (p k : ℕ) (xs : List ℕ) (j : ℕ) → In j (members_from p k xs) → (i : ℕ) × (i < length xs) × (j ≡ k + i) × (get_or xs i 0 ≡ p)
member_from p k [] j i = elim i [ ]
member_from p k (x ∷ xs) j i = go (nat_eq x p) refl i (member_from p (suc k) xs j)
  where
    more : ((i : ℕ) × (i < length xs) × (j ≡ suc k + i) × (get_or xs i 0 ≡ p)) → (i : ℕ) × (i < suc (length xs)) × (j ≡ k + i) × (get_or (x ∷ xs) i 0 ≡ p)
    more r = let a = r.1 in let b = r.2 in (suc r.0, omega (arith, a), omega (arith, b), r.3)

    go : (c : Bool) → nat_eq x p ≡ c → In j (if c then k ∷ members_from p (suc k) xs else members_from p (suc k) xs) → (In j (members_from p (suc k) xs) → (i : ℕ) × (i < length xs) × (j ≡ suc k + i) × (get_or xs i 0 ≡ p))
        → (i : ℕ) × (i < suc (length xs)) × (j ≡ k + i) × (get_or (x ∷ xs) i 0 ≡ p)
    go true e (inl q) ih = (0, omega arith, omega (arith, q), eqb-true x p e)
    go true e (inr m) ih = more (ih m)
    go false e m ih = more (ih m)

from_member : (p k : ℕ) (xs : List ℕ) (i : ℕ) → i < length xs → get_or xs i 0 ≡ p → In (k + i) (members_from p k xs)
from_member p k [] i l e = absurd (omega (arith, l))
from_member p k (x ∷ xs) zero l e = go (nat_eq x p) (eq-eqb x p e)
  where
    go : (c : Bool) → c ≡ true → In (k + 0) (if c then k ∷ members_from p (suc k) xs else members_from p (suc k) xs)
    go true q = inl (omega arith)
    go false q = absurd cc
from_member p k (x ∷ xs) (suc i) l e = go (nat_eq x p) (subst (λ (z : ℕ). In z (members_from p (suc k) xs)) (let w : suc k + i ≡ k + suc i = omega arith in w) (from_member p (suc k) xs i (omega (arith, l)) e))
  where
    go : (c : Bool) → In (k + suc i) (members_from p (suc k) xs) → In (k + suc i) (if c then k ∷ members_from p (suc k) xs else members_from p (suc k) xs)
    go true m = inr m
    go false m = m

pub in_members : (piece : List ℕ) (p j : ℕ) → In j (members piece p) → (j < length piece) × (own piece j ≡ p)
in_members piece p j i =
    let r = member_from p 0 piece j i in
    let e : r.0 ≡ j = let a = r.2 in omega (arith, a) in
    (let l = r.1 in omega (arith, l, e), subst (λ (z : ℕ). own piece z ≡ p) e r.3)

pub of_members : (piece : List ℕ) (p j : ℕ) → j < length piece → own piece j ≡ p → In j (members piece p)
of_members piece p j l e = subst (λ (z : ℕ). In z (members piece p)) (let w : 0 + j ≡ j = omega arith in w) (from_member p 0 piece j l e)

-- ---- callees that are left

left_from : (placed : List Bool) (cs : List ℕ) (q : ℕ) → In q (first_left placed cs) → In q cs
left_from placed [] q i = i
left_from placed (c ∷ cs) q i = go (get_or placed c false) i (left_from placed cs q)
  where
    go : (b : Bool) → In q (if b then first_left placed cs else c ∷ cs) → (In q (first_left placed cs) → In q cs) → In q (c ∷ cs)
    go true i ih = inr (ih i)
    go false i ih = i

left_or : (placed : List Bool) (cs : List ℕ) (q : ℕ) → In q cs → (get_or placed q false ≡ true) ⊎ In q (first_left placed cs)
left_or placed [] q i = inr i
left_or placed (c ∷ cs) q i = go (get_or placed c false) refl i (left_or placed cs q)
  where
    go : (b : Bool) → get_or placed c false ≡ b → In q (c ∷ cs) → (In q cs → (get_or placed q false ≡ true) ⊎ In q (first_left placed cs)) → (get_or placed q false ≡ true) ⊎ In q (if b then first_left placed cs else c ∷ cs)
    go true e (inl s) ih = inl (ap (λ (z : ℕ). get_or placed z false) s ∙ e)
    go true e (inr m) ih = ih m
    go false e m ih = inr m

first_unplaced : (placed : List Bool) (cs : List ℕ) (q : ℕ) (qs : List ℕ) → first_left placed cs ≡ q ∷ qs → get_or placed q false ≡ false
first_unplaced placed [] q qs e = absurd cc
first_unplaced placed (c ∷ cs) q qs e = go (get_or placed c false) refl e (first_unplaced placed cs q qs)
  where
    go : (b : Bool) → get_or placed c false ≡ b → (if b then first_left placed cs else c ∷ cs) ≡ q ∷ qs → (first_left placed cs ≡ q ∷ qs → get_or placed q false ≡ false) → get_or placed q false ≡ false
    go true f e ih = ih e
    go false f e ih = let w : c ≡ q = cc in ap (λ (z : ℕ). get_or placed z false) (sym w) ∙ f

-- ---- lists in lists

pub set_at : (cs : List (List ℕ)) (p : ℕ) (c : List ℕ) → p < length cs → called (set cs p c) p ≡ c
set_at cs p c l = get_or-set_same cs p c [] l

pub set_off : (cs : List (List ℕ)) (p r : ℕ) (c : List ℕ) → (r ≡ p → ⊥) → called (set cs p c) r ≡ called cs r
set_off cs p r c e = get_or-set_other cs p r c [] e

pub top_in : (cs : List (List ℕ)) (w : ℕ) (placed : List Bool) (x y r : List ℕ) (q : ℕ) → w < length cs → x ≡ get_or cs w x → y ≡ first_left placed x → r ≡ get_or (set cs w y) w r
    → Some q ≡ slice_get r 0 → In q (called cs w)
top_in cs w placed x y r q l a b d e =
    let i : In q r = in_slice r 0 q (sym e) in
    let s : r ≡ called (set cs w y) w = get_or_read (set cs w y) w r (let f = length-set cs w y in omega (arith, f, l)) d [] in
    let j : In q (first_left placed x) = subst (In q) (s ∙ set_at cs w y l ∙ b) i in
    subst (In q) (get_or_read cs w x l a []) (left_from placed x q j)

-- ---- a piece settles

module _ (calls : List (List ℕ)) (piece : List ℕ) (h : Pieced calls piece) (t u : Table) (p : ℕ) (rest : List ℕ) (k : Keeps calls piece t) (woken : t.woken ≡ p ∷ rest) where
  at_first : IsPiece piece p × (In p t.list → ⊥)
  at_first = k.woke p (subst (In p) (sym woken) (inl refl))

  abbrev left : List ℕ
  left = first_left t.placed (called t.callees p)

  abbrev now : Table
  now = record { members = t.members; callees = u.callees; waiting = u.waiting; placed = t.placed; ready = u.ready; woken = rest; list = t.list }

  module _ (callees : u.callees ≡ set t.callees p left) (decided : Decided p left t u) where
    here : called u.callees p ≡ left
    here = ap (λ (c : List (List ℕ)). called c p) callees ∙ set_at t.callees p left (let l = at_first.0.0 in let e = k.callees_long in omega (arith, l, e))

    there : (r : ℕ) → (r ≡ p → ⊥) → called u.callees r ≡ called t.callees r
    there r e = ap (λ (c : List (List ℕ)). called c r) callees ∙ set_off t.callees p r left e

    was : (r q : ℕ) → In q (called u.callees r) → In q (called t.callees r)
    was r q i = elim (cases_eq r p) [
      | inl e ↦ subst (λ (z : ℕ). In q (called t.callees z)) (sym e) (left_from t.placed (called t.callees p) q (subst (In q) here (subst (λ (z : ℕ). In q (called u.callees z)) e i)))
      | inr e ↦ subst (In q) (there r e) i
    ]

    is : (r q : ℕ) → In q (called t.callees r) → (In q t.list → ⊥) → In q (called u.callees r)
    is r q i off = elim (cases_eq r p) [
      | inl e ↦ subst (λ (z : ℕ). In q (called u.callees z)) (sym e) (subst (In q) (sym here) (elim (left_or t.placed (called t.callees p) q (subst (λ (z : ℕ). In q (called t.callees z)) e i)) [
        | inl s ↦ absurd (off (k.marked q (callee_is_piece calls piece h r q (k.leads r q i)) s))
        | inr j ↦ j
      ]))
      | inr e ↦ subst (In q) (sym (there r e)) i
    ]

    -- a piece that waits still waits, and p waits or is ready
    record Now : Type 0 where
      ready_kept : (r : ℕ) → In r t.ready → In r u.ready
      ready_from : (r : ℕ) → In r u.ready → In r t.ready ⊎ ((r ≡ p) × (left ≡ []))
      waiting_kept : (q r : ℕ) → In r (called t.waiting q) → In r (called u.waiting q)
      waiting_from : (q r : ℕ) → In r (called u.waiting q) → In r (called t.waiting q) ⊎ ((r ≡ p) × In q left)
      first : In p u.ready ⊎ ((q : ℕ) × In p (called u.waiting q) × In q left × (In q t.list → ⊥))
      waiting_long : length u.waiting ≡ length t.waiting

    now_at : (ls : List ℕ) → left ≡ ls → Decided p ls t u → Now
    now_at [] e d = record {
      ready_kept = d.1.kept;
      ready_from = λ r i. elim (d.1.from r i) [ inl s ↦ inr (s, e) | inr j ↦ inl j ];
      waiting_kept = λ q r i. subst (λ (c : List (List ℕ)). In r (called c q)) (sym d.0) i;
      waiting_from = λ q r i. inl (subst (λ (c : List (List ℕ)). In r (called c q)) d.0 i);
      first = inl d.1.there;
      waiting_long = ap (λ (c : List (List ℕ)). length c) d.0;
    }
    now_at (c ∷ cs) e d = record {
      ready_kept = λ r i. subst (In r) (sym d.1) i;
      ready_from = λ r i. inl (subst (In r) d.1 i);
      waiting_kept = λ q r i. elim (cases_eq q c) [
        | inl s ↦ subst (In r) (sym (ap (called u.waiting) s ∙ mine)) (inr (subst (λ (z : ℕ). In r (called t.waiting z)) s i))
        | inr s ↦ subst (In r) (sym (others q s)) i
      ];
      waiting_from = λ q r i. elim (cases_eq q c) [
        | inl s ↦ elim (subst (In r) (ap (called u.waiting) s ∙ mine) i) [
          | inl f ↦ inr (f, subst (In q) (sym e) (inl s))
          | inr j ↦ inl (subst (λ (z : ℕ). In r (called t.waiting z)) (sym s) j)
        ]
        | inr s ↦ inl (subst (In r) (others q s) i)
      ];
      first = inr (c, subst (In p) (sym mine) (inl refl), subst (In c) (sym e) (inl refl), unplaced);
      waiting_long = ap (λ (c : List (List ℕ)). length c) d.0 ∙ length-set t.waiting c (p ∷ called t.waiting c);
    }
      where
        calls_c : Calls calls piece p c
        calls_c = k.leads p c (left_from t.placed (called t.callees p) c (subst (In c) (sym e) (inl refl)))

        mine : called u.waiting c ≡ p ∷ called t.waiting c
        mine = ap (λ (w : List (List ℕ)). called w c) d.0 ∙ set_at t.waiting c (p ∷ called t.waiting c) (let l = (callee_is_piece calls piece h p c calls_c).0 in let f = k.waiting_long in omega (arith, l, f))

        others : (q : ℕ) → (q ≡ c → ⊥) → called u.waiting q ≡ called t.waiting q
        others q s = ap (λ (w : List (List ℕ)). called w q) d.0 ∙ set_off t.waiting c q (p ∷ called t.waiting c) s

        unplaced : In c t.list → ⊥
        unplaced i =
            let a = k.marks c (callee_is_piece calls piece h p c calls_c) i in
            let b = first_unplaced t.placed (called t.callees p) c cs e in
            let w : true ≡ false = sym a ∙ b in
            cc

    pub settle_keeps : Keeps calls piece now
    settle_keeps =
        let n = now_at left refl decided in
        record {
          members_long = k.members_long;
          callees_long = ap (λ (c : List (List ℕ)). length c) callees ∙ length-set t.callees p left ∙ k.callees_long;
          waiting_long = n.waiting_long ∙ k.waiting_long;
          placed_long = k.placed_long;
          marked = k.marked;
          marks = k.marks;
          covers = λ r q c. elim (in_or_not q t.list) [ inl i ↦ inl i | inr off ↦ elim (k.covers r q c) [ inl i ↦ inl i | inr i ↦ inr (is r q i off) ] ];
          leads = λ r q i. k.leads r q (was r q i);
          found = λ r a off. elim (k.found r a off) [
            | inl i ↦ inl (n.ready_kept r i)
            | inr w ↦ elim w [
              | inl i ↦ elim (subst (In r) woken i) [
                | inl e ↦ elim n.first [
                  | inl j ↦ inl (subst (λ (z : ℕ). In z u.ready) (sym e) j)
                  | inr j ↦ inr (inr (j.0, subst (λ (z : ℕ). In z (called u.waiting j.0)) (sym e) j.1, subst (λ (z : ℕ). In j.0 (called u.callees z)) (sym e) (subst (In j.0) (sym here) j.2), j.3))
                ]
                | inr j ↦ inr (inl j)
              ]
              | inr j ↦ inr (inr (j.0, n.waiting_kept j.0 r j.1, is r j.0 j.2 j.3, j.3))
            ]
          ];
          fit = λ r i. elim (n.ready_from r i) [
            | inl j ↦ k.fit r j
            | inr e ↦ (
              subst (IsPiece piece) (sym e.0) at_first.0,
              subst (λ (z : ℕ). In z t.list → ⊥) (sym e.0) at_first.1,
              λ q c. elim (in_or_not q t.list) [
                | inl j ↦ j
                | inr off ↦
                    let d = subst (λ (z : ℕ). Calls calls piece z q) e.0 c in
                    elim (k.covers p q d) [ inl j ↦ j | inr j ↦ elim (subst (In q) (here ∙ e.1) (is p q j off)) [ ] ]
              ],
            )
          ];
          waits = λ q w i off. elim (n.waiting_from q w i) [
            | inl j ↦ let a = k.waits q w j off in (a.0, a.1, is w q a.2 off)
            | inr e ↦ (subst (IsPiece piece) (sym e.0) at_first.0, subst (λ (z : ℕ). In z t.list → ⊥) (sym e.0) at_first.1, subst (λ (z : ℕ). In q (called u.callees z)) (sym e.0) (subst (In q) (sym here) e.1))
          ];
          woke = λ w i. k.woke w (subst (In w) (sym woken) (inr i));
          kept = k.kept;
          turns = k.turns;
        }

-- ---- a piece is placed

module _ (calls : List (List ℕ)) (piece : List ℕ) (h : Pieced calls piece) (t : Table) (p : ℕ) (ready : List ℕ) (k : Keeps calls piece t) (none : t.woken ≡ []) (next : t.ready ≡ p ∷ ready) (least : (j : ℕ) → In j ready → p < j) where
  abbrev after : Table
  after = after_place t p ready

  fits : IsPiece piece p × (In p t.list → ⊥) × ((q : ℕ) → Calls calls piece p q → In q t.list)
  fits = k.fit p (subst (In p) (sym next) (inl refl))

  its_members : called t.members p ≡ members piece p
  its_members = k.kept p fits.0 fits.1

  stays : (q : ℕ) → In q t.list → In q after.list
  stays q i = in_left q t.list (called t.members p) i

  now_in : (q : ℕ) → IsPiece piece q → In q after.list → In q t.list ⊎ (q ≡ p)
  now_in q a i = elim (in_cases q t.list (called t.members p) i) [
    | inl j ↦ inl j
    | inr j ↦ let r = in_members piece p q (subst (In q) its_members j) in let e = a.1 in inr (sym e ∙ r.1)
  ]

  pub first_in : In p after.list
  first_in = in_right p t.list (called t.members p) (subst (In p) (sym its_members) (of_members piece p p fits.0.0 fits.0.1))

  still_out : (q : ℕ) → IsPiece piece q → (In q t.list → ⊥) → (q ≡ p → ⊥) → In q after.list → ⊥
  still_out q a off e i = elim (now_in q a i) [ inl j ↦ off j | inr s ↦ e s ]

  was_out : (q : ℕ) → (In q after.list → ⊥) → (In q t.list → ⊥) × (q ≡ p → ⊥)
  was_out q off = ((λ i. off (stays q i)), λ e. off (subst (λ (z : ℕ). In z after.list) (sym e) first_in))

  place_turn : Next calls piece t.list p
  place_turn = record {
    is_piece = fits.0;
    unplaced = fits.1;
    ready = fits.2;
    first = λ r l a off. elim (k.found r a off) [
      | inl i ↦ elim (subst (In r) next i) [ inl e ↦ absurd (omega (arith, l, e)) | inr j ↦ let m = least r j in absurd (omega (arith, l, m)) ]
      | inr w ↦ elim w [ inl i ↦ elim (subst (In r) none i) [ ] | inr j ↦ (j.0, k.leads r j.0 j.2, j.3) ]
    ];
  }

  pub place_keeps : Keeps calls piece after
  place_keeps =
      record {
        members_long = length-set t.members p [] ∙ k.members_long;
        callees_long = k.callees_long;
        waiting_long = length-set t.waiting p [] ∙ k.waiting_long;
        placed_long = length-set t.placed p true ∙ k.placed_long;
        marked = λ q a e. elim (cases_eq q p) [
          | inl s ↦ subst (λ (z : ℕ). In z after.list) (sym s) first_in
          | inr s ↦ stays q (k.marked q a (sym (get_or-set_other t.placed p q true false s) ∙ e))
        ];
        marks = λ q a i. elim (cases_eq q p) [
          | inl s ↦ ap (λ (z : ℕ). get_or after.placed z false) s ∙ get_or-set_same t.placed p true false (let l = fits.0.0 in let e = k.placed_long in omega (arith, l, e))
          | inr s ↦ get_or-set_other t.placed p q true false s ∙ k.marks q a (elim (now_in q a i) [ inl j ↦ j | inr e ↦ absurd (s e) ])
        ];
        covers = λ r q c. elim (k.covers r q c) [ inl i ↦ inl (stays q i) | inr i ↦ inr i ];
        leads = k.leads;
        found = λ r a off.
            let o = was_out r off in
            elim (k.found r a o.0) [
              | inl i ↦ elim (subst (In r) next i) [ inl e ↦ absurd (o.1 e) | inr j ↦ inl j ]
              | inr w ↦ elim w [
                | inl i ↦ elim (subst (In r) none i) [ ]
                | inr j ↦ elim (cases_eq j.0 p) [
                  | inl s ↦ inr (inl (subst (λ (z : ℕ). In r (called t.waiting z)) s j.1))
                  | inr s ↦ inr (inr (j.0, subst (In r) (sym (set_off t.waiting p j.0 [] s)) j.1, j.2, still_out j.0 (callee_is_piece calls piece h r j.0 (k.leads r j.0 j.2)) j.3 s))
                ]
              ]
            ];
        fit = λ r i.
            let f = k.fit r (subst (In r) (sym next) (inr i)) in
            let l = least r i in
            (f.0, still_out r f.0 f.1 (λ e. omega (arith, l, e)), λ q c. stays q (f.2 q c));
        waits = λ q w i off.
            let o = was_out q off in
            let f = k.waits q w (subst (In w) (set_off t.waiting p q [] o.1) i) o.0 in
            (f.0, still_out w f.0 f.1 (λ e. o.0 (fits.2 q (subst (λ (z : ℕ). Calls calls piece z q) e (k.leads w q f.2)))), f.2);
        woke = λ w i.
            let f = k.waits p w i fits.1 in
            (f.0, still_out w f.0 f.1 (λ e. (k.leads w p f.2).other (sym e)));
        kept = λ r a off. let o = was_out r off in set_off t.members p r [] o.1 ∙ k.kept r a o.0;
        turns = subst (λ (m : List ℕ). Turns calls piece (t.list ++ m)) (sym its_members) (turn k.turns place_turn);
      }

pub ended : (calls : List (List ℕ)) (piece : List ℕ) (t : Table) → Keeps calls piece t → t.woken ≡ [] → t.ready ≡ [] → Ordered calls piece t.list
ended calls piece t k none last = record {
  turns = k.turns;
  ended = λ r a off. elim (k.found r a off) [
    | inl i ↦ elim (subst (In r) last i) [ ]
    | inr w ↦ elim w [ inl i ↦ elim (subst (In r) none i) [ ] | inr j ↦ (j.0, k.leads r j.0 j.2, j.3) ]
  ];
}
