-- The table before any piece is placed.
use Rattle.std.proofs.Common.{◌≡◌, ◌⊎◌, inl, inr, ℕ, zero, suc, ◌+◌, ◌-◌, ◌<◌, ◌≤◌, List, [], ◌∷◌, ◌++◌, length, get_or, set, drop, replicate, Bool, true, false, nat_eq, eq-eqb, ne_eqb, refl, sym, ap, ◌∙◌, subst, arith}
use Rattle.std.specs.Prelude.{if◌then◌else◌}
use Rattle.std.proofs.lemmas.List.{length-replicate, get_or-replicate, get_or_past, length-set, drop_more}
use Rattle.std.proofs.lemmas.Bool.{cases_eq, cases_lt, eqb-true}
use Rattle.ir_core.specs.Lists.{In}
use Rattle.call_graph.specs.Numbers.{called}
use Rattle.call_graph.specs.Turns.{own, IsPiece, Pieced, members_from, members, Calls, Turns, begin}
use Rattle.call_graph.specs.Waiting.{Table, others, Keeps, Filled}
use Rattle.call_graph.proofs.Settling.{callee_is_piece, set_at, set_off}

-- ---- other pieces

others_kept : (piece : List ℕ) (p : ℕ) (ts cs : List ℕ) (q : ℕ) → In q cs → In q (others piece p ts cs)
others_kept piece p [] cs q i = i
others_kept piece p (t ∷ ts) cs q i = go (nat_eq (get_or piece t 0) p) (λ ds j. others_kept piece p ts ds q j)
  where
    go : (b : Bool) → ((ds : List ℕ) → In q ds → In q (others piece p ts ds)) → In q (others piece p ts (if b then cs else get_or piece t 0 ∷ cs))
    go true ih = ih cs i
    go false ih = ih (get_or piece t 0 ∷ cs) (inr i)

others_in : (piece : List ℕ) (p : ℕ) (ts cs : List ℕ) (y : ℕ) → In y ts → (own piece y ≡ p → ⊥) → In (own piece y) (others piece p ts cs)
others_in piece p [] cs y i e = elim i [ ]
others_in piece p (t ∷ ts) cs y i e = go (nat_eq (get_or piece t 0) p) refl i (λ ds j. others_in piece p ts ds y j e)
  where
    go : (b : Bool) → nat_eq (get_or piece t 0) p ≡ b → In y (t ∷ ts) → ((ds : List ℕ) → In y ts → In (own piece y) (others piece p ts ds)) → In (own piece y) (others piece p ts (if b then cs else get_or piece t 0 ∷ cs))
    go true f (inl s) ih = absurd (e (ap (own piece) s ∙ eqb-true (get_or piece t 0) p f))
    go false f (inl s) ih = others_kept piece p ts (get_or piece t 0 ∷ cs) (own piece y) (inl (ap (own piece) s))
    go true f (inr j) ih = ih cs j
    go false f (inr j) ih = ih (get_or piece t 0 ∷ cs) j

others_from : (piece : List ℕ) (p : ℕ) (ts cs : List ℕ) (q : ℕ) → In q (others piece p ts cs) → In q cs ⊎ ((y : ℕ) × In y ts × (own piece y ≡ q) × (q ≡ p → ⊥))
others_from piece p [] cs q i = inl i
others_from piece p (t ∷ ts) cs q i = go (nat_eq (get_or piece t 0) p) refl i (others_from piece p ts)
  where
    go : (b : Bool) → nat_eq (get_or piece t 0) p ≡ b → In q (others piece p ts (if b then cs else get_or piece t 0 ∷ cs))
        → ((ds : List ℕ) (k : ℕ) → In k (others piece p ts ds) → In k ds ⊎ ((y : ℕ) × In y ts × (own piece y ≡ k) × (k ≡ p → ⊥)))
        → In q cs ⊎ ((y : ℕ) × In y (t ∷ ts) × (own piece y ≡ q) × (q ≡ p → ⊥))
    go true f j ih = elim (ih cs q j) [ inl a ↦ inl a | inr r ↦ inr (r.0, inr r.1, r.2, r.3) ]
    go false f j ih = elim (ih (get_or piece t 0 ∷ cs) q j) [
      | inl a ↦ elim a [
        | inl s ↦ inr (t, inl refl, sym s, λ e. let w : true ≡ false = sym (eq-eqb (get_or piece t 0) p (sym s ∙ e)) ∙ f in cc)
        | inr m ↦ inl m
      ]
      | inr r ↦ inr (r.0, inr r.1, r.2, r.3)
    ]

none_at : (n q : ℕ) → called (replicate n []) q ≡ []
none_at n q = elim (cases_lt q n) [ inl l ↦ get_or-replicate n q [] [] l | inr l ↦ get_or_past (replicate n []) q [] (let e = length-replicate {A = List ℕ} n [] in omega (arith, e, l)) ]

-- ---- before the first function, and one function more

module _ (calls : List (List ℕ)) (piece : List ℕ) (h : Pieced calls piece) (k : ℕ) (members callees : List (List ℕ)) (woken : List ℕ) (f : Filled calls piece (k + 1) members callees woken) (l : k < length piece) where
  abbrev p : ℕ
  p = own piece k

  p_is : IsPiece piece p
  p_is = h.own_is k l

  abbrev more_members : List (List ℕ)
  more_members = set members p (k ∷ called members p)

  abbrev more_callees : List (List ℕ)
  more_callees = set callees p (others piece p (called calls k) (called callees p))

  at_p : called more_callees p ≡ others piece p (called calls k) (called callees p)
  at_p = set_at callees p (others piece p (called calls k) (called callees p)) (let a = p_is.0 in let e = f.callees_long in omega (arith, a, e))

  step_members : (r : ℕ) → r < length piece → called more_members r ≡ members_from r k (drop k piece)
  step_members r a = ap (λ (xs : List ℕ). xs) (go (cases_eq r p)) ∙ sym (ap (λ (xs : List ℕ). members_from r k xs) (drop_more piece k 0 l))
    where
      old : called members r ≡ members_from r (suc k) (drop (k + 1) piece)
      old = f.members r a ∙ ap (λ (z : ℕ). members_from r z (drop (k + 1) piece)) (let w : k + 1 ≡ suc k = omega arith in w)

      go : (r ≡ p) ⊎ (r ≡ p → ⊥) → called more_members r ≡ members_from r k (get_or piece k 0 ∷ drop (k + 1) piece)
      go (inl e) =
          ap (called more_members) e ∙ set_at members p (k ∷ called members p) (let b = p_is.0 in let c = f.members_long in omega (arith, b, c)) ∙ ap (λ (xs : List ℕ). k ∷ xs) (ap (called members) (sym e) ∙ old)
          ∙ ap (λ (b : Bool). if b then k ∷ members_from r (suc k) (drop (k + 1) piece) else members_from r (suc k) (drop (k + 1) piece)) (sym (eq-eqb (get_or piece k 0) r (sym e)))
      go (inr e) =
          set_off members p r (k ∷ called members p) e ∙ old
          ∙ ap (λ (b : Bool). if b then k ∷ members_from r (suc k) (drop (k + 1) piece) else members_from r (suc k) (drop (k + 1) piece)) (sym (ne_eqb (get_or piece k 0) r (λ s. e (sym s))))

  step_sound : (r q : ℕ) → In q (called more_callees r) → Calls calls piece r q
  step_sound r q i = elim (cases_eq r p) [
    | inl e ↦ elim (others_from piece p (called calls k) (called callees p) q (subst (In q) (ap (called more_callees) e ∙ at_p) i)) [
      | inl j ↦ subst (λ (z : ℕ). Calls calls piece z q) (sym e) (f.sound p q j)
      | inr y ↦ record { caller = k; callee = y.0; within = l; of_caller = sym e; call = y.1; of_callee = y.2; other = λ s. y.3 (s ∙ e) }
    ]
    | inr e ↦ f.sound r q (subst (In q) (set_off callees p r (others piece p (called calls k) (called callees p)) e) i)
  ]

  stays_in : (r q : ℕ) → In q (called callees r) → In q (called more_callees r)
  stays_in r q i = elim (cases_eq r p) [
    | inl e ↦ subst (In q) (sym (ap (called more_callees) e ∙ at_p)) (others_kept piece p (called calls k) (called callees p) q (subst (λ (z : ℕ). In q (called callees z)) e i))
    | inr e ↦ subst (In q) (sym (set_off callees p r (others piece p (called calls k) (called callees p)) e)) i
  ]

  step_complete : (r q : ℕ) (c : Calls calls piece r q) → k ≤ c.caller → In q (called more_callees r)
  step_complete r q c m = elim (cases_eq c.caller k) [
    | inl e ↦
        let s : r ≡ p = sym c.of_caller ∙ ap (own piece) e in
        let i = subst (λ (z : ℕ). In c.callee (called calls z)) e c.call in
        subst (In q) (sym (ap (called more_callees) s ∙ at_p))
        (subst (λ (z : ℕ). In z (others piece p (called calls k) (called callees p))) c.of_callee (others_in piece p (called calls k) (called callees p) c.callee i (λ b. c.other (sym c.of_callee ∙ b ∙ sym s))))
    | inr e ↦ stays_in r q (f.complete r q c (omega (arith, m, e)))
  ]

  -- where the function is the least of its piece, that is woken
  pub filled_more : (now : List ℕ) → ((p ≡ k) × (now ≡ k ∷ woken)) ⊎ ((p ≡ k → ⊥) × (now ≡ woken)) → Filled calls piece k more_members more_callees now
  filled_more now d = record {
    members_long = length-set members p (k ∷ called members p) ∙ f.members_long;
    callees_long = length-set callees p (others piece p (called calls k) (called callees p)) ∙ f.callees_long;
    members = step_members;
    sound = step_sound;
    complete = step_complete;
    woken_all = λ r a m. elim d [
      | inl e ↦ subst (In r) (sym e.1) (elim (cases_eq r k) [ inl s ↦ inl s | inr s ↦ inr (f.woken_all r a (omega (arith, m, s))) ])
      | inr e ↦ subst (In r) (sym e.1) (elim (cases_eq r k) [ inl s ↦ absurd (e.0 (ap (own piece) (sym s) ∙ a.1 ∙ s)) | inr s ↦ f.woken_all r a (omega (arith, m, s)) ])
    ];
    woken_from = λ r i. elim d [
      | inl e ↦ elim (subst (In r) e.1 i) [ inl s ↦ subst (IsPiece piece) (e.0 ∙ sym s) p_is | inr j ↦ f.woken_from r j ]
      | inr e ↦ f.woken_from r (subst (In r) e.1 i)
    ];
  }

-- ---- the table then

pub fresh_keeps : (calls : List (List ℕ)) (piece : List ℕ) (members callees : List (List ℕ)) (woken : List ℕ) → Filled calls piece 0 members callees woken
    → Keeps calls piece (record { members = members; callees = callees; waiting = replicate (length piece) []; placed = replicate (length piece) false; ready = []; woken = woken; list = [] })
fresh_keeps calls piece ms callees woken f =
    let n = length piece in
    record {
      members_long = f.members_long;
      callees_long = f.callees_long;
      waiting_long = length-replicate {A = List ℕ} n [];
      placed_long = length-replicate {A = Bool} n false;
      marked = λ q a e. let w : false ≡ true = sym (get_or-replicate n q false false a.0) ∙ e in cc;
      marks = λ q a i. elim i [ ];
      covers = λ r q c. inr (f.complete r q c (omega arith));
      leads = f.sound;
      found = λ r a off. inr (inl (f.woken_all r a (omega arith)));
      fit = λ r i. elim i [ ];
      waits = λ q w i off. elim (subst (In w) (none_at n q) i) [ ];
      woke = λ w i. (f.woken_from w i, λ j. elim j [ ]);
      kept = λ r a off. f.members r a.0;
      turns = begin;
    }

pub fresh_as : (calls : List (List ℕ)) (piece : List ℕ) (members callees : List (List ℕ)) (woken : List ℕ) (rest : ℕ) → Filled calls piece rest members callees woken → rest ≤ 0
    → (waiting : List (List ℕ)) (placed : List Bool) (ready list : List ℕ) → waiting ≡ replicate (length piece) [] → placed ≡ replicate (length piece) false → ready ≡ [] → list ≡ []
    → Keeps calls piece (record { members = members; callees = callees; waiting = waiting; placed = placed; ready = ready; woken = woken; list = list })
fresh_as calls piece ms cs woken rest f l waiting placed ready list a b d e =
    let k = fresh_keeps calls piece ms cs woken (subst (λ (z : ℕ). Filled calls piece z ms cs woken) (let w : rest ≡ 0 = omega (arith, l) in w) f) in
    subst (λ (z : List ℕ). Keeps calls piece (record { members = ms; callees = cs; waiting = waiting; placed = placed; ready = ready; woken = woken; list = z })) (sym e)
    (subst (λ (z : List ℕ). Keeps calls piece (record { members = ms; callees = cs; waiting = waiting; placed = placed; ready = z; woken = woken; list = [] })) (sym d)
    (subst (λ (z : List Bool). Keeps calls piece (record { members = ms; callees = cs; waiting = waiting; placed = z; ready = []; woken = woken; list = [] })) (sym b)
    (subst (λ (z : List (List ℕ)). Keeps calls piece (record { members = ms; callees = cs; waiting = z; placed = replicate (length piece) false; ready = []; woken = woken; list = [] })) (sym a) k)))
