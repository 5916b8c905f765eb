-- The order in use: as long as a function is not placed, some piece that is not placed has all callees in other pieces
-- placed, and placing it keeps callees before callers.
use Rattle.std.proofs.Common.{◌≡◌, ◌⊎◌, inl, inr, ℕ, zero, suc, ◌<◌, ◌≤◌, List, [], ◌∷◌, ◌++◌, length, Option, Some, None, Bool, true, false, ◌&&◌, ◌||◌, refl, sym, ap, ap₂, ◌∙◌, subst, arith}
use Rattle.std.specs.Prelude.{not, if◌then◌else◌}
use Rattle.std.proofs.lemmas.Bool.{and_parts, or_cases, or_left, or_right}
use Rattle.ir_core.specs.declared.names.FuncName.{FuncName}
use Rattle.ir_core.specs.Module.{Module}
use Rattle.ir_core.specs.Lookup.{same_name, find_function}
use Rattle.ir_core.specs.Lists.{In}
use Rattle.ir_core.specs.WellFormed.{DifferentNames}
use Rattle.ir_core.proofs.Equal.{name_equal, equal_name}
use Rattle.ir_core.proofs.Members.{in_left, in_right, in_cases}
use Rattle.call_graph.specs.Reach.{calls_of, reaches, one_piece, apart}
use Rattle.call_graph.specs.Order.{names_of, CalleesBefore, BottomUp, stands, every_name, those, piece, callees_placed, ready, next_of, placed_in}
use Rattle.call_graph.specs.OrderLaws.{OrderIsBottomUp}
use Rattle.call_graph.proofs.Walks.{AllDifferent}
use Rattle.call_graph.proofs.Standing.{stands_of, in_of}
use Rattle.call_graph.proofs.Ranks.{reaches_on, call_reaches, under, under_of, rank, rank_falls, count, count_less, names_length, both_of, of_both}

-- ---- tests of lists of names

true_for_each : (test : FuncName → Bool) (ns : List FuncName) → every_name test ns ≡ true → (n : FuncName) → In n ns → test n ≡ true
true_for_each test [] h n i = elim i [ ]
true_for_each test (k ∷ ns) h n (inl q) = ap test q ∙ (and_parts (test k) (every_name test ns) h).0
true_for_each test (k ∷ ns) h n (inr i) = true_for_each test ns (and_parts (test k) (every_name test ns) h).1 n i

false_for_one : (test : FuncName → Bool) (ns : List FuncName) → every_name test ns ≡ false → (n : FuncName) × In n ns × (test n ≡ false)
false_for_one test [] h = cc
false_for_one test (k ∷ ns) h = go (test k) refl (false_for_one test ns) h
  where
    go : (c : Bool) → test k ≡ c → (every_name test ns ≡ false → (n : FuncName) × In n ns × (test n ≡ false)) → (c && every_name test ns) ≡ false → (n : FuncName) × In n (k ∷ ns) × (test n ≡ false)
    go true q ih h = let r = ih h in (r.0, inr r.1, r.2)
    go false q ih h = (k, inl refl, q)

pub in_those : (test : FuncName → Bool) (ns : List FuncName) (n : FuncName) → In n (those test ns) → In n ns × (test n ≡ true)
in_those test [] n i = elim i [ ]
in_those test (k ∷ ns) n i = go (test k) refl (in_those test ns n) i
  where
    go : (c : Bool) → test k ≡ c → (In n (those test ns) → In n ns × (test n ≡ true)) → In n (if c then k ∷ those test ns else those test ns) → In n (k ∷ ns) × (test n ≡ true)
    go true q ih (inl e) = (inl e, ap test e ∙ q)
    go true q ih (inr i) = let r = ih i in (inr r.0, r.1)
    go false q ih i = let r = ih i in (inr r.0, r.1)

pub those_in : (test : FuncName → Bool) (ns : List FuncName) (n : FuncName) → In n ns → test n ≡ true → In n (those test ns)
those_in test [] n i h = elim i [ ]
those_in test (k ∷ ns) n i h = go (test k) refl (λ j. those_in test ns n j h) i
  where
    go : (c : Bool) → test k ≡ c → (In n ns → In n (those test ns)) → In n (k ∷ ns) → In n (if c then k ∷ those test ns else those test ns)
    go true q ih (inl e) = inl e
    go true q ih (inr i) = inr (ih i)
    go false q ih (inl e) = let z : false ≡ true = sym q ∙ ap test (sym e) ∙ h in cc
    go false q ih (inr i) = ih i

those_different : (test : FuncName → Bool) (ns : List FuncName) → AllDifferent ns → AllDifferent (those test ns)
those_different test [] d = tt
those_different test (k ∷ ns) d = go (test k) (those_different test ns d.1)
  where
    go : (c : Bool) → AllDifferent (those test ns) → AllDifferent (if c then k ∷ those test ns else those test ns)
    go true r = ((λ i. d.0 (in_those test ns k i).0), r)
    go false r = r

not_found : (m : Module) (x : FuncName) → find_function x m ≡ None → In x (names_of m) → ⊥
not_found [] x h i = elim i [ ]
not_found (k ∷ m) x h i = go (same_name k.name x) refl h i (not_found m x)
  where
    go : (c : Bool) → same_name k.name x ≡ c → (if c then Some k else find_function x m) ≡ None → In x (names_of (k ∷ m)) → (find_function x m ≡ None → In x (names_of m) → ⊥) → ⊥
    go true q h i ih = cc
    go false q h (inl e) ih = let z : false ≡ true = sym q ∙ equal_name k.name x (sym e) in cc
    go false q h (inr i) ih = ih h i

names_different : (m : Module) → DifferentNames m → AllDifferent (names_of m)
names_different [] d = tt
names_different (k ∷ m) d = ((λ i. not_found m k.name d.0 i), names_different m d.1)

none_counted : (test : FuncName → Bool) (ns : List FuncName) → count test ns ≤ 0 → (n : FuncName) → In n ns → test n ≡ false
none_counted test [] h n i = elim i [ ]
none_counted test (k ∷ ns) h n i = go (test k) refl h (none_counted test ns) i
  where
    go : (c : Bool) → test k ≡ c → (if c then suc (count test ns) else count test ns) ≤ 0 → (count test ns ≤ 0 → (n : FuncName) → In n ns → test n ≡ false) → In n (k ∷ ns) → test n ≡ false
    go true q h ih i = absurd (omega (arith, h))
    go false q h ih (inl e) = ap test e ∙ q
    go false q h ih (inr i) = ih h n i

pub at_most : (test : FuncName → Bool) (ns : List FuncName) → count test ns ≤ length ns
at_most test [] = omega arith
at_most test (n ∷ ns) = go (test n) (at_most test ns)
  where
    go : (c : Bool) → count test ns ≤ length ns → (if c then suc (count test ns) else count test ns) ≤ suc (length ns)
    go true l = omega (arith, l)
    go false l = omega (arith, l)

-- ---- pieces

module _ (m : Module) where
  pub mutual_of : (x y : FuncName) → one_piece m x y ≡ true → (x ≡ y) ⊎ ((reaches m x y ≡ true) × (reaches m y x ≡ true))
  mutual_of x y h = elim (or_cases (same_name x y) (reaches m x y && reaches m y x) h) [ inl q ↦ inl (name_equal x y q) | inr q ↦ inr (and_parts (reaches m x y) (reaches m y x) q) ]

  pub of_mutual : (x y : FuncName) → (x ≡ y) ⊎ ((reaches m x y ≡ true) × (reaches m y x ≡ true)) → one_piece m x y ≡ true
  of_mutual x y (inl q) = or_left (same_name x y) (reaches m x y && reaches m y x) (equal_name x y q)
  of_mutual x y (inr q) = or_right (same_name x y) (reaches m x y && reaches m y x) (ap₂ (λ a b. a && b) q.0 q.1)

  pub piece_back : (x y : FuncName) → one_piece m x y ≡ true → one_piece m y x ≡ true
  piece_back x y h = of_mutual y x (elim (mutual_of x y h) [ inl q ↦ inl (sym q) | inr q ↦ inr (q.1, q.0) ])

  pub piece_on : (x y z : FuncName) → one_piece m x y ≡ true → one_piece m y z ≡ true → one_piece m x z ≡ true
  piece_on x y z h k = by (mutual_of x y h) (mutual_of y z k)
    where
      by : (x ≡ y) ⊎ ((reaches m x y ≡ true) × (reaches m y x ≡ true)) → (y ≡ z) ⊎ ((reaches m y z ≡ true) × (reaches m z y ≡ true)) → one_piece m x z ≡ true
      by (inl p) q = ap (λ w. one_piece m w z) p ∙ k
      by (inr p) (inl q) = ap (one_piece m x) (sym q) ∙ h
      by (inr p) (inr q) = of_mutual x z (inr (reaches_on m x y z p.0 q.0, reaches_on m z y x q.1 p.1))

  -- what another function of x's piece calls in another piece is under x
  under_piece : (x z y : FuncName) → one_piece m x z ≡ true → In y (calls_of m z) → one_piece m z y ≡ false → under m x y ≡ true
  under_piece x z y h i q = by (mutual_of x z h) (under_of m z y (call_reaches m z y i) (ap not q))
    where
      by : (x ≡ z) ⊎ ((reaches m x z ≡ true) × (reaches m z x ≡ true)) → under m z y ≡ true → under m x y ≡ true
      by (inl e) u = ap (λ w. under m w y) e ∙ u
      by (inr e) u =
          let p = both_of (reaches m z y) (reaches m y z) u in
          of_both (reaches m x y) (reaches m y x) (reaches_on m x z y e.0 p.0) (λ r. let w : false ≡ true = sym p.1 ∙ reaches_on m y x z r e.0 in cc)

  -- ---- one more piece

  -- further names behind a list
  before_append : (xs ys before : List FuncName) → CalleesBefore m before xs → ((after : List FuncName) → ((y : FuncName) → In y after → In y before ⊎ In y xs) → ((y : FuncName) → In y before ⊎ In y xs → In y after) → CalleesBefore m after ys) → CalleesBefore m before (xs ++ ys)
  before_append [] ys before b more = more before (λ y i. inl i) (λ y i. elim i [ inl j ↦ j | inr j ↦ elim j [ ] ])
  before_append (x ∷ xs) ys before (off, callees, b) more = (off, callees, before_append xs ys (x ∷ before) b (λ after to back. more after (λ y i. elim (to y i) [ inl j ↦ elim j [ inl e ↦ inr (inl e) | inr k ↦ inl k ] | inr j ↦ inr (inr j) ]) (λ y i. back y (elim i [ inl j ↦ inl (inr j) | inr j ↦ elim j [ inl e ↦ inl (inl e) | inr k ↦ inr k ] ]))))

  -- names whose callees in other pieces are all there
  before_all : (xs before : List FuncName) → AllDifferent xs → ((x : FuncName) → In x xs → In x before → ⊥) → ((x : FuncName) → In x xs → (y : FuncName) → In y (calls_of m x) → apart m x y ≡ true → In y (names_of m) → In y before) → CalleesBefore m before xs
  before_all [] before d off callees = tt
  before_all (x ∷ xs) before d off callees = (off x (inl refl), callees x (inl refl), before_all xs (x ∷ before) d.1 (λ z i j. elim j [ inl e ↦ d.0 (subst (λ w. In w xs) e i) | inr k ↦ off z (inr i) k ]) (λ z i y c a n. inr (callees z (inr i) y c a n)))

  record Placed (placed : List FuncName) : Type 0 where
    functions : (x : FuncName) → In x placed → In x (names_of m)
    pieces : (x y : FuncName) → In x placed → one_piece m x y ≡ true → In y (names_of m) → In y placed
    callees_before : CalleesBefore m [] placed

  -- the callees of a piece that is ready
  pub callees_there : (placed : List FuncName) (x : FuncName) → ready m placed x ≡ true → (z : FuncName) → In z (piece m x) → (y : FuncName) → In y (calls_of m z) → apart m z y ≡ true → In y (names_of m) → In y placed
  callees_there placed x r z i y c a n = by (one_piece m z y) (stands y placed) (stands y (names_of m)) a (stands_of y (names_of m) n) (true_for_each (λ w. one_piece m z w || stands w placed || not (stands w (names_of m))) (calls_of m z) (true_for_each (callees_placed m placed) (piece m x) r z i) y c) (in_of y placed)
    where
      by : (p s t : Bool) → not p ≡ true → t ≡ true → (p || s || not t) ≡ true → (s ≡ true → In y placed) → In y placed
      by true s t h k q there = cc
      by false true t h k q there = there refl
      by false false true h k q there = cc
      by false false false h k q there = cc

  more_placed : (placed : List FuncName) (x : FuncName) → AllDifferent (names_of m) → Placed placed → (In x placed → ⊥) → In x (names_of m) → ready m placed x ≡ true → Placed (placed ++ piece m x)
  more_placed placed x d h off i r =
      record {
        functions = λ z j. elim (in_cases z placed (piece m x) j) [ inl k ↦ h.functions z k | inr k ↦ (in_those (one_piece m x) (names_of m) z k).0 ];
        pieces = λ z y j q n.
            elim (in_cases z placed (piece m x) j) [
              | inl k ↦ in_left y placed (piece m x) (h.pieces z y k q n)
              | inr k ↦ in_right y placed (piece m x) (those_in (one_piece m x) (names_of m) y n (piece_on x z y (in_those (one_piece m x) (names_of m) z k).1 q))
            ];
        callees_before = before_append placed (piece m x) [] h.callees_before (λ after to back. before_all (piece m x) after (those_different (one_piece m x) (names_of m) d) (λ z j k. elim (to z k) [ inl e ↦ elim e [ ] | inr l ↦ off (h.pieces z x l (piece_back x z (in_those (one_piece m x) (names_of m) z j).1) i) ]) (λ z j y c a n. back y (inr (callees_there placed x r z j y c a n))));
      }

  -- ---- which piece is next

  record Next (placed ns : List FuncName) (x : FuncName) : Type 0 where
    there : In x ns
    not_placed : stands x placed ≡ false
    is_ready : ready m placed x ≡ true

  next_is : (placed ns : List FuncName) (x : FuncName) → next_of m placed ns ≡ Some x → Next placed ns x
  next_is placed [] x h = cc
  next_is placed (k ∷ ns) x h = go (stands k placed) refl (ready m placed k) refl h (next_is placed ns x)
    where
      on : Next placed ns x → Next placed (k ∷ ns) x
      on r = record { there = inr r.there; not_placed = r.not_placed; is_ready = r.is_ready }

      go : (s : Bool) → stands k placed ≡ s → (r : Bool) → ready m placed k ≡ r → (if not s && r then Some k else next_of m placed ns) ≡ Some x → (next_of m placed ns ≡ Some x → Next placed ns x) → Next placed (k ∷ ns) x
      go true q r e h ih = on (ih h)
      go false q false e h ih = on (ih h)
      go false q true e h ih = let z : k ≡ x = cc in record { there = inl (sym z); not_placed = ap (λ w. stands w placed) (sym z) ∙ q; is_ready = ap (ready m placed) (sym z) ∙ e }

  none_next : (placed ns : List FuncName) → next_of m placed ns ≡ None → (x : FuncName) → In x ns → stands x placed ≡ false → ready m placed x ≡ false
  none_next placed [] h x i n = elim i [ ]
  none_next placed (k ∷ ns) h x i n = go (stands k placed) refl (ready m placed k) refl h (none_next placed ns) i
    where
      go : (s : Bool) → stands k placed ≡ s → (r : Bool) → ready m placed k ≡ r → (if not s && r then Some k else next_of m placed ns) ≡ None → (next_of m placed ns ≡ None → (y : FuncName) → In y ns → stands y placed ≡ false → ready m placed y ≡ false) → In x (k ∷ ns) → ready m placed x ≡ false
      go true q r e h ih (inl z) = let w : true ≡ false = sym q ∙ ap (λ v. stands v placed) (sym z) ∙ n in cc
      go true q r e h ih (inr j) = ih h x j n
      go false q true e h ih j = cc
      go false q false e h ih (inl z) = ap (ready m placed) z ∙ e
      go false q false e h ih (inr j) = ih h x j n

  -- where no piece is next, all functions are placed
  all_placed : (placed : List FuncName) → next_of m placed (names_of m) ≡ None → (n : ℕ) (x : FuncName) → rank m x < n → In x (names_of m) → In x placed
  all_placed placed h zero x l i = absurd (omega (arith, l))
  all_placed placed h (suc n) x l i = go (stands x placed) refl (λ y u j. all_placed placed h n y (let f = rank_falls m x y u j in omega (arith, l, f)) j)
    where
      missing : (y z : FuncName) (p s t : Bool) → one_piece m z y ≡ p → stands y placed ≡ s → stands y (names_of m) ≡ t → (p || s || not t) ≡ false → (one_piece m z y ≡ false) × (stands y placed ≡ false) × (stands y (names_of m) ≡ true)
      missing y z true s t a b c q = cc
      missing y z false true t a b c q = cc
      missing y z false false true a b c q = (a, b, c)
      missing y z false false false a b c q = cc

      go : (s : Bool) → stands x placed ≡ s → ((y : FuncName) → under m x y ≡ true → In y (names_of m) → In y placed) → In x placed
      go true q ih = in_of x placed q
      go false q ih =
          let a = false_for_one (callees_placed m placed) (piece m x) (none_next placed (names_of m) h x i q) in
          let p = in_those (one_piece m x) (names_of m) a.0 a.1 in
          let b = false_for_one (λ w. one_piece m a.0 w || stands w placed || not (stands w (names_of m))) (calls_of m a.0) a.2 in
          let c = missing b.0 a.0 (one_piece m a.0 b.0) (stands b.0 placed) (stands b.0 (names_of m)) refl refl refl b.2 in
          let there = ih b.0 (under_piece x a.0 b.0 p.1 b.1 c.0) (in_of b.0 (names_of m) c.2) in
          let e : false ≡ true = sym c.1 ∙ stands_of b.0 placed there in
          cc

  -- ---- turns

  abbrev pub unplaced : List FuncName → FuncName → Bool
  unplaced placed k = not (stands k placed)

  pub fewer : (placed : List FuncName) (x : FuncName) → In x (names_of m) → stands x placed ≡ false → count (unplaced (placed ++ piece m x)) (names_of m) < count (unplaced placed) (names_of m)
  fewer placed x i n =
      count_less (unplaced (placed ++ piece m x)) (unplaced placed) (λ k q. keep k (stands k placed) refl q) (names_of m) x i (ap not (stands_of x (placed ++ piece m x) (in_right x placed (piece m x) (those_in (one_piece m x) (names_of m) x i (of_mutual x x (inl refl)))))) (ap not n)
    where
      keep : (k : FuncName) (s : Bool) → stands k placed ≡ s → not (stands k (placed ++ piece m x)) ≡ true → not s ≡ true
      keep k false q h = refl
      keep k true q h = let e : false ≡ true = sym (ap not (stands_of k (placed ++ piece m x) (in_left k placed (piece m x) (in_of k placed q)))) ∙ h in cc

  complete : (placed : List FuncName) → Placed placed → ((x : FuncName) → In x (names_of m) → In x placed) → BottomUp m placed
  complete placed h all = record { functions = h.functions; all = all; callees_before = h.callees_before }

  in_turns : AllDifferent (names_of m) → (n : ℕ) (placed : List FuncName) → Placed placed → count (unplaced placed) (names_of m) ≤ n → BottomUp m (placed_in n m placed)
  in_turns d zero placed h l = complete placed h (λ x i. go x (stands x placed) refl (none_counted (unplaced placed) (names_of m) l x i))
    where
      go : (x : FuncName) (s : Bool) → stands x placed ≡ s → not s ≡ false → In x placed
      go x true q e = in_of x placed q
      go x false q e = cc
  in_turns d (suc n) placed h l = by (next_of m placed (names_of m)) refl (in_turns d n)
    where
      by : (o : Option FuncName) → next_of m placed (names_of m) ≡ o → ((more : List FuncName) → Placed more → count (unplaced more) (names_of m) ≤ n → BottomUp m (placed_in n m more)) → BottomUp m (elim o [ None ↦ placed | Some x ↦ placed_in n m (placed ++ piece m x) ])
      by None q ih = complete placed h (λ x i. all_placed placed q (suc (rank m x)) x (omega arith) i)
      by (Some x) q ih =
          let r = next_is placed (names_of m) x q in
          let off : In x placed → ⊥ = λ j. let e : false ≡ true = sym r.not_placed ∙ stands_of x placed j in cc in
          let f = fewer placed x r.there r.not_placed in
          ih (placed ++ piece m x) (more_placed placed x d h off r.there r.is_ready) (omega (arith, l, f))

pub order_is_bottom_up : OrderIsBottomUp
order_is_bottom_up m d =
    in_turns m (names_different m d) (length m) [] (record { functions = λ x i. elim i [ ]; pieces = λ x y i q n. elim i [ ]; callees_before = tt }) (let a = at_most (unplaced m []) (names_of m) in let b = names_length m in omega (arith, a, b))
