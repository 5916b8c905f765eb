-- Pieces placed in turn by numbers are those placed in turn by names.
use Rattle.std.proofs.Common.{◌≡◌, ◌⊎◌, inl, inr, ℕ, zero, suc, ◌+◌, ◌<◌, ◌≤◌, List, [], ◌∷◌, ◌++◌, length, map, get_or, Option, Some, None, Bool, true, false, ◌&&◌, ◌||◌, nat_eq, eq-eqb, ne_eqb, refl, sym, ap, ap₂, ◌∙◌, subst, arith}
use Rattle.std.specs.Prelude.{slice_get, not, if◌then◌else◌}
use Rattle.std.proofs.lemmas.Bool.{cases_eq, eqb-true}
use Rattle.std.proofs.lemmas.List.{length-map}
use Rattle.std.proofs.lemmas.Option.{get_or_from_slice_get, slice_get_within}
use Rattle.ir_core.specs.declared.names.FuncName.{FuncName}
use Rattle.ir_core.specs.Module.{Function, Module}
use Rattle.ir_core.specs.Lists.{In, Each, Below}
use Rattle.ir_core.specs.WellFormed.{DifferentNames}
use Rattle.ir_core.proofs.Members.{in_left, in_right, in_cases}
use Rattle.call_graph.specs.Reach.{calls_of, one_piece, apart}
use Rattle.call_graph.specs.Order.{names_of, those, stands, every_name, piece, callees_placed, ready, next_of, placed_in, bottom_up, piece_number}
use Rattle.call_graph.specs.Calls.{InRange, number_of, with_number, numbers_of, calls_in, graph_of}
use Rattle.call_graph.specs.Numbers.{called, Reaches, itself, by_call, LeastOfPiece}
use Rattle.call_graph.specs.Search.{Leasts}
use Rattle.call_graph.specs.Turns.{own, IsPiece, Pieced, members_from, members, Calls, Waits, Next, Turns, begin, turn, Ordered}
use Rattle.call_graph.proofs.Standing.{stands_of, in_of, not_standing}
use Rattle.call_graph.proofs.Ranks.{count}
use Rattle.call_graph.proofs.Placing.{in_those, those_in, callees_there, fewer, unplaced, at_most}
use Rattle.call_graph.proofs.PieceNumbers.{one_number, by_number, not_true, is_not}
use Rattle.call_graph.proofs.Numbers.{some_at, one_place, number_is, calls_by_numbers, is_called}
use Rattle.call_graph.proofs.Numbered.{leasts_are_numbers}
use Rattle.call_graph.proofs.Searching.{reaches_then}
use Rattle.call_graph.proofs.Settling.{called_below, in_members, of_members, callee_is_piece}

-- ---- each function has a piece

reached_below : (calls : List (List ℕ)) → InRange calls → (x y : ℕ) → x < length calls → Reaches calls x y → y < length calls
reached_below calls h x y l itself = l
reached_below calls h x y l (by_call {y = w} i r) = reached_below calls h w y (called_below (length calls) calls x w h i) r

pub pieced_of : (calls : List (List ℕ)) (leasts : List ℕ) → InRange calls → Leasts calls leasts → Pieced calls leasts
pieced_of calls leasts h f = record {
  in_range = h;
  long = f.0;
  own_is = λ x l.
      let e = f.0 in
      let a = f.1 x (omega (arith, l, e)) in
      let y = own leasts x in
      let m : y < length calls = reached_below calls h x y (omega (arith, l, e)) a.to in
      let b = f.1 y m in
      let low = b.first y itself itself in
      let high = a.first (own leasts y) (reaches_then a.to b.to) (reaches_then b.from a.from) in
      (omega (arith, m, e), omega (arith, low, high));
}

-- ---- numbers and names

abbrev Named : Module → List ℕ → List FuncName → Type 0
Named m [] [] = Unit {0}
Named m [] (n ∷ ns) = ⊥
Named m (k ∷ ks) [] = ⊥
Named m (k ∷ ks) (n ∷ ns) = ((f : Function) × (slice_get m k ≡ Some f) × (f.name ≡ n)) × Named m ks ns

named_join : (m : Module) (ks : List ℕ) (ns : List FuncName) (js : List ℕ) (os : List FuncName) → Named m ks ns → Named m js os → Named m (ks ++ js) (ns ++ os)
named_join m [] [] js os a b = b
named_join m [] (n ∷ ns) js os a b = absurd a
named_join m (k ∷ ks) [] js os a b = absurd a
named_join m (k ∷ ks) (n ∷ ns) js os a b = (a.0, named_join m ks ns js os a.1 b)

named_in : (m : Module) (ks : List ℕ) (ns : List FuncName) → Named m ks ns → (k : ℕ) (f : Function) → In k ks → slice_get m k ≡ Some f → In f.name ns
named_in m [] ns a k f i e = elim i [ ]
named_in m (j ∷ ks) [] a k f i e = absurd a
named_in m (j ∷ ks) (n ∷ ns) a k f (inl q) e =
    let b = a.0.1 in
    let s : slice_get m j ≡ Some f = ap (slice_get m) (sym q) ∙ e in
    let w : a.0.0 ≡ f = cc in
    inl (ap (λ (g : Function). g.name) (sym w) ∙ a.0.2)
named_in m (j ∷ ks) (n ∷ ns) a k f (inr i) e = inr (named_in m ks ns a.1 k f i e)

in_named : (m : Module) (ks : List ℕ) (ns : List FuncName) → Named m ks ns → (n : FuncName) → In n ns → (k : ℕ) × (f : Function) × In k ks × (slice_get m k ≡ Some f) × (f.name ≡ n)
in_named m [] [] a n i = elim i [ ]
in_named m [] (o ∷ ns) a n i = absurd a
in_named m (k ∷ ks) [] a n i = elim i [ ]
in_named m (k ∷ ks) (o ∷ ns) a n (inl q) = (k, a.0.0, inl refl, a.0.1, a.0.2 ∙ sym q)
in_named m (k ∷ ks) (o ∷ ns) a n (inr i) = let r = in_named m ks ns a.1 n i in (r.0, r.1, inr r.2, r.3, r.4)

pub name_in : (m : Module) (k : ℕ) (f : Function) → slice_get m k ≡ Some f → In f.name (names_of m)
name_in [] k f e = absurd cc
name_in (a ∷ m) zero f e = let w : a ≡ f = cc in inl (ap (λ (g : Function). g.name) (sym w))
name_in (a ∷ m) (suc k) f e = inr (name_in m k f e)

pub in_name : (m : Module) (n : FuncName) → In n (names_of m) → (k : ℕ) × (f : Function) × (slice_get m k ≡ Some f) × (f.name ≡ n)
in_name [] n i = elim i [ ]
in_name (a ∷ m) n (inl q) = (0, a, refl, sym q)
in_name (a ∷ m) n (inr i) = let r = in_name m n i in (suc r.0, r.1, r.2, r.3)

-- ---- those that are ready

every_of : (test : FuncName → Bool) (ns : List FuncName) → ((n : FuncName) → In n ns → test n ≡ true) → every_name test ns ≡ true
every_of test [] h = refl
every_of test (n ∷ ns) h = ap₂ (λ a b. a && b) (h n (inl refl)) (every_of test ns (λ k i. h k (inr i)))

ready_of : (m : Module) (placed : List FuncName) (x : FuncName) → ((z : FuncName) → In z (piece m x) → (y : FuncName) → In y (calls_of m z) → apart m z y ≡ true → In y (names_of m) → In y placed) → ready m placed x ≡ true
ready_of m placed x h = every_of (callees_placed m placed) (piece m x) (λ z i. every_of (λ y. one_piece m z y || stands y placed || not (stands y (names_of m))) (calls_of m z) (λ y c. go z y (one_piece m z y) refl (stands y placed) refl (stands y (names_of m)) refl (h z i y c)))
  where
    go : (z y : FuncName) (a : Bool) → one_piece m z y ≡ a → (b : Bool) → stands y placed ≡ b → (c : Bool) → stands y (names_of m) ≡ c → (apart m z y ≡ true → In y (names_of m) → In y placed) → (a || b || not c) ≡ true
    go z y true p b q c r k = refl
    go z y false p true q c r k = refl
    go z y false p false q false r k = refl
    go z y false p false q true r k = let w : true ≡ false = sym (stands_of y placed (k (ap not p) (in_of y (names_of m) r))) ∙ q in cc

next_is : (m : Module) (placed : List FuncName) (fs : Module) (p : ℕ) (f : Function) → slice_get fs p ≡ Some f → (not (stands f.name placed) && ready m placed f.name) ≡ true
    → ((j : ℕ) (g : Function) → j < p → slice_get fs j ≡ Some g → (not (stands g.name placed) && ready m placed g.name) ≡ false) → next_of m placed (names_of fs) ≡ Some f.name
next_is m placed [] p f e t off = absurd cc
next_is m placed (a ∷ fs) zero f e t off = let w : a ≡ f = cc in ap (λ (c : Bool). if c then Some a.name else next_of m placed (names_of fs)) (ap (λ (g : Function). not (stands g.name placed) && ready m placed g.name) w ∙ t) ∙ ap (λ (g : Function). Some g.name) w
next_is m placed (a ∷ fs) (suc p) f e t off =
    ap (λ (c : Bool). if c then Some a.name else next_of m placed (names_of fs)) (off 0 a (omega arith) refl) ∙ next_is m placed fs p f e t (λ j g l s. off (suc j) g (omega (arith, l)) s)

next_none : (m : Module) (placed : List FuncName) (fs : Module) → ((j : ℕ) (g : Function) → slice_get fs j ≡ Some g → (not (stands g.name placed) && ready m placed g.name) ≡ false) → next_of m placed (names_of fs) ≡ None
next_none m placed [] off = refl
next_none m placed (a ∷ fs) off = ap (λ (c : Bool). if c then Some a.name else next_of m placed (names_of fs)) (off 0 a refl) ∙ next_none m placed fs (λ j g s. off (suc j) g s)

-- ---- in turn

module _ (m : Module) (d : DifferentNames m) (leasts : List ℕ) (l : Leasts (graph_of m) leasts) where
  abbrev calls : List (List ℕ)
  calls = graph_of m

  module _ (h : Pieced (graph_of m) leasts) where
    long : length leasts ≡ length m
    long = l.0 ∙ length-map m (calls_in m)

    number : (k : ℕ) (f : Function) → slice_get m k ≡ Some f → own leasts k ≡ piece_number m f.name
    number k f e = ap (λ (z : List ℕ). get_or z k 0) (leasts_are_numbers m d leasts l) ∙ get_or_from_slice_get (map (λ f. piece_number m f.name) m) k (piece_number m f.name) 0 (at m k f e)
      where
        at : (fs : Module) (j : ℕ) (g : Function) → slice_get fs j ≡ Some g → slice_get (map (λ f. piece_number m f.name) fs) j ≡ Some (piece_number m g.name)
        at [] j g e = absurd cc
        at (a ∷ fs) zero g e = let w : a ≡ g = cc in ap (λ (g : Function). Some (piece_number m g.name)) w
        at (a ∷ fs) (suc j) g e = at fs j g e

    together : (x y : ℕ) (f g : Function) → slice_get m x ≡ Some f → slice_get m y ≡ Some g → one_piece m f.name g.name ≡ true → own leasts x ≡ own leasts y
    together x y f g e k t = number x f e ∙ one_number m f.name g.name t ∙ sym (number y g k)

    of_own : (x y : ℕ) (f g : Function) → slice_get m x ≡ Some f → slice_get m y ≡ Some g → own leasts x ≡ own leasts y → one_piece m f.name g.name ≡ true
    of_own x y f g e k t = by_number m f.name g.name (name_in m x f e) (sym (number x f e) ∙ t ∙ number y g k)

    -- pieces are placed whole
    whole : (list : List ℕ) → Turns calls leasts list → (x y : ℕ) → In x list → y < length leasts → own leasts y ≡ own leasts x → In y list
    whole [] begin x y i k e = i
    whole list (turn {placed = placed} {p = p} t n) x y i k e = elim (in_cases x placed (members leasts p) i) [
      | inl j ↦ in_left y placed (members leasts p) (whole placed t x y j k e)
      | inr j ↦ in_right y placed (members leasts p) (of_members leasts p y k (e ∙ (in_members leasts p x j).1))
    ]

    named_members : (p : ℕ) (x : FuncName) (fs : Module) (k : ℕ) (ls : List ℕ) → length fs ≡ length ls → ((i : ℕ) (f : Function) → slice_get fs i ≡ Some f → slice_get m (k + i) ≡ Some f)
        → ((i : ℕ) (f : Function) → slice_get fs i ≡ Some f → nat_eq (get_or ls i 0) p ≡ one_piece m x f.name) → Named m (members_from p k ls) (those (one_piece m x) (names_of fs))
    named_members p x [] k [] e a b = tt
    named_members p x [] k (j ∷ ls) e a b = absurd (omega (arith, e))
    named_members p x (f ∷ fs) k [] e a b = absurd (omega (arith, e))
    named_members p x (f ∷ fs) k (j ∷ ls) e a b =
        go (nat_eq j p) refl (named_members p x fs (suc k) ls (omega (arith, e)) (λ i g s. subst (λ (z : ℕ). slice_get m z ≡ Some g) (let w : k + suc i ≡ suc k + i = omega arith in w) (a (suc i) g s)) (λ i g s. b (suc i) g s))
      where
        go : (c : Bool) → nat_eq j p ≡ c → Named m (members_from p (suc k) ls) (those (one_piece m x) (names_of fs)) → Named m (if c then k ∷ members_from p (suc k) ls else members_from p (suc k) ls) (if one_piece m x f.name then f.name ∷ those (one_piece m x) (names_of fs) else those (one_piece m x) (names_of fs))
        go true q r = subst (λ (c : Bool). Named m (k ∷ members_from p (suc k) ls) (if c then f.name ∷ those (one_piece m x) (names_of fs) else those (one_piece m x) (names_of fs))) (sym q ∙ b 0 f refl) ((f, subst (λ (z : ℕ). slice_get m z ≡ Some f) (let w : k + 0 ≡ k = omega arith in w) (a 0 f refl), refl), r)
        go false q r = subst (λ (c : Bool). Named m (members_from p (suc k) ls) (if c then f.name ∷ those (one_piece m x) (names_of fs) else those (one_piece m x) (names_of fs))) (sym q ∙ b 0 f refl) r

    piece_named : (p : ℕ) (f : Function) → slice_get m p ≡ Some f → own leasts p ≡ p → Named m (members leasts p) (piece m f.name)
    piece_named p f e o = named_members p f.name m 0 leasts (sym long) (λ i g s. subst (λ (z : ℕ). slice_get m z ≡ Some g) (let w : i ≡ 0 + i = omega arith in w) s) (λ i g s. same i g s (nat_eq (own leasts i) p) refl (one_piece m f.name g.name) refl)
      where
        same : (i : ℕ) (g : Function) → slice_get m i ≡ Some g → (a : Bool) → nat_eq (own leasts i) p ≡ a → (b : Bool) → one_piece m f.name g.name ≡ b → a ≡ b
        same i g s true q true r = refl
        same i g s false q false r = refl
        same i g s true q false r = let t = of_own p i f g e s (o ∙ sym (eqb-true (own leasts i) p q)) in let w : true ≡ false = sym t ∙ r in cc
        same i g s false q true r = let t = together p i f g e s r in let w : true ≡ false = sym (eq-eqb (own leasts i) p (sym t ∙ o)) ∙ q in cc

    module _ (list : List ℕ) (names : List FuncName) (t : Turns calls leasts list) (n : Named m list names) where
      to_list : (k : ℕ) (f : Function) → slice_get m k ≡ Some f → In f.name names → In k list
      to_list k f e i = let r = in_named m list names n f.name i in subst (λ (z : ℕ). In z list) (one_place m d r.0 k r.1 f r.3 e r.4) r.2

      -- what waits is not next
      not_next : (j : ℕ) (g : Function) → slice_get m j ≡ Some g → ((In (own leasts j) list → ⊥) → Waits calls leasts list (own leasts j)) → (not (stands g.name names) && ready m names g.name) ≡ false
      not_next j g e waits = go (stands g.name names) refl (ready m names g.name) refl
        where
          go : (a : Bool) → stands g.name names ≡ a → (b : Bool) → ready m names g.name ≡ b → (not a && b) ≡ false
          go true q b r = refl
          go false q false r = refl
          go false q true r =
              let within : j < length leasts = let w = slice_get_within m j g e in let u = long in omega (arith, w, u) in
              let off : In (own leasts j) list → ⊥ = λ i. let s = named_in m list names n j g (whole list t (own leasts j) j i within (sym (h.own_is j within).1)) e in let w : true ≡ false = sym (stands_of g.name names s) ∙ q in cc in
              let a = waits off in
              let c = a.1 in
              let z = some_at m c.caller (let w = c.within in let u = long in omega (arith, w, u)) in
              let y = is_called m d c.caller c.callee z.0 z.1 c.call in
              let one = of_own j c.caller g z.0 e z.1 (sym c.of_caller) in
              let i = those_in (one_piece m g.name) (names_of m) z.0.name (name_in m c.caller z.0 z.1) one in
              let far = is_not (one_piece m z.0.name y.0.name) (λ b. c.other (sym c.of_callee ∙ sym (together c.caller c.callee z.0 y.0 z.1 y.1 b) ∙ c.of_caller)) in
              let there = callees_there m names g.name r z.0.name i y.0.name y.2 far (name_in m c.callee y.0 y.1) in
              let back = to_list c.callee y.0 y.1 there in
              let piece_in = callee_is_piece calls leasts h (own leasts j) a.0 c in
              absurd (a.2 (whole list t c.callee a.0 back piece_in.0 (piece_in.1 ∙ sym c.of_callee)))

      is_ready : (p : ℕ) (f : Function) → slice_get m p ≡ Some f → Next calls leasts list p → ready m names f.name ≡ true
      is_ready p f e next = ready_of m names f.name (λ z i y c far k.
          let a = in_those (one_piece m f.name) (names_of m) z i in
          let u = in_name m z a.0 in
          let v = in_name m y k in
          let within_u : u.0 < length leasts = let w = slice_get_within m u.0 u.1 u.2 in let s = long in omega (arith, w, s) in
          let within_v : v.0 < length leasts = let w = slice_get_within m v.0 v.1 v.2 in let s = long in omega (arith, w, s) in
          let same : own leasts u.0 ≡ p = sym (together p u.0 f u.1 e u.2 (ap (one_piece m f.name) u.3 ∙ a.1)) ∙ next.is_piece.1 in
          let call : In v.0 (called calls u.0) = (calls_by_numbers m d u.0 v.0 u.1 v.1 u.2 v.2).1 (subst (λ (q : FuncName). In q (calls_of m u.1.name)) (sym v.3) (subst (λ (q : FuncName). In y (calls_of m q)) (sym u.3) c)) in
          let differs : own leasts v.0 ≡ p → ⊥ = λ q. not_true (one_piece m z y) far (ap₂ (one_piece m) (sym u.3) (sym v.3) ∙ of_own u.0 v.0 u.1 v.1 u.2 v.2 (same ∙ sym q)) in
          let there = next.ready (own leasts v.0) (record { caller = u.0; callee = v.0; within = within_u; of_caller = same; call = call; of_callee = refl; other = differs }) in
          let back = whole list t (own leasts v.0) v.0 there within_v (sym (h.own_is v.0 within_v).1) in
          subst (λ (q : FuncName). In q names) v.3 (named_in m list names n v.0 v.1 back v.2))

    record Turned (list : List ℕ) : Type 0 where
      names : List FuncName
      named : Named m list names
      turns_left : ℕ
      same : placed_in turns_left m names ≡ bottom_up m
      enough : count (unplaced m names) (names_of m) ≤ turns_left

    turned : (list : List ℕ) → Turns calls leasts list → Turned list
    turned [] begin = record { names = []; named = tt; turns_left = length m; same = refl; enough = let a = at_most (unplaced m []) (names_of m) in let e = names_long m in omega (arith, a, e) }
      where
        names_long : (fs : Module) → length (names_of fs) ≡ length fs
        names_long [] = refl
        names_long (f ∷ fs) = ap suc (names_long fs)
    turned list (turn {placed = placed} {p = p} t next) =
        let r = turned placed t in
        let f = some_at m p (let w = next.is_piece.0 in let u = long in omega (arith, w, u)) in
        let out = not_standing f.0.name r.names (λ i. next.unplaced (to_list placed r.names t r.named p f.0 f.1 i)) in
        let test = ap₂ (λ a b. not a && b) out (is_ready placed r.names t r.named p f.0 f.1 next) in
        let first = next_is m r.names m p f.0 f.1 test (λ j g s e. not_next placed r.names t r.named j g e (λ off.
        let within : j < length leasts = let w = slice_get_within m j g e in let u = long in omega (arith, w, u) in
        let low = (l.1 j (let u = l.0 in omega (arith, within, u))).first j itself itself in
        next.first (own leasts j) (omega (arith, low, s)) (h.own_is j within) off)) in
        let less = fewer m r.names f.0.name (name_in m p f.0 f.1) out in
        step placed p f.0 f.1 next.is_piece.1 r r.turns_left r.same r.enough first less
      where
        step : (placed : List ℕ) (p : ℕ) (f : Function) → slice_get m p ≡ Some f → own leasts p ≡ p → (r : Turned placed) → (k : ℕ) → placed_in k m r.names ≡ bottom_up m → count (unplaced m r.names) (names_of m) ≤ k
            → next_of m r.names (names_of m) ≡ Some f.name → count (unplaced m (r.names ++ piece m f.name)) (names_of m) < count (unplaced m r.names) (names_of m) → Turned (placed ++ members leasts p)
        step placed p f e o r zero s b first less = absurd (omega (arith, b, less))
        step placed p f e o r (suc k) s b first less = record {
          names = r.names ++ piece m f.name;
          named = named_join m placed r.names (members leasts p) (piece m f.name) r.named (piece_named p f e o);
          turns_left = k;
          same = sym (ap (λ (c : Option FuncName). elim c [ None ↦ r.names | Some x ↦ placed_in k m (r.names ++ piece m x) ]) first) ∙ s;
          enough = omega (arith, b, less);
        }

    numbers_back : (ks : List ℕ) (ns : List FuncName) → Named m ks ns → numbers_of m ns ≡ ks
    numbers_back [] [] a = refl
    numbers_back [] (n ∷ ns) a = absurd a
    numbers_back (k ∷ ks) [] a = absurd a
    numbers_back (k ∷ ks) (n ∷ ns) a =
        ap₂ with_number (ap (number_of m) (sym a.0.2) ∙ number_is m d k a.0.0 a.0.1) (numbers_back ks ns a.1)

    pub order_by_numbers : (list : List ℕ) → Ordered calls leasts list → list ≡ numbers_of m (bottom_up m)
    order_by_numbers list o =
        let r = turned list o.turns in
        let none = next_none m r.names m (λ j g e. not_next list r.names o.turns r.named j g e (λ off.
        let within : j < length leasts = let w = slice_get_within m j g e in let u = long in omega (arith, w, u) in
        o.ended (own leasts j) (h.own_is j within) off)) in
        sym (numbers_back list r.names r.named) ∙ ap (numbers_of m) (sym (stops r.turns_left r.names none) ∙ r.same)
      where
        stops : (k : ℕ) (names : List FuncName) → next_of m names (names_of m) ≡ None → placed_in k m names ≡ names
        stops zero names e = refl
        stops (suc k) names e = ap (λ (c : Option FuncName). elim c [ None ↦ names | Some x ↦ placed_in k m (names ++ piece m x) ]) e

pub orders : (m : Module) → DifferentNames m → (calls : List (List ℕ)) → calls ≡ graph_of m → (leasts list : List ℕ) → Leasts calls leasts → Pieced calls leasts → Ordered calls leasts list
    → (leasts ≡ map (λ f. piece_number m f.name) m) × (list ≡ numbers_of m (bottom_up m))
orders m d its e leasts list l h o =
    let k : Leasts (graph_of m) leasts = subst (λ (c : List (List ℕ)). Leasts c leasts) e l in
    (leasts_are_numbers m d leasts k, order_by_numbers m d leasts k (subst (λ (c : List (List ℕ)). Pieced c leasts) e h) list (subst (λ (c : List (List ℕ)). Ordered c leasts list) e o))
