-- What a callee in another piece reaches is less than what its caller reaches.
use Rattle.std.proofs.Common.{◌≡◌, ℕ, suc, ◌<◌, ◌≤◌, inl, inr, List, [], ◌∷◌, length, Bool, true, false, ◌&&◌, ◌||◌, refl, sym, ap, ◌∙◌, arith}
use Rattle.std.specs.Prelude.{not, if◌then◌else◌}
use Rattle.ir_core.specs.declared.names.FuncName.{FuncName}
use Rattle.ir_core.specs.Module.{Module}
use Rattle.ir_core.specs.Lookup.{same_name}
use Rattle.ir_core.specs.Lists.{In}
use Rattle.call_graph.specs.Reach.{calls_of, reaches, apart}
use Rattle.call_graph.specs.Laws.{Leads, calls, by_way}
use Rattle.call_graph.specs.Order.{names_of}
use Rattle.call_graph.proofs.Walks.{reach_is_by_lists}

leads_on : {m : Module} {x y z : FuncName} → Leads m x y → Leads m y z → Leads m x z
leads_on (calls i) l = by_way i l
leads_on (by_way i k) l = by_way i (leads_on k l)

pub reaches_on : (m : Module) (x y z : FuncName) → reaches m x y ≡ true → reaches m y z ≡ true → reaches m x z ≡ true
reaches_on m x y z a b = (reach_is_by_lists m x z).1 (leads_on ((reach_is_by_lists m x y).0 a) ((reach_is_by_lists m y z).0 b))

pub call_reaches : (m : Module) (x y : FuncName) → In y (calls_of m x) → reaches m x y ≡ true
call_reaches m x y i = (reach_is_by_lists m x y).1 (calls i)

-- x reaches z, and z does not reach x
abbrev pub under : Module → FuncName → FuncName → Bool
under m x z = reaches m x z && not (reaches m z x)

abbrev pub count : (FuncName → Bool) → List FuncName → ℕ
count test [] = 0
count test (n ∷ ns) = if test n then suc (count test ns) else count test ns

-- how many functions of the module are under x
abbrev pub rank : Module → FuncName → ℕ
rank m x = count (under m x) (names_of m)

-- ---- counts

count_step : (b c : Bool) (n k : ℕ) → (b ≡ true → c ≡ true) → n ≤ k → (if b then suc n else n) ≤ (if c then suc k else k)
count_step true true n k h l = omega (arith, l)
count_step true false n k h l = let e : false ≡ true = h refl in cc
count_step false true n k h l = omega (arith, l)
count_step false false n k h l = l

count_up : (b c : Bool) (n k : ℕ) → (b ≡ true → c ≡ true) → n < k → (if b then suc n else n) < (if c then suc k else k)
count_up true true n k h l = omega (arith, l)
count_up true false n k h l = let e : false ≡ true = h refl in cc
count_up false true n k h l = omega (arith, l)
count_up false false n k h l = l

count_here : (b c : Bool) (n k : ℕ) → b ≡ false → c ≡ true → n ≤ k → (if b then suc n else n) < (if c then suc k else k)
count_here true c n k h h' l = cc
count_here false true n k h h' l = omega (arith, l)
count_here false false n k h h' l = cc

count_most : (a b : FuncName → Bool) → ((k : FuncName) → a k ≡ true → b k ≡ true) → (ns : List FuncName) → count a ns ≤ count b ns
count_most a b h [] = omega arith
count_most a b h (n ∷ ns) = count_step (a n) (b n) (count a ns) (count b ns) (h n) (count_most a b h ns)

pub count_less : (a b : FuncName → Bool) → ((k : FuncName) → a k ≡ true → b k ≡ true) → (ns : List FuncName) (n : FuncName) → In n ns → a n ≡ false → b n ≡ true → count a ns < count b ns
count_less a b h [] n i p q = elim i [ ]
count_less a b h (k ∷ ns) n (inl e) p q = count_here (a k) (b k) (count a ns) (count b ns) (ap a (sym e) ∙ p) (ap b (sym e) ∙ q) (count_most a b h ns)
count_less a b h (k ∷ ns) n (inr i) p q = count_up (a k) (b k) (count a ns) (count b ns) (h k) (count_less a b h ns n i p q)

count_all : (ns : List FuncName) → count (λ k. true) ns ≡ length ns
count_all [] = refl
count_all (n ∷ ns) = ap suc (count_all ns)

pub names_length : (m : Module) → length (names_of m) ≡ length m
names_length [] = refl
names_length (f ∷ m) = ap suc (names_length m)

-- ---- under

pub both_of : (a b : Bool) → (a && not b) ≡ true → (a ≡ true) × (b ≡ false)
both_of true false h = (refl, refl)
both_of true true h = cc
both_of false b h = cc

pub of_both : (a b : Bool) → a ≡ true → (b ≡ true → ⊥) → (a && not b) ≡ true
of_both true true h off = absurd (off refl)
of_both true false h off = refl
of_both false b h off = cc

not_itself : (a : Bool) → (a && not a) ≡ false
not_itself true = refl
not_itself false = refl

apart_of : (s a b : Bool) → a ≡ true → not (s || (a && b)) ≡ true → (a && not b) ≡ true
apart_of true a b h q = cc
apart_of false true true h q = cc
apart_of false true false h q = refl
apart_of false false b h q = cc

pub under_of : (m : Module) (x y : FuncName) → reaches m x y ≡ true → apart m x y ≡ true → under m x y ≡ true
under_of m x y h q = apart_of (same_name x y) (reaches m x y) (reaches m y x) h q

under_on : (m : Module) (x y z : FuncName) → under m x y ≡ true → under m y z ≡ true → under m x z ≡ true
under_on m x y z a b =
    let p = both_of (reaches m x y) (reaches m y x) a in
    let q = both_of (reaches m y z) (reaches m z y) b in
    of_both (reaches m x z) (reaches m z x) (reaches_on m x y z p.0 q.0) (λ r. let e : false ≡ true = sym q.1 ∙ reaches_on m z x y r p.0 in cc)

pub rank_falls : (m : Module) (x y : FuncName) → under m x y ≡ true → In y (names_of m) → rank m y < rank m x
rank_falls m x y h i = count_less (under m y) (under m x) (λ k q. under_on m x y k h q) (names_of m) y i (not_itself (reaches m y y)) h

pub rank_bound : (m : Module) (x : FuncName) → In x (names_of m) → rank m x < length m
rank_bound m x i =
    let l = count_less (under m x) (λ k. true) (λ k q. refl) (names_of m) x i (not_itself (reaches m x x)) refl in
    let e = count_all (names_of m) in
    let n = names_length m in
    omega (arith, l, e, n)
