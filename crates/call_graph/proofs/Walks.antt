-- A list of functions that leads somewhere can be cut to one without repetitions, which has no more functions than the module.
use Rattle.std.proofs.Common.{◌≡◌, ◌⊎◌, inl, inr, ℕ, zero, suc, ◌≤◌, List, [], ◌∷◌, length, Option, Some, None, Bool, true, false, ◌||◌, refl, sym, ap, ◌∙◌, subst, arith}
use Rattle.std.specs.Prelude.{if◌then◌else◌}
use Rattle.std.proofs.lemmas.Bool.{or_cases, or_left, or_right}
use Rattle.ir_core.specs.declared.names.FuncName.{FuncName}
use Rattle.ir_core.specs.Module.{Function, Module}
use Rattle.ir_core.specs.Lookup.{same_name, find_function}
use Rattle.ir_core.specs.Lists.{In}
use Rattle.ir_core.proofs.Equal.{name_equal, name_same, equal_name, cases_name}
use Rattle.call_graph.specs.Reach.{called_names, calls_of, some_name, reaches_in}
use Rattle.call_graph.specs.Laws.{Leads, calls, by_way, ReachIsByLists}

-- from x to y by way of the functions of the list
abbrev Walk : Module → FuncName → List FuncName → FuncName → Type 0
Walk m x [] y = In y (calls_of m x)
Walk m x (z ∷ zs) y = In z (calls_of m x) × Walk m z zs y

record Way (m : Module) (x y : FuncName) : Type 0 where
  by : List FuncName
  walk : Walk m x by y

way : {m : Module} {x y : FuncName} → Leads m x y → Way m x y
way (calls i) = record { by = []; walk = i }
way (by_way {y = y} i l) = let w = way l in record { by = y ∷ w.by; walk = (i, w.walk) }

-- ---- tests of lists of names

pub some_of : (test : FuncName → Bool) (ns : List FuncName) → some_name test ns ≡ true → (n : FuncName) × In n ns × (test n ≡ true)
some_of test [] h = cc
some_of test (n ∷ ns) h = elim (or_cases (test n) (some_name test ns) h) [ inl q ↦ (n, inl refl, q) | inr q ↦ let r = some_of test ns q in (r.0, inr r.1, r.2) ]

pub of_some : (test : FuncName → Bool) (ns : List FuncName) (n : FuncName) → In n ns → test n ≡ true → some_name test ns ≡ true
of_some test [] n i h = elim i [ ]
of_some test (k ∷ ns) n (inl q) h = or_left (test k) (some_name test ns) (ap test (sym q) ∙ h)
of_some test (k ∷ ns) n (inr q) h = or_right (test k) (some_name test ns) (of_some test ns n q h)

leads_of : (m : Module) (n : ℕ) (x y : FuncName) → reaches_in n m x y ≡ true → Leads m x y
leads_of m zero x y h = cc
leads_of m (suc n) x y h =
    let p = some_of (λ z. same_name z y || reaches_in n m z y) (calls_of m x) h in
    elim (or_cases (same_name p.0 y) (reaches_in n m p.0 y) p.2) [
      | inl q ↦ calls (subst (λ z. In z (calls_of m x)) (name_equal p.0 y q) p.1)
      | inr q ↦ by_way p.1 (leads_of m n p.0 y q)
    ]

walk_reaches : (m : Module) (n : ℕ) (x : FuncName) (zs : List FuncName) (y : FuncName) → suc (length zs) ≤ n → Walk m x zs y → reaches_in n m x y ≡ true
walk_reaches m zero x zs y h w = absurd (omega (arith, h))
walk_reaches m (suc n) x [] y h w = of_some (λ z. same_name z y || reaches_in n m z y) (calls_of m x) y w (or_left (same_name y y) (reaches_in n m y y) (name_same y))
walk_reaches m (suc n) x (z ∷ zs) y h w =
    of_some (λ z. same_name z y || reaches_in n m z y) (calls_of m x) z w.0 (or_right (same_name z y) (reaches_in n m z y) (walk_reaches m n z zs y (omega (arith, h)) w.1))

-- ---- without repetitions

abbrev pub AllDifferent : List FuncName → Type 0
AllDifferent [] = Unit {0}
AllDifferent (n ∷ ns) = (In n ns → ⊥) × AllDifferent ns

pub different_names : (a b : FuncName) → same_name a b ≡ false → a ≡ b → ⊥
different_names a b h q = let e : false ≡ true = sym h ∙ equal_name a b q in cc

pub in_or_not : (n : FuncName) (ns : List FuncName) → In n ns ⊎ (In n ns → ⊥)
in_or_not n [] = inr (λ p. p)
in_or_not n (k ∷ ns) =
    elim (cases_name n k) [
      | inl q ↦ inl (inl q)
      | inr q ↦ elim (in_or_not n ns) [ inl r ↦ inl (inr r) | inr r ↦ inr (λ p. elim p [ inl s ↦ different_names n k q s | inr s ↦ r s ]) ]
    ]

record Simple (m : Module) (x y : FuncName) : Type 0 where
  by : List FuncName
  walk : Walk m x by y
  different : AllDifferent (x ∷ by)

-- the rest of a walk from a function on its way
rest_of : (m : Module) (z : FuncName) (zs : List FuncName) (y x : FuncName) → Walk m z zs y → AllDifferent (z ∷ zs) → In x (z ∷ zs) → Simple m x y
rest_of m z zs y x w d (inl q) = record { by = zs; walk = subst (λ k. Walk m k zs y) (sym q) w; different = subst (λ k. AllDifferent (k ∷ zs)) (sym q) d }
rest_of m z [] y x w d (inr q) = elim q [ ]
rest_of m z (k ∷ zs) y x w d (inr q) = rest_of m k zs y x w.1 d.1 q

simple : (m : Module) (x : FuncName) (zs : List FuncName) (y : FuncName) → Walk m x zs y → Simple m x y
simple m x [] y w = record { by = []; walk = w; different = ((λ p. p), tt) }
simple m x (z ∷ zs) y w = go (simple m z zs y w.1)
  where
    go : Simple m z y → Simple m x y
    go s = elim (in_or_not x (z ∷ s.by)) [ inl q ↦ rest_of m z s.by y x s.walk s.different q | inr q ↦ record { by = z ∷ s.by; walk = (w.0, s.walk); different = (q, s.different) } ]

-- ---- no more than the module has

function_names : Module → List FuncName
function_names [] = []
function_names (f ∷ m) = f.name ∷ function_names m

names_count : (m : Module) → length (function_names m) ≡ length m
unfolding function_names
names_count [] = refl
names_count (f ∷ m) = ap suc (names_count m)

found_in : (m : Module) (x : FuncName) (f : Function) → find_function x m ≡ Some f → In x (function_names m)
unfolding function_names
found_in [] x f h = cc
found_in (k ∷ m) x f h = elim (cases_name k.name x) [ inl q ↦ inl (sym q) | inr q ↦ inr (found_in m x f (sym (ap (λ c. if c then Some k else find_function x m) q) ∙ h)) ]

-- who calls is a function of the module
caller_in : (m : Module) (x y : FuncName) → In y (calls_of m x) → In x (function_names m)
caller_in m x y i = go (find_function x m) refl i
  where
    names_of : Option Function → List FuncName
    names_of None = []
    names_of (Some f) = called_names f f.blocks

    go : (o : Option Function) → find_function x m ≡ o → In y (elim o [ None ↦ [] | Some f ↦ called_names f f.blocks ]) → In x (function_names m)
    go None q i = elim i [ ]
    go (Some f) q i = found_in m x f q

abbrev AllIn : List FuncName → List FuncName → Type 0
AllIn [] ys = Unit {0}
AllIn (x ∷ xs) ys = In x ys × AllIn xs ys

walkers_in : (m : Module) (x : FuncName) (zs : List FuncName) (y : FuncName) → Walk m x zs y → AllIn (x ∷ zs) (function_names m)
walkers_in m x [] y w = (caller_in m x y w, tt)
walkers_in m x (z ∷ zs) y w = (caller_in m x z w.0, walkers_in m z zs y w.1)

without : FuncName → List FuncName → List FuncName
without x [] = []
without x (y ∷ ys) = if same_name x y then ys else y ∷ without x ys

without_count : (x : FuncName) (ys : List FuncName) → In x ys → length ys ≡ suc (length (without x ys))
unfolding without
without_count x [] i = elim i [ ]
without_count x (y ∷ ys) i =
    elim (cases_name x y) [
      | inl q ↦ ap (λ c. suc (length (if c then ys else y ∷ without x ys))) (sym (equal_name x y q))
      | inr q ↦
          let r : In x ys = elim i [ inl s ↦ absurd (different_names x y q s) | inr s ↦ s ] in
          ap suc (without_count x ys r) ∙ ap (λ c. suc (length (if c then ys else y ∷ without x ys))) (sym q)
    ]

without_in : (x z : FuncName) (ys : List FuncName) → (z ≡ x → ⊥) → In z ys → In z (without x ys)
unfolding without
without_in x z [] off i = elim i [ ]
without_in x z (y ∷ ys) off i = go (without_in x z ys off) (same_name x y) refl i
  where
    go : (In z ys → In z (without x ys)) → (c : Bool) → same_name x y ≡ c → In z (y ∷ ys) → In z (if c then ys else y ∷ without x ys)
    go ih true q (inl r) = absurd (off (r ∙ sym (name_equal x y q)))
    go ih true q (inr r) = r
    go ih false q (inl r) = inl r
    go ih false q (inr r) = inr (ih r)

all_without : (x : FuncName) (xs ys : List FuncName) → (In x xs → ⊥) → AllIn xs ys → AllIn xs (without x ys)
all_without x [] ys off h = tt
all_without x (z ∷ xs) ys off h = (without_in x z ys (λ q. off (inl (sym q))) h.0, all_without x xs ys (λ i. off (inr i)) h.1)

no_more : (xs ys : List FuncName) → AllDifferent xs → AllIn xs ys → length xs ≤ length ys
no_more [] ys d h = omega arith
no_more (x ∷ xs) ys d h =
    let e = without_count x ys h.0 in
    let r = no_more xs (without x ys) d.1 (all_without x xs ys d.0 h.1) in
    omega (arith, e, r)

pub reach_is_by_lists : ReachIsByLists
reach_is_by_lists m x y = (
  (λ h. leads_of m (length m) x y h),
  (λ l.
      let w = way l in
      let s = simple m x w.by y w.walk in
      let n = no_more (x ∷ s.by) (function_names m) s.different (walkers_in m x s.by y s.walk) in
      let k = names_count m in
      walk_reaches m (length m) x s.by y (omega (arith, n, k)) s.walk),
)
