-- Functions by their numbers and by their names.
use Rattle.std.proofs.Common.{◌≡◌, ◌⊎◌, inl, inr, ℕ, zero, suc, ◌<◌, List, [], ◌∷◌, ◌++◌, length, map, get_or, Option, Some, None, Bool, true, false, nat_eq, refl, sym, ap, ◌∙◌, subst, arith}
use Rattle.std.specs.Prelude.{slice_get, if◌then◌else◌}
use Rattle.std.proofs.lemmas.Bool.{eqb-true, or_cases}
use Rattle.ir_core.specs.declared.names.FuncName.{FuncName}
use Rattle.ir_core.specs.Module.{Function, Module}
use Rattle.ir_core.specs.Lookup.{same_name, find_function}
use Rattle.std.proofs.lemmas.List.{length-map}
use Rattle.ir_core.specs.Lists.{In, Each, Below}
use Rattle.ir_core.specs.WellFormed.{DifferentNames}
use Rattle.ir_core.proofs.Equal.{name_equal, equal_name}
use Rattle.ir_core.proofs.Members.{in_left, in_right, in_cases}
use Rattle.ir_core.proofs.Indexing.{place_cases}
use Rattle.call_graph.specs.Reach.{called_names, calls_of, reaches, one_piece}
use Rattle.call_graph.specs.Laws.{Leads, calls, by_way}
use Rattle.call_graph.proofs.Walks.{reach_is_by_lists}
use Rattle.call_graph.proofs.Ranks.{reaches_on, call_reaches}
use Rattle.call_graph.specs.Calls.{number_of, with_number, numbers_of, has, put_new, each_once, calls_in, graph_of, InRange}
use Rattle.call_graph.specs.Numbers.{called, Reaches, itself, by_call, CallsByNumbers, PiecesByNumbers}
use Rattle.call_graph.proofs.Placing.{mutual_of, of_mutual}

-- ---- names and numbers

find_name : (m : Module) (n : FuncName) (g : Function) → find_function n m ≡ Some g → g.name ≡ n
find_name [] n g e = absurd cc
find_name (k ∷ m) n g e = go (same_name k.name n) refl e (find_name m n g)
  where
    go : (c : Bool) → same_name k.name n ≡ c → (if c then Some k else find_function n m) ≡ Some g → (find_function n m ≡ Some g → g.name ≡ n) → g.name ≡ n
    go true q e ih = let s : k ≡ g = cc in ap (λ (z : Function). z.name) (sym s) ∙ name_equal k.name n q
    go false q e ih = ih e

not_none : (m : Module) (i : ℕ) (f : Function) → slice_get m i ≡ Some f → find_function f.name m ≡ None → ⊥
not_none [] i f e h = absurd cc
not_none (k ∷ m) zero f e h = let s : k ≡ f = cc in go (same_name k.name f.name) (equal_name k.name f.name (ap (λ (z : Function). z.name) s)) h
  where
    go : (c : Bool) → c ≡ true → (if c then Some k else find_function f.name m) ≡ None → ⊥
    go true q h = cc
    go false q h = cc
not_none (k ∷ m) (suc i) f e h = go (same_name k.name f.name) h (not_none m i f e)
  where
    go : (c : Bool) → (if c then Some k else find_function f.name m) ≡ None → (find_function f.name m ≡ None → ⊥) → ⊥
    go true h ih = cc
    go false h ih = ih h

pub one_place : (m : Module) → DifferentNames m → (x y : ℕ) (f g : Function) → slice_get m x ≡ Some f → slice_get m y ≡ Some g → f.name ≡ g.name → x ≡ y
one_place [] d x y f g e k n = absurd cc
one_place (a ∷ m) d zero zero f g e k n = refl
one_place (a ∷ m) d zero (suc y) f g e k n = let s : a ≡ f = cc in absurd (not_none m y g k (ap (λ z. find_function z m) (sym n ∙ ap (λ (z : Function). z.name) (sym s)) ∙ d.0))
one_place (a ∷ m) d (suc x) zero f g e k n = let s : a ≡ g = cc in absurd (not_none m x f e (ap (λ z. find_function z m) (n ∙ ap (λ (z : Function). z.name) (sym s)) ∙ d.0))
one_place (a ∷ m) d (suc x) (suc y) f g e k n = ap suc (one_place m d.1 x y f g e k n)

pub some_at : (m : Module) (k : ℕ) → k < length m → (g : Function) × (slice_get m k ≡ Some g)
some_at [] k l = absurd (omega (arith, l))
some_at (f ∷ m) zero l = (f, refl)
some_at (f ∷ m) (suc k) l = some_at m k (omega (arith, l))

number_found : (m : Module) (n : FuncName) (k : ℕ) → number_of m n ≡ Some k → (g : Function) × (slice_get m k ≡ Some g) × (g.name ≡ n)
number_found m n k e =
    let p = place_cases n m (Some k) (sym e) in
    let s = some_at m k p.0 in
    (s.0, s.1, find_name m n s.0 (p.1 ∙ s.1))

pub number_is : (m : Module) → DifferentNames m → (x : ℕ) (f : Function) → slice_get m x ≡ Some f → number_of m f.name ≡ Some x
number_is m d x f e = go (number_of m f.name) refl
  where
    go : (o : Option ℕ) → number_of m f.name ≡ o → number_of m f.name ≡ Some x
    go None q = absurd (not_none m x f e (place_cases f.name m None (sym q)))
    go (Some k) q = let r = number_found m f.name k q in q ∙ ap (λ (z : ℕ). Some z) (one_place m d k x r.0 f r.1 e r.2)

calls_by : Option Function → List FuncName
calls_by o = elim o [ None ↦ [] | Some f ↦ called_names f f.blocks ]

calls_are : (m : Module) → DifferentNames m → (x : ℕ) (f : Function) → slice_get m x ≡ Some f → calls_of m f.name ≡ called_names f f.blocks
unfolding calls_by
calls_are m d x f e = ap calls_by ((place_cases f.name m (Some x) (sym (number_is m d x f e))).1 ∙ e)

-- ---- the calls of one function

pub has_in : (k : ℕ) (ks : List ℕ) → has k ks ≡ true → In k ks
has_in k [] h = absurd cc
has_in k (x ∷ ks) h = elim (or_cases (nat_eq k x) (has k ks) h) [ inl q ↦ inl (eqb-true k x q) | inr q ↦ inr (has_in k ks q) ]

put_in : (k n : ℕ) (ks : List ℕ) → In k ks ⊎ (k ≡ n) → In k (put_new ks n)
put_in k n ks i = go (has n ks) refl i
  where
    go : (c : Bool) → has n ks ≡ c → In k ks ⊎ (k ≡ n) → In k (if c then ks else ks ++ (n ∷ []))
    go true q (inl i) = i
    go true q (inr e) = subst (λ z. In z ks) (sym e) (has_in n ks q)
    go false q (inl i) = in_left k ks (n ∷ []) i
    go false q (inr e) = in_right k ks (n ∷ []) (inl e)

in_put : (k n : ℕ) (ks : List ℕ) → In k (put_new ks n) → In k ks ⊎ (k ≡ n)
in_put k n ks i = go (has n ks) i
  where
    go : (c : Bool) → In k (if c then ks else ks ++ (n ∷ [])) → In k ks ⊎ (k ≡ n)
    go true i = inl i
    go false i = elim (in_cases k ks (n ∷ []) i) [ inl j ↦ inl j | inr j ↦ elim j [ inl e ↦ inr e | inr z ↦ elim z [ ] ] ]

once_in : (ns ks : List ℕ) (k : ℕ) → In k ks ⊎ In k ns → In k (each_once ks ns)
once_in [] ks k (inl i) = i
once_in [] ks k (inr i) = elim i [ ]
once_in (n ∷ ns) ks k (inl i) = once_in ns (put_new ks n) k (inl (put_in k n ks (inl i)))
once_in (n ∷ ns) ks k (inr (inl e)) = once_in ns (put_new ks n) k (inl (put_in k n ks (inr e)))
once_in (n ∷ ns) ks k (inr (inr i)) = once_in ns (put_new ks n) k (inr i)

in_once : (ns ks : List ℕ) (k : ℕ) → In k (each_once ks ns) → In k ks ⊎ In k ns
in_once [] ks k i = inl i
in_once (n ∷ ns) ks k i = elim (in_once ns (put_new ks n) k i) [ inl j ↦ elim (in_put k n ks j) [ inl a ↦ inl a | inr e ↦ inr (inl e) ] | inr j ↦ inr (inr j) ]

numbers_in : (m : Module) (ns : List FuncName) (n : FuncName) (k : ℕ) → In n ns → number_of m n ≡ Some k → In k (numbers_of m ns)
numbers_in m [] n k i e = elim i [ ]
numbers_in m (a ∷ ns) n k (inl q) e = here (number_of m a) (ap (number_of m) (sym q) ∙ e)
  where
    here : (o : Option ℕ) → o ≡ Some k → In k (with_number o (numbers_of m ns))
    here None q = absurd cc
    here (Some j) q = let s : j ≡ k = cc in inl (sym s)
numbers_in m (a ∷ ns) n k (inr i) e = there (number_of m a) (numbers_in m ns n k i e)
  where
    there : (o : Option ℕ) → In k (numbers_of m ns) → In k (with_number o (numbers_of m ns))
    there None i = i
    there (Some j) i = inr i

in_numbers : (m : Module) (ns : List FuncName) (k : ℕ) → In k (numbers_of m ns) → (n : FuncName) × In n ns × (number_of m n ≡ Some k)
in_numbers m [] k i = elim i [ ]
in_numbers m (a ∷ ns) k i = go (number_of m a) refl i (in_numbers m ns k)
  where
    go : (o : Option ℕ) → number_of m a ≡ o → In k (with_number o (numbers_of m ns)) → (In k (numbers_of m ns) → (n : FuncName) × In n ns × (number_of m n ≡ Some k)) → (n : FuncName) × In n (a ∷ ns) × (number_of m n ≡ Some k)
    go None q i ih = let r = ih i in (r.0, inr r.1, r.2)
    go (Some j) q (inl e) ih = (a, inl refl, q ∙ ap (λ (z : ℕ). Some z) (sym e))
    go (Some j) q (inr i) ih = let r = ih i in (r.0, inr r.1, r.2)

calls_at : (g : Function → List ℕ) (m : Module) (x : ℕ) (f : Function) → slice_get m x ≡ Some f → get_or (map g m) x [] ≡ g f
calls_at g [] x f e = absurd cc
calls_at g (a ∷ m) zero f e = let s : a ≡ f = cc in ap g s
calls_at g (a ∷ m) (suc x) f e = calls_at g m x f e

-- what is called by numbers is a function that is called by its name
pub is_called : (m : Module) → DifferentNames m → (x y : ℕ) (f : Function) → slice_get m x ≡ Some f → In y (called (graph_of m) x) → (h : Function) × (slice_get m y ≡ Some h) × In h.name (calls_of m f.name)
is_called m d x y f e i =
    let r = in_numbers m (called_names f f.blocks) y (elim (in_once (numbers_of m (called_names f f.blocks)) [] y (subst (In y) (calls_at (calls_in m) m x f e) i)) [ inl z ↦ elim z [ ] | inr j ↦ j ]) in
    let s = number_found m r.0 y r.2 in
    (s.0, s.1, subst (In s.0.name) (sym (calls_are m d x f e)) (subst (λ z. In z (called_names f f.blocks)) (sym s.2) r.1))

by_name : (m : Module) → DifferentNames m → (x y : ℕ) (f h : Function) → slice_get m x ≡ Some f → slice_get m y ≡ Some h → In h.name (calls_of m f.name) → In y (called (graph_of m) x)
by_name m d x y f h e k i =
    subst (In y) (sym (calls_at (calls_in m) m x f e))
    (once_in (numbers_of m (called_names f f.blocks)) [] y (inr (numbers_in m (called_names f f.blocks) h.name y (subst (In h.name) (calls_are m d x f e) i) (number_is m d y h k))))

same_function : (m : Module) (y : ℕ) (f h : Function) → slice_get m y ≡ Some f → slice_get m y ≡ Some h → f ≡ h
same_function m y f h e k = cc

pub calls_by_numbers : CallsByNumbers
calls_by_numbers m d x y f h e k =
    ((λ i. let r = is_called m d x y f e i in subst (λ (z : Function). In z.name (calls_of m f.name)) (same_function m y r.0 h r.1 k) r.2), by_name m d x y f h e k)

pub each_of : (n : ℕ) (ks : List ℕ) → ((k : ℕ) → In k ks → k < n) → Below n ks
each_of n [] h = tt
each_of n (k ∷ ks) h = (h k (inl refl), each_of n ks (λ j i. h j (inr i)))

calls_below : (m : Module) (f : Function) → Below (length m) (calls_in m f)
calls_below m f = each_of (length m) (calls_in m f) (λ k i.
    let j : In k (numbers_of m (called_names f f.blocks)) = elim (in_once (numbers_of m (called_names f f.blocks)) [] k i) [ inl z ↦ elim z [ ] | inr j ↦ j ] in
    let r = in_numbers m (called_names f f.blocks) k j in
    (place_cases r.0 m (Some k) (sym r.2)).0)

each_below : (g : Function → List ℕ) (n : ℕ) → ((f : Function) → Below n (g f)) → (m : Module) → Each (Below n) (map g m)
each_below g n h [] = tt
each_below g n h (f ∷ m) = (h f, each_below g n h m)

pub graph_in_range : (m : Module) → InRange (graph_of m)
graph_in_range m = subst (λ (n : ℕ). Each (Below n) (graph_of m)) (sym (length-map m (calls_in m))) (each_below (calls_in m) (length m) (calls_below m) m)

-- ---- reach

pub to_names : (m : Module) → DifferentNames m → (x y : ℕ) (f : Function) → slice_get m x ≡ Some f → Reaches (graph_of m) x y → (h : Function) × (slice_get m y ≡ Some h) × ((f.name ≡ h.name) ⊎ (reaches m f.name h.name ≡ true))
to_names m d x y f e itself = (f, e, inl refl)
to_names m d x y f e (by_call {y = w} i r) =
    let u = is_called m d x w f e i in
    let h = to_names m d w y u.0 u.1 r in
    (h.0, h.1, inr (elim h.2 [ inl q ↦ call_reaches m f.name h.0.name (subst (λ z. In z (calls_of m f.name)) q u.2) | inr q ↦ reaches_on m f.name u.0.name h.0.name (call_reaches m f.name u.0.name u.2) q ]))

-- what calls something is a function
caller : (m : Module) (a b : FuncName) → In b (calls_of m a) → (x : ℕ) × (f : Function) × (slice_get m x ≡ Some f) × (f.name ≡ a)
unfolding calls_by
caller m a b i = go (number_of m a) refl
  where
    go : (o : Option ℕ) → number_of m a ≡ o → (x : ℕ) × (f : Function) × (slice_get m x ≡ Some f) × (f.name ≡ a)
    go None q = elim (subst (In b) (ap calls_by (place_cases a m None (sym q))) i) [ ]
    go (Some k) q = let r = number_found m a k q in (k, r.0, r.1, r.2)

begins : (m : Module) (a b : FuncName) → Leads m a b → (c : FuncName) × In c (calls_of m a)
begins m a b (calls i) = (b, i)
begins m a b (by_way {y = z} i l) = (z, i)

to_numbers : (m : Module) → DifferentNames m → (a b : FuncName) → Leads m a b → (x y : ℕ) (f h : Function) → slice_get m x ≡ Some f → f.name ≡ a → slice_get m y ≡ Some h → h.name ≡ b → Reaches (graph_of m) x y
to_numbers m d a b (calls i) x y f h e p k q =
    by_call (by_name m d x y f h e k (subst (λ z. In z (calls_of m f.name)) (sym q) (subst (λ z. In b (calls_of m z)) (sym p) i))) itself
to_numbers m d a b (by_way {y = z} i l) x y f h e p k q =
    let c = begins m z b l in
    let u = caller m z c.0 c.1 in
    by_call (by_name m d x u.0 f u.1 e u.2 (subst (λ w. In w (calls_of m f.name)) (sym u.3) (subst (λ w. In z (calls_of m w)) (sym p) i))) (to_numbers m d z b l u.0 y u.1 h u.2 u.3 k q)

pub pieces_by_numbers : PiecesByNumbers
pieces_by_numbers m d x y f h e k = (there, back)
  where
    there : one_piece m f.name h.name ≡ true → Reaches (graph_of m) x y × Reaches (graph_of m) y x
    there p = elim (mutual_of m f.name h.name p) [
      | inl q ↦ let s = one_place m d x y f h e k q in (subst (Reaches (graph_of m) x) s itself, subst (λ z. Reaches (graph_of m) z x) s itself)
      | inr q ↦ (to_numbers m d f.name h.name ((reach_is_by_lists m f.name h.name).0 q.0) x y f h e refl k refl, to_numbers m d h.name f.name ((reach_is_by_lists m h.name f.name).0 q.1) y x h f k refl e refl)
    ]

    by : (f.name ≡ h.name) ⊎ (reaches m f.name h.name ≡ true) → (h.name ≡ f.name) ⊎ (reaches m h.name f.name ≡ true) → one_piece m f.name h.name ≡ true
    by (inl p) q = of_mutual m f.name h.name (inl p)
    by (inr p) (inl q) = of_mutual m f.name h.name (inl (sym q))
    by (inr p) (inr q) = of_mutual m f.name h.name (inr (p, q))

    back : Reaches (graph_of m) x y → Reaches (graph_of m) y x → one_piece m f.name h.name ≡ true
    back r s =
        let u = to_names m d x y f e r in
        let v = to_names m d y x h k s in
        by (subst (λ (z : Function). (f.name ≡ z.name) ⊎ (reaches m f.name z.name ≡ true)) (same_function m y u.0 h u.1 k) u.2) (subst (λ (z : Function). (h.name ≡ z.name) ⊎ (reaches m h.name z.name ≡ true)) (same_function m x v.0 f v.1 e) v.2)
