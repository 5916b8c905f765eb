-- The functions in the order in use: each behind its callees in other pieces.
use Rattle.std.proofs.Common.{◌≡◌, ◌⊎◌, inl, inr, ℕ, zero, suc, ◌<◌, List, [], ◌∷◌, length, Option, Some, None, true}
use Rattle.std.proofs.Common.{refl, sym, ap, ◌∙◌, subst, arith}
use Rattle.std.specs.Prelude.{slice_get, slice_index_or}
use Rattle.std.proofs.lemmas.Option.{slice_get-get_or}
use Rattle.ir_core.specs.declared.names.FuncName.{FuncName}
use Rattle.ir_core.specs.Module.{Function, Module}
use Rattle.ir_core.specs.Lookup.{find_function}
use Rattle.ir_core.specs.Lists.{In}
use Rattle.ir_core.specs.WellFormed.{DifferentNames}
use Rattle.ir_core.proofs.Indexing.{place_cases}
use Rattle.call_graph.specs.Calls.{number_of, with_number, numbers_of}
use Rattle.call_graph.specs.Order.{CalleesBefore, names_of, bottom_up}
use Rattle.call_graph.specs.Orders.{IsOrderOf}
use Rattle.call_graph.specs.declared.ordering.Order.{Order}
use Rattle.call_graph.specs.Reach.{apart, called_names, calls_of}
use Rattle.call_graph.proofs.Numbers.{number_is, some_at}
use Rattle.call_graph.proofs.Placing.{order_is_bottom_up}
use Rattle.inline_outcomes.proofs.Functions.{function_name}
use Rattle.inline_finish.specs.Bodies.{HasCallees}
use Rattle.inline_finish.specs.declared.bodies.Built.{Built}
use Rattle.module_pass.specs.Places.{IsFilled, filled}
use Rattle.module_pass.proofs.Filled.{in_filled}
use Rattle.call_graph.proofs.Bridging.{name_in}

-- ---- names and numbers

-- the function that a name has, at its number
numbered : (m : Module) (x : FuncName) (k : ℕ) → number_of m x ≡ Some k
    → (k < length m) × (f : Function) × (slice_get m k ≡ Some f) × (find_function x m ≡ Some f) × (f.name ≡ x)
numbered m x k e =
    let q = place_cases x m (Some k) (sym e) in
    let s = some_at m k q.0 in
    let h = q.1 ∙ s.1 in (q.0, s.0, s.1, h, function_name x m s.0 h)

calls_by : Option Function → List FuncName
calls_by o = elim o [ None ↦ [] | Some f ↦ called_names f f.blocks ]

calls_are :
    (m : Module) (x : FuncName) (f : Function) → find_function x m ≡ Some f → calls_of m x ≡ called_names f f.blocks
unfolding calls_by
calls_are m x f e = ap calls_by e

-- ---- the numbers of names

module _ (m : Module) where
  -- each is the number of a function
  number_below : (ns : List FuncName) (t k : ℕ) → slice_get (numbers_of m ns) t ≡ Some k → k < length m
  number_below [] t k e = absurd cc
  number_below (x ∷ ns) t k e = go (number_of m x) refl t e (λ u. number_below ns u k)
    where
      go :
          (o : Option ℕ) → number_of m x ≡ o → (t : ℕ) → slice_get (with_number o (numbers_of m ns)) t ≡ Some k
          → ((u : ℕ) → slice_get (numbers_of m ns) u ≡ Some k → k < length m) → k < length m
      go None q t e rest = rest t e
      go (Some j) q zero e rest = let s : j ≡ k = cc in subst (λ (z : ℕ). z < length m) s (numbered m x j q).0
      go (Some j) q (suc t) e rest = rest t e

  -- there is a number of a name among them
  abbrev Stands : List ℕ → ℕ → Type 0
  Stands ks k = (t : ℕ) × (slice_get ks t ≡ Some k)

  number_there :
      (ns : List FuncName) (y : FuncName) (k : ℕ) → In y ns → number_of m y ≡ Some k → Stands (numbers_of m ns) k
  number_there [] y k i e = elim i [ ]
  number_there (x ∷ ns) y k i e = go (number_of m x) refl i (λ j. number_there ns y k j e)
    where
      go :
          (o : Option ℕ) → number_of m x ≡ o → In y (x ∷ ns) → (In y ns → Stands (numbers_of m ns) k)
          → Stands (with_number o (numbers_of m ns)) k
      go None q (inl s) rest = absurd (let h = ap (number_of m) s in cc)
      go None q (inr i) rest = rest i
      go (Some j) q (inl s) rest =
          let h = ap (number_of m) s in let same : j ≡ k = cc in (0, ap (λ (z : ℕ). Some z) same)
      go (Some j) q (inr i) rest = let r = rest i in (suc r.0, r.1)

  -- before a place of the list
  abbrev Before : List ℕ → ℕ → ℕ → Type 0
  Before ks t j = (s : ℕ) × (s < t) × (slice_get ks s ≡ Some j)

  -- the function k, that calls y, which is in another piece and has the number j
  module _
      (k : ℕ) (f : Function) (is : slice_get m k ≡ Some f) (y : FuncName) (calls : In y (called_names f f.blocks))
      (other : apart m f.name y ≡ true) (j : ℕ) (e : number_of m y ≡ Some j) where
    callee_before :
        (before ns : List FuncName) (x : FuncName) → CalleesBefore m before (x ∷ ns) → number_of m x ≡ Some k
        → In y before
    callee_before before ns x c q =
        let h = numbered m x k q in
        let g : h.1 ≡ f = let a = h.2 in cc in
        let found : find_function x m ≡ Some f = h.3 ∙ ap (λ (z : Function). Some z) g in
        let named : f.name ≡ x = ap (λ (z : Function). z.name) (sym g) ∙ h.4 in
        let u = numbered m y j e in
        c.1 y (subst (In y) (sym (calls_are m x f found)) calls)
        (subst (λ (z : FuncName). apart m z y ≡ true) named other)
        (subst (λ (z : FuncName). In z (names_of m)) u.4 (name_in m j u.1 u.2))

    -- y comes before it
    callee_first :
        (before ns : List FuncName) → CalleesBefore m before ns → (t : ℕ) → slice_get (numbers_of m ns) t ≡ Some k
        → In y before ⊎ Before (numbers_of m ns) t j
    callee_first before [] c t at = absurd cc
    callee_first before (x ∷ ns) c t at =
        go (number_of m x) refl t at (λ u h. callee_first (x ∷ before) ns c.2 u h)
      where
        go :
            (o : Option ℕ) → number_of m x ≡ o → (t : ℕ) → slice_get (with_number o (numbers_of m ns)) t ≡ Some k
            → ((u : ℕ) → slice_get (numbers_of m ns) u ≡ Some k
            → In y (x ∷ before) ⊎ Before (numbers_of m ns) u j)
            → In y before ⊎ Before (with_number o (numbers_of m ns)) t j
        go None q t at rest = elim (rest t at) [
          | inl (inl same) ↦ absurd (let h = ap (number_of m) same in cc)
          | inl (inr i) ↦ inl i
          | inr r ↦ inr r
        ]
        go (Some n) q zero at rest =
            let s : n ≡ k = cc in
            inl (callee_before before ns x c (q ∙ ap (λ (z : ℕ). Some z) s))
        go (Some n) q (suc t) at rest = elim (rest t at) [
          | inl (inl same) ↦ (let h = ap (number_of m) same in let s : n ≡ j = cc in
              inr (0, omega arith, ap (λ (z : ℕ). Some z) s))
          | inl (inr i) ↦ inl i
          | inr r ↦ inr (suc r.0, (let l = r.1 in omega arith), r.2)
        ]

  -- ---- no number stands twice

  one_name : (x y : FuncName) (k : ℕ) → number_of m x ≡ Some k → number_of m y ≡ Some k → x ≡ y
  one_name x y k a b =
      let r = numbered m x k a in let s = numbered m y k b in
      let same : r.1 ≡ s.1 = let e = r.2 in let h = s.2 in cc in
      sym r.4 ∙ (ap (λ (f : Function). f.name) same ∙ s.4)

  -- the number of a name that came before does not come again
  not_again :
      (before ns : List FuncName) → CalleesBefore m before ns → (y : FuncName) (k : ℕ) → In y before
      → number_of m y ≡ Some k → (t : ℕ) → slice_get (numbers_of m ns) t ≡ Some k → ⊥
  not_again before [] c y k i e t at = absurd cc
  not_again before (x ∷ ns) c y k i e t at =
      go (number_of m x) refl t at (λ u h. not_again (x ∷ before) ns c.2 y k (inr i) e u h)
    where
      go :
          (o : Option ℕ) → number_of m x ≡ o → (t : ℕ) → slice_get (with_number o (numbers_of m ns)) t ≡ Some k
          → ((u : ℕ) → slice_get (numbers_of m ns) u ≡ Some k → ⊥) → ⊥
      go None q t at rest = rest t at
      go (Some n) q zero at rest =
          let s : n ≡ k = cc in
          let same = one_name x y k (q ∙ ap (λ (z : ℕ). Some z) s) e in
          c.0 (subst (λ (z : FuncName). In z before) (sym same) i)
      go (Some n) q (suc t) at rest = rest t at

  one_place_in :
      (before ns : List FuncName) → CalleesBefore m before ns → (s t k : ℕ) → slice_get (numbers_of m ns) s ≡ Some k
      → slice_get (numbers_of m ns) t ≡ Some k → s ≡ t
  one_place_in before [] c s t k a b = absurd cc
  one_place_in before (x ∷ ns) c s t k a b =
      go (number_of m x) refl s t a b (λ u v d e. one_place_in (x ∷ before) ns c.2 u v k d e)
    where
      again : (n : ℕ) → number_of m x ≡ Some n → n ≡ k → (t : ℕ) → slice_get (numbers_of m ns) t ≡ Some k → ⊥
      again n q e t at = not_again (x ∷ before) ns c.2 x k (inl refl) (q ∙ ap (λ (z : ℕ). Some z) e) t at

      go :
          (o : Option ℕ) → number_of m x ≡ o → (s t : ℕ) → slice_get (with_number o (numbers_of m ns)) s ≡ Some k
          → slice_get (with_number o (numbers_of m ns)) t ≡ Some k
          → ((u v : ℕ) → slice_get (numbers_of m ns) u ≡ Some k → slice_get (numbers_of m ns) v ≡ Some k → u ≡ v)
          → s ≡ t
      go None q s t a b rest = rest s t a b
      go (Some n) q zero zero a b rest = refl
      go (Some n) q zero (suc t) a b rest = let e : n ≡ k = cc in absurd (again n q e t b)
      go (Some n) q (suc s) zero a b rest = let e : n ≡ k = cc in absurd (again n q e s a)
      go (Some n) q (suc s) (suc t) a b rest = ap suc (rest s t a b)

-- ---- an order

pub item_at :
    (xs list : List ℕ) → xs ≡ list → (t : ℕ) → t < length xs → slice_get list t ≡ Some (slice_index_or xs t 0)
item_at xs list same t l = ap (λ (ks : List ℕ). slice_get ks t) (sym same) ∙ slice_get-get_or xs t 0 l

module _ (m : Module) (d : DifferentNames m) (order : Order) (is : IsOrderOf m order) where
  by_list : (t k : ℕ) → slice_get order.list t ≡ Some k → slice_get (numbers_of m (bottom_up m)) t ≡ Some k
  by_list t k e = sym (ap (λ (l : List ℕ). slice_get l t) is.list) ∙ e

  pub below : (t k : ℕ) → slice_get order.list t ≡ Some k → k < length m
  below t k e = number_below m (bottom_up m) t k (by_list t k e)

  -- each function has its turn
  pub turn_of : (k : ℕ) → k < length m → (t : ℕ) × (slice_get order.list t ≡ Some k)
  turn_of k l =
      let s = some_at m k l in
      let i = (order_is_bottom_up m d).all s.0.name (name_in m k s.0 s.1) in
      let r = number_there m (bottom_up m) s.0.name k i (number_is m d k s.0 s.1) in
      (r.0, ap (λ (l : List ℕ). slice_get l r.0) is.list ∙ r.1)

  -- and it has one
  pub one_turn : (s t k : ℕ) → slice_get order.list s ≡ Some k → slice_get order.list t ≡ Some k → s ≡ t
  one_turn s t k a b =
      one_place_in m [] (bottom_up m) (order_is_bottom_up m d).callees_before s t k (by_list s k a) (by_list t k b)

  -- where the places of the first t functions are filled, there is each callee in another piece of the next one
  pub has_callees :
      (places : List (Option Built)) (t k : ℕ) (f : Function) → slice_get order.list t ≡ Some k → slice_get m k ≡ Some f
      → ((s n : ℕ) → s < t → slice_get order.list s ≡ Some n → IsFilled places n) → HasCallees m f (filled places)
  has_callees places t k f e at done y calls other j n =
      let before = (order_is_bottom_up m d).callees_before in
      elim (callee_first m k f at y calls other j n [] (bottom_up m) before t (by_list t k e)) [
        | inl i ↦ elim i [ ]
        | inr r ↦ in_filled places j (done r.0 j r.1 (ap (λ (l : List ℕ). slice_get l r.0) is.list ∙ r.2))
      ]
