-- The order in use by the functions' numbers.
use Rattle.std.proofs.Common.{◌≡◌, ◌≢◌, inl, inr, ℕ, zero, suc, ◌<◌, List, [], ◌∷◌, length, Option, Some, cond, refl, sym, ap, ◌∙◌, subst, arith, eq-eqb, ne_eqb}
use Rattle.std.specs.Prelude.{slice_get}
use Rattle.std.proofs.lemmas.Bool.{cases_eq}
use Rattle.std.proofs.lemmas.Option.{slice_get_within}
use Rattle.ir_core.specs.declared.names.FuncName.{FuncName}
use Rattle.ir_core.specs.Module.{Function, Module}
use Rattle.ir_core.specs.Lookup.{and_then, find_function}
use Rattle.ir_core.specs.Lists.{In}
use Rattle.ir_core.specs.WellFormed.{DifferentNames}
use Rattle.ir_core.proofs.Indexing.{place_cases}
use Rattle.ir_core.proofs.Gets.{in_get}
use Rattle.call_graph.specs.Calls.{number_of, with_number, numbers_of}
use Rattle.call_graph.specs.Order.{BottomUp, CalleesBefore, names_of, bottom_up}
use Rattle.call_graph.proofs.Numbers.{number_is, some_at, one_place}
use Rattle.call_graph.proofs.Placing.{order_is_bottom_up}
use Rattle.publish_table.specs.Jobs.{function_of}
use Rattle.publish_table.specs.Plays.{count}
use Rattle.worker_driver.specs.Plans.{IsListing}
use Rattle.worker_driver.proofs.Sums.{length_all, spot_of, one_spot}
use Rattle.call_graph.proofs.Bridging.{name_in, in_name}

pub same_item : {A : Type 0} (l : List A) (k : ℕ) (a b : A) → slice_get l k ≡ Some a → slice_get l k ≡ Some b → a ≡ b
same_item l k a b e h = cc

-- each of the names is that of a function
abbrev pub AllIn : Module → List FuncName → Type 0
AllIn m ns = (x : FuncName) → In x ns → In x (names_of m)

-- the functions in the order in use
abbrev pub list_of : Module → List ℕ
list_of m = numbers_of m (bottom_up m)

module _ (m : Module) (d : DifferentNames m) where
  first_number : (n : FuncName) (ns : List FuncName) → In n (names_of m)
      → (k : ℕ) × (f : Function) × (slice_get m k ≡ Some f) × (f.name ≡ n) × (numbers_of m (n ∷ ns) ≡ k ∷ numbers_of m ns)
  first_number n ns i = let r = in_name m n i in
      (r.0, r.1, r.2, r.3, ap (λ o. with_number o (numbers_of m ns)) (subst (λ (x : FuncName). number_of m x ≡ Some r.0) r.3 (number_is m d r.0 r.1 r.2)))

  count_absent : (k : ℕ) (f : Function) → slice_get m k ≡ Some f → (before ns : List FuncName) → AllIn m ns
      → CalleesBefore m before ns → In f.name before → count k (numbers_of m ns) ≡ 0
  count_absent k f e before [] all c i = refl
  count_absent k f e before (x ∷ ns) all c i =
      let r = first_number x ns (all x (inl refl)) in
      let other : r.0 ≢ k = (λ q. let s = same_item m k r.1 f (subst (λ (z : ℕ). slice_get m z ≡ Some r.1) q r.2) e in
      c.0 (subst (λ (y : FuncName). In y before) (sym (ap (λ (z : Function). z.name) s) ∙ r.3) i)) in
      let h = count_absent k f e (x ∷ before) ns (λ y j. all y (inr j)) c.2 (inr i) in
      let a = ap {B = ℕ} (λ b. cond b 1 0) (ne_eqb r.0 k other) in
      let o = ap (count k) r.4 in omega arith

  count_once : (k : ℕ) (f : Function) → slice_get m k ≡ Some f → (before ns : List FuncName) → AllIn m ns
      → CalleesBefore m before ns → In f.name ns → count k (numbers_of m ns) ≡ 1
  count_once k f e before [] all c i = elim i [ ]
  count_once k f e before (x ∷ ns) all c i =
      let r = first_number x ns (all x (inl refl)) in let o = ap (count k) r.4 in
      elim (cases_eq r.0 k) [
        | inl q ↦ (let s = same_item m k r.1 f (subst (λ (z : ℕ). slice_get m z ≡ Some r.1) q r.2) e in
            let h = count_absent k f e (x ∷ before) ns (λ y j. all y (inr j)) c.2 (inl (sym (ap (λ (z : Function). z.name) s) ∙ r.3)) in
            let a = ap {B = ℕ} (λ b. cond b 1 0) (eq-eqb r.0 k q) in omega arith)
        | inr q ↦ (let h = count_once k f e (x ∷ before) ns (λ y j. all y (inr j)) c.2
            (elim i [ inl p ↦ absurd (q (one_place m d r.0 k r.1 f r.2 e (r.3 ∙ sym p))) | inr j ↦ j ]) in
            let a = ap {B = ℕ} (λ b. cond b 1 0) (ne_eqb r.0 k q) in omega arith)
      ]

  numbers_at : (ns : List FuncName) → AllIn m ns → (t k : ℕ) → slice_get (numbers_of m ns) t ≡ Some k
      → (f : Function) × (slice_get m k ≡ Some f) × (slice_get ns t ≡ Some f.name)
  numbers_at [] all t k e = absurd cc
  numbers_at (x ∷ ns) all zero k e =
      let r = first_number x ns (all x (inl refl)) in
      let h : slice_get (r.0 ∷ numbers_of m ns) 0 ≡ Some k = subst (λ (l : List ℕ). slice_get l 0 ≡ Some k) r.4 e in
      let q : r.0 ≡ k = cc in
      (r.1, subst (λ (z : ℕ). slice_get m z ≡ Some r.1) q r.2, ap (λ (z : FuncName). Some z) (sym r.3))
  numbers_at (x ∷ ns) all (suc t) k e =
      let r = first_number x ns (all x (inl refl)) in
      numbers_at ns (λ y j. all y (inr j)) t k (subst (λ (l : List ℕ). slice_get l (suc t) ≡ Some k) r.4 e)

  -- a function is found by its name
  pub found : (k : ℕ) (f : Function) → slice_get m k ≡ Some f → find_function f.name m ≡ Some f
  found k f e = (place_cases f.name m (Some k) (sym (number_is m d k f e))).1 ∙ e

  bottom : BottomUp m (bottom_up m)
  bottom = order_is_bottom_up m d

  -- the function that a ticket stands for
  pub at_ticket : (t k : ℕ) → slice_get (list_of m) t ≡ Some k
      → (f : Function) × (slice_get m k ≡ Some f) × (slice_get (bottom_up m) t ≡ Some f.name) × (function_of m t ≡ Some f)
  at_ticket t k e = let r = numbers_at (bottom_up m) bottom.functions t k e in
      (r.0, r.1, r.2, ap (λ (o : Option FuncName). and_then o (λ n. find_function n m)) r.2 ∙ found k r.0 r.1)

  pub all_below : (k : ℕ) → In k (list_of m) → k < length m
  all_below k i = let r = in_get (list_of m) k i in let s = at_ticket r.0 k r.1 in slice_get_within m k s.0 s.1

  pub once : (k : ℕ) → k < length m → count k (list_of m) ≡ 1
  once k l = let s = some_at m k l in
      count_once k s.0 s.1 [] (bottom_up m) bottom.functions bottom.callees_before (bottom.all s.0.name (name_in m k s.0 s.1))

  pub many : length (list_of m) ≡ length m
  many = length_all (length m) (list_of m) all_below once

  pub listing : IsListing (list_of m)
  listing = record {
    below = λ t k e. let s = at_ticket t k e in subst (λ (n : ℕ). k < n) (sym many) (slice_get_within m k s.0 s.1);
    once = λ s t k a b. let r = at_ticket s k a in let o = once k (slice_get_within m k r.0 r.1) in one_spot k (list_of m) s t a b (omega (arith, o));
  }

  -- each function has a ticket
  pub ticket_of : (k : ℕ) → k < length m → (t : ℕ) × (slice_get (list_of m) t ≡ Some k) × (t < length m)
  ticket_of k l = let o = once k l in let r = spot_of k (list_of m) (omega (arith, o)) in
      (r.0, r.1, subst (λ (n : ℕ). r.0 < n) many (slice_get_within (list_of m) r.0 k r.1))
