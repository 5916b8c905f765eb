-- Places with finished bodies in them.
use Rattle.std.proofs.Common.{◌≡◌, inl, inr, ℕ, zero, suc, ◌+◌, ◌<◌, List, [], ◌∷◌, length, set}
use Rattle.std.proofs.Common.{Option, Some, None, IfSome, refl, sym, ap, ◌∙◌, subst, arith}
use Rattle.std.specs.Prelude.{slice_get, slice_index_or, IsSomeAnd}
use Rattle.std.proofs.lemmas.Bool.{cases_eq}
use Rattle.std.proofs.lemmas.List.{length-set}
use Rattle.std.proofs.lemmas.Option.{slice_get_within, slice_get_read}
use Rattle.ir_core.specs.Module.{Function, Module}
use Rattle.ir_core.specs.Lists.{In}
use Rattle.ir_core.proofs.Order.{get_set_same, get_set_other}
use Rattle.call_graph.proofs.Numbers.{some_at}
use Rattle.ir_semantics.specs.Canon.{SameFunction}
use Rattle.inline_pass.specs.Finished.{finished}
use Rattle.inline_finish.specs.declared.bodies.Built.{Built}
use Rattle.inline_finish.specs.declared.bodies.Policy.{Policy}
use Rattle.inline_finish.specs.Bodies.{IsBodyOf, AreCountsOf}
use Rattle.inline_finish.specs.Building.{policy_of, AreCounts, IsBuilt}
use Rattle.module_pass.specs.Places.{IsBuiltFor, AreBuilt, IsFilled, filled_from, filled}

-- ---- options

some_is : {A : Type 0} (P : A → Type 0) (o : Option A) (a : A) → o ≡ Some a → IfSome o P → IsSomeAnd o P
some_is P None a e h = absurd cc
some_is P (Some b) a e h = h

some_with : {A : Type 0} (P Q : A → Type 0) (o : Option A) → ((a : A) → P a → Q a) → IsSomeAnd o P → IsSomeAnd o Q
some_with P Q None f h = h
some_with P Q (Some a) f h = f a h

pub if_some : {A : Type 0} (P : A → Type 0) (o : Option A) → ((a : A) → o ≡ Some a → P a) → IfSome o P
if_some P None h = tt
if_some P (Some a) h = h a refl

-- ---- which places are filled

filled_at :
    (k : ℕ) (places : List (Option Built)) (n : ℕ) → In n (filled_from k places)
    → (j : ℕ) × (b : Built) × (n ≡ k + j) × (slice_get places j ≡ Some (Some b))
filled_at k [] n i = elim i [ ]
filled_at k (None ∷ places) n i =
    let r = filled_at (suc k) places n i in (suc r.0, r.1, (let e = r.2 in omega arith), r.3)
filled_at k (Some b ∷ places) n (inl e) = (0, b, omega (arith, e), refl)
filled_at k (Some b ∷ places) n (inr i) =
    let r = filled_at (suc k) places n i in (suc r.0, r.1, (let e = r.2 in omega arith), r.3)

at_filled :
    (k : ℕ) (places : List (Option Built)) (j : ℕ) (b : Built) → slice_get places j ≡ Some (Some b)
    → In (k + j) (filled_from k places)
at_filled k [] j b e = absurd cc
at_filled k (None ∷ places) zero b e = absurd cc
at_filled k (None ∷ places) (suc j) b e =
    let q : suc k + j ≡ k + suc j = omega arith in
    subst (λ (n : ℕ). In n (filled_from (suc k) places)) q (at_filled (suc k) places j b e)
at_filled k (Some a ∷ places) zero b e = inl (omega arith)
at_filled k (Some a ∷ places) (suc j) b e =
    let q : suc k + j ≡ k + suc j = omega arith in
    inr (subst (λ (n : ℕ). In n (filled_from (suc k) places)) q (at_filled (suc k) places j b e))

pub is_filled : (places : List (Option Built)) (n : ℕ) → In n (filled places) → IsFilled places n
is_filled places n i =
    let r = filled_at 0 places n i in
    let q : r.0 ≡ n = let e = r.2 in omega arith in
    (r.1, subst (λ (z : ℕ). slice_get places z ≡ Some (Some r.1)) q r.3)

pub in_filled : (places : List (Option Built)) (n : ℕ) → IsFilled places n → In n (filled places)
in_filled places n f =
    let q : 0 + n ≡ n = omega arith in
    subst (λ (z : ℕ). In z (filled places)) q (at_filled 0 places n f.0 f.1)

-- what was read in a filled place
pub read_filled :
    (places : List (Option Built)) (k : ℕ) (now : Option Built) → IsFilled places k → now ≡ slice_index_or places k now
    → slice_get places k ≡ Some now
read_filled places k now f e =
    slice_get_read places (length places) k now refl (slice_get_within places k (Some f.0) f.1) e

-- ---- one more body

module _ (places : List (Option Built)) (k : ℕ) (b : Built) (low : k < length places) where
  pub filled_here : IsFilled (set places k (Some b)) k
  filled_here = (b, get_set_same places k (Some b) low)

  pub filled_still : (n : ℕ) → IsFilled places n → IsFilled (set places k (Some b)) n
  filled_still n f = elim (cases_eq n k) [
    | inl q ↦ subst (IsFilled (set places k (Some b))) (sym q) filled_here
    | inr q ↦ (f.0, get_set_other places k n (Some b) q ∙ f.1)
  ]

-- ---- finished bodies

module _ (p : Policy) (m : Module) where
  -- a body is that of a function
  abbrev IsOf : Built → Function → Type 0
  IsOf b f = IsBuilt (policy_of p) m f b

  built_for : (k : ℕ) (b : Built) → k < length m → IfSome (slice_get m k) (IsOf b) → IsBuiltFor p m k b
  built_for k b l h = let s = some_at m k l in some_is (IsOf b) (slice_get m k) s.0 s.1 h

  pub built_more :
      (places : List (Option Built)) (k : ℕ) (b : Built) → AreBuilt p m places → k < length m
      → IfSome (slice_get m k) (λ f. IsBuilt (policy_of p) m f b) → AreBuilt p m (set places k (Some b))
  built_more places k b are l h = record {
    long = length-set places k (Some b) ∙ are.long;
    each = λ n a e. elim (cases_eq n k) [
      | inl q ↦ (let low : k < length places = let s = are.long in omega (arith, l) in
          let here = ap (slice_get (set places k (Some b))) (sym q) ∙ e in
          let there = get_set_same places k (Some b) low in
          let same : b ≡ a = cc in
          subst (λ (z : ℕ). IsBuiltFor p m z a) (sym q) (subst (IsBuiltFor p m k) same (built_for k b l h)))
      | inr q ↦ are.each n a (sym (get_set_other places k n (Some b) q) ∙ e)
    ];
  }

  pub body_of_built : (k : ℕ) (b : Built) → IsBuiltFor p m k b → IsBodyOf (policy_of p) m k b.func.function
  body_of_built k b h =
      some_with (IsOf b) (λ f. SameFunction (finished (policy_of p) m f) b.func.function) (slice_get m k) (λ f is. is.0)
      h

  pub counts_of_built : (k : ℕ) (b : Built) → IsBuiltFor p m k b → AreCountsOf (policy_of p) m k b.counts
  counts_of_built k b h =
      some_with (IsOf b) (λ f. AreCounts (policy_of p) (finished (policy_of p) m f) b.counts) (slice_get m k)
      (λ f is. is.2) h

  pub is_of :
      (k : ℕ) (f : Function) (b : Built) → slice_get m k ≡ Some f → IsBuiltFor p m k b → IsBuilt (policy_of p) m f b
  is_of k f b e h = subst (λ (o : Option Function). IsSomeAnd o (IsOf b)) e h
