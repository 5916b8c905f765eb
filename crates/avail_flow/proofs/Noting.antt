-- Where values are defined, noted one by one.
use Rattle.std.proofs.Common.{◌≡◌, ◌⊎◌, inl, inr, ℕ, zero, suc, ◌+◌, ◌<◌, List, [], ◌∷◌, take, length, set, refl, sym, ap, subst, ◌∙◌, arith, get_or, get_or-set_same, get_or-set_other}
use Rattle.std.specs.Prelude.{slice_index}
use Rattle.std.proofs.lemmas.Bool.{cases_eq}
use Rattle.ir_core.specs.Module.{Line}
use Rattle.ir_core.specs.Lists.{In}
use Rattle.avail_flow.specs.Points.{Code, Defines, DefinedAt}
use Rattle.avail_flow.specs.Flow.{Known}

-- the values are noted at b and j, and nothing else has changed
pub record Noted (vs : List ℕ) (b j : ℕ) (home place home' place' : List ℕ) : Type 0 where
  pub noted : (v : ℕ) → In v vs → (slice_index home' v ≡ b) × (slice_index place' v ≡ j)
  pub others : (v : ℕ) → (In v vs → ⊥) → (slice_index home' v ≡ slice_index home v) × (slice_index place' v ≡ slice_index place v)

in_take : (vs : List ℕ) (i v : ℕ) → i < length vs → In v (take (suc i) vs) → In v (take i vs) ⊎ (v ≡ get_or vs i 0)
in_take [] i v low h = absurd (omega arith)
in_take (x ∷ vs) zero v low (inl e) = inr e
in_take (x ∷ vs) zero v low (inr h) = elim h [ ]
in_take (x ∷ vs) (suc i) v low (inl e) = inl (inl e)
in_take (x ∷ vs) (suc i) v low (inr h) = go (in_take vs i v (omega arith) h)
  where
    go : In v (take i vs) ⊎ (v ≡ get_or vs i 0) → In v (take (suc i) (x ∷ vs)) ⊎ (v ≡ get_or vs i 0)
    go (inl k) = inl (inr k)
    go (inr k) = inr k

take_in : (vs : List ℕ) (i v : ℕ) → In v (take i vs) → In v (take (suc i) vs)
take_in [] zero v h = h
take_in [] (suc i) v h = h
take_in (x ∷ vs) zero v h = elim h [ ]
take_in (x ∷ vs) (suc i) v (inl e) = inl e
take_in (x ∷ vs) (suc i) v (inr h) = inr (take_in vs i v h)

next_in : (vs : List ℕ) (i : ℕ) → i < length vs → In (get_or vs i 0) (take (suc i) vs)
next_in [] i low = absurd (omega arith)
next_in (x ∷ vs) zero low = inl refl
next_in (x ∷ vs) (suc i) low = inr (next_in vs i (omega arith))

noted_suc : (vs : List ℕ) (i w b j : ℕ) (home place home' place' : List ℕ) → i < length vs → w ≡ get_or vs i 0 → w < length home' → w < length place' → Noted (take i vs) b j home place home' place' → Noted (take (suc i) vs) b j home place (set home' w b) (set place' w j)
noted_suc vs i w b j home place home' place' low is inside inside' n = record { noted = λ v h. at v (cases_eq v w) (in_take vs i v low h); others = others }
  where
    at : (v : ℕ) → (v ≡ w) ⊎ (v ≡ w → ⊥) → In v (take i vs) ⊎ (v ≡ get_or vs i 0) → (slice_index (set home' w b) v ≡ b) × (slice_index (set place' w j) v ≡ j)
    at v (inl e) k = (ap (slice_index (set home' w b)) e ∙ get_or-set_same home' w b 0 inside, ap (slice_index (set place' w j)) e ∙ get_or-set_same place' w j 0 inside')
    at v (inr ne) (inl k) = (get_or-set_other home' w v b 0 ne ∙ (n.noted v k).0, get_or-set_other place' w v j 0 ne ∙ (n.noted v k).1)
    at v (inr ne) (inr k) = absurd (ne (k ∙ sym is))

    others : (v : ℕ) → (In v (take (suc i) vs) → ⊥) → (slice_index (set home' w b) v ≡ slice_index home v) × (slice_index (set place' w j) v ≡ slice_index place v)
    others v out =
        let ne : v ≡ w → ⊥ = λ e. out (subst (λ (z : ℕ). In z (take (suc i) vs)) (sym (e ∙ is)) (next_in vs i low)) in
        let o = n.others v (λ h. out (take_in vs i v h)) in
        (get_or-set_other home' w v b 0 ne ∙ o.0, get_or-set_other place' w v j 0 ne ∙ o.1)

pub noted_more : (vs : List ℕ) (i w b j : ℕ) (home place home' place' : List ℕ) → i < length vs → w ≡ get_or vs i 0 → w < length home' → w < length place' → Noted (take i vs) b j home place home' place' → Noted (take (i + 1) vs) b j home place (set home' w b) (set place' w j)
noted_more vs i w b j home place home' place' low is inside inside' n =
    let e : i + 1 ≡ suc i = omega arith in
    subst (λ (k : ℕ). Noted (take k vs) b j home place (set home' w b) (set place' w j)) (sym e) (noted_suc vs i w b j home place home' place' low is inside inside' n)

-- one value has one definition
abbrev pub OneEach : Code → Type 0
OneEach c = (v b k b' k' : ℕ) → DefinedAt c v b k → DefinedAt c v b' k' → (b ≡ b') × (k ≡ k')

module _ (c : Code) (one : OneEach c) (p j : ℕ) (vs home place home' place' : List ℕ) (here : (v : ℕ) → In v vs → DefinedAt c v p j) (all : (v : ℕ) → DefinedAt c v p j → In v vs) where
  -- what stands at j is known too
  pub known_more : Known c home place p j → ((v : ℕ) → In v vs → (slice_index home' v ≡ p) × (slice_index place' v ≡ j)) → ((v : ℕ) → (In v vs → ⊥) → (slice_index home' v ≡ slice_index home v) × (slice_index place' v ≡ slice_index place v)) → Known c home' place' p (j + 1)
  known_more known noted others v q k before def = by (cases_eq k j) before
    where
      old : (q < p) ⊎ ((q ≡ p) × (k < j)) → ((q ≡ p) → (k ≡ j) → ⊥) → (slice_index home' v ≡ q) × (slice_index place' v ≡ k)
      old b ne =
          let o = others v (λ i. (let e = one v q k p j def (here v i) in ne e.0 e.1)) in
          let n = known v q k b def in
          (o.0 ∙ n.0, o.1 ∙ n.1)

      by : (k ≡ j) ⊎ (k ≡ j → ⊥) → (q < p) ⊎ ((q ≡ p) × (k < j + 1)) → (slice_index home' v ≡ q) × (slice_index place' v ≡ k)
      by e (inl low) = old (inl low) (λ x y. absurd (omega arith))
      by (inl e) (inr b) =
          let d : DefinedAt c v p j = subst (λ (z : ℕ). DefinedAt c v p z) e (subst (λ (z : ℕ). DefinedAt c v z k) b.0 def) in
          let n = noted v (all v d) in
          (n.0 ∙ sym b.0, n.1 ∙ sym e)
      by (inr ne) (inr b) = old (inr (b.0, (let l = b.1 in omega arith))) (λ x y. ne y)

-- behind the last line nothing is defined
pub known_next : (c : Code) (p : ℕ) (home place : List ℕ) → Known c home place p (length (c.lines p) + 1) → Known c home place (p + 1) 0
known_next c p home place known v q k before def = by before
  where
    within : (ps : List ℕ) (ls : List Line) (k : ℕ) → Defines ps ls v k → k < length ls + 1
    within ps ls zero d = omega arith
    within ps [] (suc i) d = let e = d.1 in absurd cc
    within ps (l ∷ ls) (suc zero) d = omega arith
    within ps (l ∷ ls) (suc (suc i)) d = let h = within ps ls (suc i) d in omega arith

    at : (q ≡ p) ⊎ (q ≡ p → ⊥) → q < p + 1 → (slice_index home v ≡ q) × (slice_index place v ≡ k)
    at (inl e) low = known v q k (inr (e, within (c.params p) (c.lines p) k (subst (λ (z : ℕ). DefinedAt c v z k) e def))) def
    at (inr ne) low = known v q k (inl (omega arith)) def

    by : (q < p + 1) ⊎ ((q ≡ p + 1) × (k < 0)) → (slice_index home v ≡ q) × (slice_index place v ≡ k)
    by (inl low) = at (cases_eq q p) low
    by (inr b) = let l = b.1 in absurd (omega arith)
