-- A chain that ends does so within as many steps as there are definitions.
use Rattle.std.proofs.Common.{◌≡◌, ℕ, zero, suc, ◌+◌, ◌-◌, ◌≤◌, inl, inr, List, [], ◌∷◌, length, Option, None, Some, map, refl, sym, ap, ◌∙◌, arith}
use Rattle.std.proofs.lemmas.Bool.Decides.{eqb_tells}
use Rattle.ir_core.specs.Lists.{In, Different}
use Rattle.token_reader.specs.declared.raw.RawName.{RawName}
use Rattle.name_tables.specs.declared.firsts.Def.{Def}
use Rattle.name_tables.specs.Definitions.{names_of}
use Rattle.name_tables.proofs.ChainLaws.{one_end}
use Rattle.ir_core.proofs.Counting.{subset_length}
use Rattle.std.proofs.lemmas.List.{length-map}
use Rattle.name_tables.specs.Chains.{Ending, look, chain, or_lost, onward, NeverEnds}

module _ (ds : List Def) where
  -- the chain from d on has exactly suc k definitions
  Exact : ℕ → Def → Type 0
  Exact k d = (e : Ending) × (chain ds (suc k) d ≡ Some e) × (chain ds k d ≡ None)

  -- more fuel changes nothing
  more : (k : ℕ) (d : Def) (e : Ending) → chain ds k d ≡ Some e → chain ds (suc k) d ≡ Some e
  unfolding chain
  more zero d e h = absurd cc
  more (suc k) d e h = by d.target h (λ x. more k x e)
    where
      next : (o : Option Def) → or_lost o (chain ds k) ≡ Some e → ((x : Def) → chain ds k x ≡ Some e → chain ds (suc k) x ≡ Some e) → or_lost o (chain ds (suc k)) ≡ Some e
      next None h go = h
      next (Some x) h go = go x h

      by : (t : Option RawName) → onward t d (λ m. or_lost (look ds m.number) (chain ds k)) ≡ Some e
          → ((x : Def) → chain ds k x ≡ Some e → chain ds (suc k) x ≡ Some e) → onward t d (λ m. or_lost (look ds m.number) (chain ds (suc k))) ≡ Some e
      by None h go = h
      by (Some m) h go = next (look ds m.number) h go

  much_more : (j k : ℕ) (d : Def) (e : Ending) → chain ds k d ≡ Some e → chain ds (k + j) d ≡ Some e
  much_more zero k d e h = rw (let p : k + 0 ≡ k = omega arith in p) h
  much_more (suc j) k d e h = rw (let p : k + suc j ≡ suc (k + j) = omega arith in p) (more (k + j) d e (much_more j k d e h))

  -- the definition behind d, where there is one
  behind : (k : ℕ) (d : Def) → Exact (suc k) d → (m : RawName) × (x : Def) × (d.target ≡ Some m) × (look ds m.number ≡ Some x) × Exact k x
  unfolding chain Exact
  behind k d (e, h, g) = by d.target refl h g
    where
      next : (m : RawName) → d.target ≡ Some m → (o : Option Def) → look ds m.number ≡ o → or_lost o (chain ds (suc k)) ≡ Some e → or_lost o (chain ds k) ≡ None
          → (m : RawName) × (x : Def) × (d.target ≡ Some m) × (look ds m.number ≡ Some x) × Exact k x
      next m t None f h g = absurd cc
      next m t (Some x) f h g = (m, x, t, f, (e, h, g))

      by : (t : Option RawName) → d.target ≡ t → onward t d (λ m. or_lost (look ds m.number) (chain ds (suc k))) ≡ Some e → onward t d (λ m. or_lost (look ds m.number) (chain ds k)) ≡ None
          → (m : RawName) × (x : Def) × (d.target ≡ Some m) × (look ds m.number ≡ Some x) × Exact k x
      by None t h g = absurd cc
      by (Some m) t h g = next m t (look ds m.number) refl h g

  look_in : (xs : List Def) (n : ℕ) (d : Def) → look xs n ≡ Some d → In n (map (λ (r : RawName). r.number) (names_of xs))
  look_in [] n d h = absurd cc
  look_in (x ∷ xs) n d h = elim (eqb_tells n x.name.number) [ inl t ↦ inl t.1 | inr f ↦ (let g = rw f.0 at h in inr (look_in xs n d g)) ]

  -- the words of a chain: they differ, and each has a definition
  record Path (k : ℕ) : Type 0 where
    words : List ℕ
    long : length words ≡ suc k
    differ : Different words
    each : (n : ℕ) → In n words → (j : ℕ) × (x : Def) × (j ≤ k) × (look ds n ≡ Some x) × Exact j x

  path : (k n : ℕ) (d : Def) → look ds n ≡ Some d → Exact k d → Path k
  unfolding Exact
  path zero n d found ex = record {
    words = n ∷ [];
    long = refl;
    differ = ((λ i. i), tt);
    each = λ v i. elim i [ inl e ↦ (0, d, omega arith, rw e found, ex) | inr h ↦ absurd h ];
  }
  path (suc k) n d found ex =
      let (m, x, t, f, more_ex) = behind k d ex in
      longer x (path k m.number x f more_ex)
    where
      longer : Def → Path k → Path (suc k)
      longer x p = record {
        words = n ∷ p.words;
        long = ap suc p.long;
        differ = ((λ i. again (p.each n i)), p.differ);
        each = λ v i. elim i [ inl e ↦ (suc k, d, omega arith, rw e found, ex) | inr h ↦ (let (j, y, le, at, ey) = p.each v h in (j, y, omega (arith, le), at, ey)) ];
      }
        where
          again : (j : ℕ) × (y : Def) × (j ≤ k) × (look ds n ≡ Some y) × Exact j y → ⊥
          again (j, y, le, at, (e, h, g)) =
              let s : y ≡ d = (let q = sym at ∙ found in cc) in
              let c : chain ds (suc j) d ≡ Some e = ap (chain ds (suc j)) (sym s) ∙ h in
              let b = much_more (k - j) (suc j) d e c in
              let w : suc j + (k - j) ≡ suc k = omega (arith, le) in
              let a : chain ds (suc k) d ≡ Some e = ap (λ z. chain ds z d) (sym w) ∙ b in
              let none : chain ds (suc k) d ≡ None = ex.2 in
              absurd (let q = sym a ∙ none in cc)

  exact_bound : (k n : ℕ) (d : Def) → look ds n ≡ Some d → Exact k d → suc k ≤ length ds
  exact_bound k n d found ex =
      let p = path k n d found ex in
      let a = subset_length p.words (map (λ (r : RawName). r.number) (names_of ds)) p.differ (λ v i. (let (j, y, le, at, ey) = p.each v i in look_in ds v y at)) in
      omega (arith, a, p.long, length-map (names_of ds) (λ (r : RawName). r.number), length-map ds (λ (d : Def). d.name))

  pub ends_within : (k n : ℕ) (d : Def) (e : Ending) → look ds n ≡ Some d → chain ds k d ≡ Some e → chain ds (length ds) d ≡ Some e
  unfolding Exact chain
  ends_within zero n d e found h = absurd cc
  ends_within (suc k) n d e found h = by (chain ds k d) refl (λ x c. ends_within k n d x found c)
    where
      by : (o : Option Ending) → chain ds k d ≡ o → ((x : Ending) → chain ds k d ≡ Some x → chain ds (length ds) d ≡ Some x) → chain ds (length ds) d ≡ Some e
      by None c go =
          let le = exact_bound k n d found (e, h, c) in
          let w : suc k + (length ds - suc k) ≡ length ds = omega (arith, le) in
          ap (λ z. chain ds z d) (sym w) ∙ much_more (length ds - suc k) (suc k) d e h
      by (Some x) c go = (let s = one_end ds (suc k) k d e x h c in go x c ∙ ap (λ (z : Ending). Some z) (sym s))

  -- a chain that does not end within as many steps as there are definitions never ends
  pub never_ends : (n : ℕ) (d : Def) → look ds n ≡ Some d → chain ds (length ds) d ≡ None → NeverEnds ds d
  never_ends n d found h k = by (chain ds k d) refl
    where
      by : (o : Option Ending) → chain ds k d ≡ o → chain ds k d ≡ None
      by None c = c
      by (Some e) c = absurd (let q = sym (ends_within k n d e found c) ∙ h in cc)
