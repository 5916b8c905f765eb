-- Words that are defined, once or more often, and the places of values among them.
use Rattle.std.proofs.Common.{◌≡◌, ℕ, zero, suc, ◌<◌, inl, inr, List, [], ◌∷◌, ◌++◌, length, slice_get, Option, None, Some, refl, sym, ap, ◌∙◌, arith, eq-eqb}
use Rattle.std.proofs.lemmas.Bool.Decides.{eqb_tells}
use Rattle.token_reader.specs.declared.raw.RawName.{RawName}
use Rattle.name_tables.specs.declared.firsts.Def.{Def}
use Rattle.name_tables.specs.Definitions.{names_of}
use Rattle.name_tables.specs.Words.{IsDefined, Repeats, place_in}
use Rattle.name_tables.specs.Chains.{look, numbered}

-- ---- places

pub place_here : (x : RawName) (xs : List RawName) (n : ℕ) → n ≡ x.number → place_in (x ∷ xs) n ≡ 0
place_here x xs n e = elim (eqb_tells x.number n) [ inl t ↦ rw t.0 refl | inr f ↦ absurd (f.1 (sym e)) ]

pub place_there : (x : RawName) (xs : List RawName) (n : ℕ) → (n ≡ x.number → ⊥) → place_in (x ∷ xs) n ≡ suc (place_in xs n)
place_there x xs n e = elim (eqb_tells x.number n) [ inl t ↦ absurd (e (sym t.1)) | inr f ↦ rw f.0 refl ]

pub place_front : (xs ys : List Def) (n : ℕ) (e : Def) → look xs n ≡ Some e → e.target ≡ None → place_in (numbered (xs ++ ys)) n < length (numbered xs)
place_front [] ys n e h none = absurd cc
place_front (x ∷ xs) ys n e h none = elim (eqb_tells n x.name.number) [
  | inl t ↦ (let g = rw t.0 at h in let s : x ≡ e = cc in here (ap (λ (y : Def). y.target) s ∙ none) t.1)
  | inr f ↦ (let g = rw f.0 at h in there x.target refl f.1 (place_front xs ys n e g none))
]
  where
    here : x.target ≡ None → n ≡ x.name.number → place_in (numbered (x ∷ xs ++ ys)) n < length (numbered (x ∷ xs))
    here t s = rw (t, place_here x.name (numbered (xs ++ ys)) n s) (omega arith)

    there : (o : Option RawName) → x.target ≡ o → (n ≡ x.name.number → ⊥) → place_in (numbered (xs ++ ys)) n < length (numbered xs) → place_in (numbered (x ∷ xs ++ ys)) n < length (numbered (x ∷ xs))
    there None t ne h = rw (t, place_there x.name (numbered (xs ++ ys)) n ne) (omega (arith, h))
    there (Some m) t ne h = rw t h

-- ---- words that are defined

pub not_first : (x : RawName) (xs : List RawName) (n : ℕ) → (n ≡ x.number → ⊥) → IsDefined (x ∷ xs) n → IsDefined xs n
not_first x xs n ne (zero, d, at, same) = absurd (ne (let e : x ≡ d = cc in sym same ∙ ap (λ (r : RawName). r.number) (sym e)))
not_first x xs n ne (suc i, d, at, same) = (i, d, at, same)

pub look_defined : (ds : List Def) (n : ℕ) → IsDefined (names_of ds) n → (d : Def) × (look ds n ≡ Some d)
look_defined [] n (i, d, at, same) = absurd cc
look_defined (x ∷ xs) n h = elim (eqb_tells n x.name.number) [
  | inl t ↦ (x, rw t.0 refl)
  | inr f ↦ (let p = look_defined xs n (not_first x.name (names_of xs) n f.1 h) in (p.0, rw f.0 p.1))
]

-- ---- no word stands twice

-- no word stands twice
abbrev pub NoRepeats : List RawName → Type 0
NoRepeats ns = (spot : ℕ) → Repeats ns spot → ⊥

pub no_repeats_behind : (x : RawName) (xs : List RawName) → NoRepeats (x ∷ xs) → NoRepeats xs
no_repeats_behind x xs none spot (i, j, d, e, at, here, lt, at', same) = none spot (suc i, suc j, d, e, at, here, omega (arith, lt), at', same)

pub not_behind : (x : RawName) (xs : List RawName) → NoRepeats (x ∷ xs) → IsDefined xs x.number → ⊥
not_behind x xs none (i, d, at, same) = none d.spot (suc i, 0, d, x, at, refl, omega arith, refl, sym same)

pub named_at : (ds : List Def) (i : ℕ) (d : Def) → slice_get ds i ≡ Some d → slice_get (names_of ds) i ≡ Some d.name
named_at [] i d at = absurd cc
named_at (x ∷ xs) zero d at = let e : x ≡ d = cc in rw e refl
named_at (x ∷ xs) (suc i) d at = named_at xs i d at

pub look_own : (ds : List Def) → NoRepeats (names_of ds) → (i : ℕ) (d : Def) → slice_get ds i ≡ Some d → look ds d.name.number ≡ Some d
look_own [] none i d at = absurd cc
look_own (x ∷ xs) none zero d at = let e : x ≡ d = cc in rw (e, eq-eqb d.name.number d.name.number refl) refl
look_own (x ∷ xs) none (suc i) d at = elim (eqb_tells d.name.number x.name.number) [
  | inl t ↦ absurd (not_behind x.name (names_of xs) none (i, d.name, named_at xs i d at, t.1))
  | inr f ↦ rw f.0 (look_own xs (no_repeats_behind x.name (names_of xs) none) i d at)
]
