-- Chains of alias lines: where they end, and where they are lost.
use Rattle.std.proofs.Common.{◌≡◌, ℕ, zero, suc, inl, inr, List, [], ◌∷◌, slice_get, Option, None, Some, refl, sym, ap, ◌∙◌}
use Rattle.std.proofs.lemmas.Bool.Decides.{eqb_tells}
use Rattle.ir_core.specs.Lists.{In}
use Rattle.token_reader.specs.declared.raw.RawName.{RawName}
use Rattle.name_tables.specs.declared.firsts.Def.{Def}
use Rattle.name_tables.specs.Chains.{Ending, Ends, Lost, look, chain, or_lost, onward}

-- a definition that is found stands somewhere
pub found_at : (ds : List Def) (n : ℕ) (d : Def) → look ds n ≡ Some d → (i : ℕ) × (slice_get ds i ≡ Some d)
found_at [] n d h = absurd cc
found_at (x ∷ xs) n d h = elim (eqb_tells n x.name.number) [
  | inl t ↦ (zero, let g = rw t.0 at h in g)
  | inr f ↦ (let g = rw f.0 at h in let p = found_at xs n d g in (suc p.0, p.1))
]

pub in_found : (ds : List Def) (i : ℕ) (d : Def) → slice_get ds i ≡ Some d → In d ds
in_found [] i d at = absurd cc
in_found (x ∷ xs) zero d at = inl (let e : x ≡ d = cc in sym e)
in_found (x ∷ xs) (suc i) d at = inr (in_found xs i d at)

-- a chain has one end
pub one_end : (ds : List Def) (k j : ℕ) (d : Def) (a b : Ending) → chain ds k d ≡ Some a → chain ds j d ≡ Some b → a ≡ b
unfolding chain
one_end ds zero j d a b h g = absurd cc
one_end ds (suc k) zero d a b h g = absurd cc
one_end ds (suc k) (suc j) d a b h g = by d.target h g (λ e. one_end ds k j e a b)
  where
    next : (o : Option Def) → or_lost o (chain ds k) ≡ Some a → or_lost o (chain ds j) ≡ Some b
        → ((e : Def) → chain ds k e ≡ Some a → chain ds j e ≡ Some b → a ≡ b) → a ≡ b
    next None h g more = cc
    next (Some e) h g more = more e h g

    by : (t : Option RawName) → onward t d (λ m. or_lost (look ds m.number) (chain ds k)) ≡ Some a → onward t d (λ m. or_lost (look ds m.number) (chain ds j)) ≡ Some b
        → ((e : Def) → chain ds k e ≡ Some a → chain ds j e ≡ Some b → a ≡ b) → a ≡ b
    by None h g more = cc
    by (Some m) h g more = next (look ds m.number) h g more

-- ---- the end of a chain is the first definition of its word, and no alias line

module _ (ds : List Def) where
  found_itself : (xs : List Def) (n : ℕ) (d : Def) → look xs n ≡ Some d → n ≡ d.name.number
  found_itself [] n d h = absurd cc
  found_itself (x ∷ xs) n d h = elim (eqb_tells n x.name.number) [
    | inl t ↦ (let g = rw t.0 at h in let e : x ≡ d = cc in t.1 ∙ ap (λ (y : Def). y.name.number) e)
    | inr f ↦ (let g = rw f.0 at h in found_itself xs n d g)
  ]

  abbrev IsEnd : Def → Type 0
  IsEnd e = (look ds e.name.number ≡ Some e) × (e.target ≡ None)

  pub end_first : (k n : ℕ) (d e : Def) → look ds n ≡ Some d → chain ds k d ≡ Some (Ends e) → IsEnd e
  unfolding chain
  end_first zero n d e found c = absurd cc
  end_first (suc k) n d e found c = by d.target refl c (λ m x. end_first k m x e)
    where
      next : (m : ℕ) (o : Option Def) → look ds m ≡ o → or_lost o (chain ds k) ≡ Some (Ends e) → ((m : ℕ) (x : Def) → look ds m ≡ Some x → chain ds k x ≡ Some (Ends e) → IsEnd e) → IsEnd e
      next m None at c more = absurd cc
      next m (Some x) at c more = more m x at c

      by : (t : Option RawName) → d.target ≡ t → onward t d (λ m. or_lost (look ds m.number) (chain ds k)) ≡ Some (Ends e)
          → ((m : ℕ) (x : Def) → look ds m ≡ Some x → chain ds k x ≡ Some (Ends e) → IsEnd e) → IsEnd e
      by None none c more =
          let s : d ≡ e = cc in
          (rw (sym s) (ap (look ds) (sym (found_itself ds n d found)) ∙ found), rw (sym s) none)
      by (Some m) some c more = next m.number (look ds m.number) refl c more

-- ---- a chain is lost at an alias line whose target has no definition

pub lost_at : (ds : List Def) (k n : ℕ) (d : Def) → look ds n ≡ Some d → chain ds k d ≡ Some Lost → (x : Def) × (m : RawName) × In x ds × (x.target ≡ Some m) × (look ds m.number ≡ None)
unfolding chain
lost_at ds zero n d found h = absurd cc
lost_at ds (suc k) n d found h = by d.target refl h (λ m x f c. lost_at ds k m x f c)
  where
    here : In d ds
    here = let p = found_at ds n d found in in_found ds p.0 d p.1

    next : (m : RawName) → d.target ≡ Some m → (o : Option Def) → look ds m.number ≡ o → or_lost o (chain ds k) ≡ Some Lost
        → ((n : ℕ) (x : Def) → look ds n ≡ Some x → chain ds k x ≡ Some Lost → (x : Def) × (m : RawName) × In x ds × (x.target ≡ Some m) × (look ds m.number ≡ None))
        → (x : Def) × (m : RawName) × In x ds × (x.target ≡ Some m) × (look ds m.number ≡ None)
    next m t None f h go = (d, m, here, t, f)
    next m t (Some x) f h go = go m.number x f h

    by : (t : Option RawName) → d.target ≡ t → onward t d (λ m. or_lost (look ds m.number) (chain ds k)) ≡ Some Lost
        → ((n : ℕ) (x : Def) → look ds n ≡ Some x → chain ds k x ≡ Some Lost → (x : Def) × (m : RawName) × In x ds × (x.target ≡ Some m) × (look ds m.number ≡ None))
        → (x : Def) × (m : RawName) × In x ds × (x.target ≡ Some m) × (look ds m.number ≡ None)
    by None t h go = absurd cc
    by (Some m) t h go = next m t (look ds m.number) refl h go
