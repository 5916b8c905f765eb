-- How many values are defined before each definition, counted from the first on.
use Rattle.std.proofs.Common.{◌≡◌, ℕ, ◌+◌, ◌<◌, inl, inr, List, [], ◌∷◌, ◌++◌, length, take, get_or, sym, ap, ◌∙◌, arith}
use Rattle.std.proofs.lemmas.Bool.Decides.{eqb_tells}
use Rattle.std.proofs.lemmas.List.{get_or_push, get_or_append_left, take_more}
use Rattle.ir_core.specs.Size.{total}
use Rattle.ir_core.proofs.Sizing.{total_join}
use Rattle.name_tables.specs.declared.firsts.Def.{Def}
use Rattle.name_tables.specs.Aliases.{value_count}

-- the counts of the first n definitions
abbrev pub Counted : List Def → List ℕ → ℕ → Type 0
Counted ds counts n = (i : ℕ) → i < n → get_or counts i 0 ≡ total value_count (take i ds)

pub counted_more : (ds : List Def) (counts : List ℕ) (n count : ℕ) → length counts ≡ n → Counted ds counts n → count ≡ total value_count (take n ds)
    → Counted ds (counts ++ count ∷ []) (n + 1)
counted_more ds counts n count long each is i h = elim (eqb_tells i n) [
  | inl t ↦ get_or_push counts count 0 i (long ∙ sym t.1) ∙ is ∙ ap (λ k. total value_count (take k ds)) (sym t.1)
  | inr f ↦ (let less = below i n h f.1 in get_or_append_left counts (count ∷ []) 0 i (omega (arith, long, less)) ∙ each i less)
]
  where
    below : (i n : ℕ) → i < n + 1 → (i ≡ n → ⊥) → i < n
    below i n h other = omega (arith, other)

pub count_more : (ds : List Def) (i : ℕ) (d : Def) → i < length ds → total value_count (take (i + 1) ds) ≡ total value_count (take i ds) + value_count (get_or ds i d)
count_more ds i d h = rw (take_more ds i d h, total_join value_count (take i ds) (get_or ds i d ∷ [])) (omega arith)
