-- The names of a function without a fault give each word the place of its definition.
use Rattle.std.proofs.Common.{◌≡◌, ℕ, suc, ◌<◌, List, [], ◌∷◌, length, refl, sym, ap, ◌∙◌, arith, inl, inr}
use Rattle.std.specs.Prelude.{nat_eq}
use Rattle.std.proofs.lemmas.Bool.{eq-eqb}
use Rattle.std.proofs.lemmas.Bool.Decides.{eqb_tells, leb_tells}
use Rattle.clif_lex.specs.declared.faults.TextKind.TheVariants.{Duplicate}
use Rattle.name_tables.specs.declared.names.Names.{Names}
use Rattle.clif_names.specs.declared.uses.Uses.{Uses}
use Rattle.name_tables.specs.Definitions.{definitions}
use Rattle.clif_names.specs.FunctionNames.{WordsPlaced}
use Rattle.name_tables.specs.Taking.{place_or_count}
use Rattle.name_tables.specs.Uses.{uses}
use Rattle.clif_names.specs.Using.{table_at}
use Rattle.name_tables.specs.Words.{place_among}
use Rattle.clif_names.proofs.FunctionLaws.{table_is}
use Rattle.name_tables.proofs.TakingLaws.{taken, words_are, numbers_of}
use Rattle.name_tables.proofs.WordPlaces.{at, le_length}

among : (ws : List ℕ) (n : ℕ) → at (nat_eq n) ws ≡ place_among ws n
among [] n = refl
among (w ∷ ws) n = elim (eqb_tells n w) [
  | inl t ↦ rw (t.0, eq-eqb w n (sym t.1)) refl
  | inr f ↦ elim (eqb_tells w n) [
    | inl t ↦ absurd (f.1 (sym t.1))
    | inr g ↦ rw (f.0, g.0) (omega (arith, among ws n))
  ]
]

place_is : (ws : List ℕ) (n : ℕ) → place_or_count ws n ≡ place_among ws n
place_is ws n = elim (leb_tells (suc (at (nat_eq n) ws)) (length ws)) [
  | inl t ↦ rw t.0 (among ws n)
  | inr f ↦ (let past : length ws < suc (at (nat_eq n) ws) = f.1 in
      let last : length ws ≡ at (nat_eq n) ws = omega (arith, le_length (nat_eq n) ws) in
      rw f.0 (last ∙ among ws n))
]

pub words_placed : WordsPlaced
words_placed f names free are kind n =
    let words : (table_at names.uses kind).words ≡ numbers_of (definitions f kind) =
    ap (λ (u : Uses). (table_at u kind).words) are.uses ∙ ap (λ (t : Names). t.words) (table_is f names.ends are.ends kind)
    ∙ (taken (definitions f kind) (uses f kind)).stays ∙ words_are (definitions f kind) (λ s h. free Duplicate s (kind, h)) in
    rw words (place_is (numbers_of (definitions f kind)) n)
