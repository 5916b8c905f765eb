-- An operand is defined too late by places exactly where it is by words.
use Rattle.std.proofs.Common.{◌≡◌, ℕ, suc, ◌+◌, ◌<◌, ◌≤◌, inl, inr, List, [], ◌∷◌, ◌++◌, length, take, drop, Option, None, Some, map, refl, sym, ap, ◌∙◌, arith}
use Rattle.std.specs.Prelude.{nat_eq, fold, position}
use Rattle.std.proofs.lemmas.Bool.Decides.{eqb_tells}
use Rattle.std.proofs.lemmas.List.{take-append-drop}
use Rattle.clif_read.specs.declared.raw.RawFunction.{RawFunction}
use Rattle.name_tables.specs.declared.links.End.{End}
use Rattle.name_tables.specs.declared.tables.Tables.{Tables}
use Rattle.name_tables.specs.Aliases.{link_of}
use Rattle.name_tables.specs.Definitions.{Values, definitions, steps, defs_of, names_of, value_defs}
use Rattle.name_tables.specs.Links as places
use Rattle.name_tables.specs.Taking.{no_names, declare}
use Rattle.clif_names.specs.Typing.{IsUntyped, DefinedBefore}
use Rattle.name_tables.proofs.ChainPlaces.{number, place, Firsts, chain_same}
use Rattle.name_tables.proofs.ChainWords.{late_words, words_late}
use Rattle.clif_names.proofs.LateLaws.{UntypedAt, words_of, words_split}
use Rattle.name_tables.proofs.TakingLaws.{declared}
use Rattle.name_tables.proofs.WordPlaces.{at_end, position_within, position_front}

one_more : (n : ℕ) → 1 + n ≡ suc n
one_more n = omega arith

-- a word that is not among the first ones stands behind them
place_past : (ws more : List ℕ) (n : ℕ) → place ws n ≡ length ws → length ws ≤ place (ws ++ more) n
place_past [] more n h = omega arith
place_past (w ∷ ws) more n h = elim (eqb_tells n w) [
  | inl t ↦ absurd (let k = rw t.0 at h in omega arith)
  | inr f ↦ rw (f.0, one_more (place (ws ++ more) n)) (let k = rw (f.0, one_more (place ws n)) at h in let j : place ws n ≡ length ws = omega arith in let q = place_past ws more n j in omega arith)
]

module _ (f : RawFunction) (t : Tables) (first : Firsts (value_defs f) t) (ends : List End)
    (right : places.AreEnds (map (link_of (map number t.firsts)) t.firsts) ends) (same : (fold declare no_names (definitions f Values)).words ≡ map number t.firsts) where
  abbrev W : List ℕ
  W = (fold declare no_names (definitions f Values)).words

  abbrev so_far : ℕ → List ℕ
  so_far i = words_of (take i (steps f))

  split : (i : ℕ) → (rest : List ℕ) × (W ≡ so_far i ++ rest)
  split i = (let p = words_split (take i (steps f)) (drop i (steps f)) in (p.0, ap words_of (sym (take-append-drop i (steps f))) ∙ p.1))

  not_before : (i n : ℕ) → length (so_far i) ≤ place (map number t.firsts) n → DefinedBefore f i n → ⊥
  not_before i n le before = by (position (nat_eq n) (so_far i)) refl
    where
      by : (o : Option ℕ) → position (nat_eq n) (so_far i) ≡ o → ⊥
      by None e = (declared (names_of (defs_of (take i (steps f))))).lacks n e before
      by (Some p) e =
          let s = split i in
          let within = position_within (nat_eq n) (so_far i) p e in
          let here = position_front (nat_eq n) s.0 (so_far i) p e in
          let w : position (nat_eq n) (map number t.firsts) ≡ Some p = ap (position (nat_eq n)) (sym same ∙ s.1) ∙ here in
          let at = position_within (nat_eq n) (map number t.firsts) p w in
          let a : p ≡ place (map number t.firsts) n = at.0 in
          let b : p ≡ place (so_far i) n = within.0 in
          let c : place (so_far i) n < length (so_far i) = within.1 in
          omega arith

  behind : (i n : ℕ) → (DefinedBefore f i n → ⊥) → length (so_far i) ≤ place (map number t.firsts) n
  behind i n none = by (position (nat_eq n) (so_far i)) refl
    where
      by : (o : Option ℕ) → position (nat_eq n) (so_far i) ≡ o → length (so_far i) ≤ place (map number t.firsts) n
      by None e = (let s = split i in rw (sym same ∙ s.1) (place_past (so_far i) s.0 n (at_end (nat_eq n) (so_far i) e)))
      by (Some p) e = absurd (none ((declared (names_of (defs_of (take i (steps f))))).has n p e))

  pub untyped_up : (s : ℕ) → UntypedAt W ends (steps f) s → IsUntyped f s
  untyped_up s (i, step, inst, x, at, has, is, asked, late) =
      let (d, e, found, (k, c), le) = late_words t.firsts ends right (length (so_far i)) x.number (rw same at late) in (
        i,
        step,
        inst,
        x,
        e,
        at,
        has,
        is,
        asked,
        (d, first.looks x.number ∙ found, (k, chain_same (value_defs f) t.firsts first.looks k d ∙ c)),
        not_before i e.name.number le,
      )

  pub untyped_down : (s : ℕ) → IsUntyped f s → UntypedAt W ends (steps f) s
  untyped_down s (i, step, inst, x, e, at, has, is, asked, (d, found, (k, c)), none) = (
    i,
    step,
    inst,
    x,
    at,
    has,
    is,
    asked,
    (let late = words_late t.firsts ends right (length (so_far i)) x.number d e (sym (first.looks x.number) ∙ found) (k, sym (chain_same (value_defs f) t.firsts first.looks k d) ∙ c) (behind i e.name.number none) in rw same late),
  )
