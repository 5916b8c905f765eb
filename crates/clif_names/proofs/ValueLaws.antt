-- The numbers that the names of a function give to its values are their numbers in the text.
use Rattle.std.proofs.Common.{◌≡◌, ℕ, zero, suc, ◌+◌, ◌<◌, ◌≤◌, inl, inr, true, List, [], ◌∷◌, ◌++◌, length, take, get_or, slice_get, Option, None, Some, map, refl, sym, ap, subst, ◌∙◌, arith, append_assoc, length-append}
use Rattle.std.specs.Prelude.{nat_eq, fold, position}
use Rattle.std.proofs.lemmas.Bool.Decides.{eqb_tells, leb_tells}
use Rattle.std.proofs.lemmas.List.{append-nil, length-map, map-append, take_all}
use Rattle.std.proofs.lemmas.Option.{slice_get-get_or, slice_get_within}
use Rattle.ir_core.specs.Size.{total}
use Rattle.token_reader.specs.declared.raw.RawName.{RawName}
use Rattle.name_tables.specs.declared.firsts.Def.{Def}
use Rattle.name_tables.specs.declared.links.End.{End}
use Rattle.name_tables.specs.declared.names.Names.{Names}
use Rattle.name_tables.specs.declared.tables.Tables.{Tables}
use Rattle.clif_names.specs.declared.uses.Uses.{Uses}
use Rattle.name_tables.specs.Aliases.{AreCounts, link_of, value_count}
use Rattle.name_tables.specs.Chains.{Ending, Ends, Lost, look, chain, own_name, numbered, HasNumber, IsNumbering}
use Rattle.name_tables.specs.Defining.{no_tables, define_value}
use Rattle.name_tables.specs.Definitions.{Values, definitions, value_defs, names_of}
use Rattle.clif_names.specs.FunctionNames.{value_at, ValuesNumbered}
use Rattle.name_tables.specs.Links as places
use Rattle.clif_names.specs.Listed.{has_end, chains_end}
use Rattle.name_tables.specs.Uses.{uses}
use Rattle.name_tables.specs.Words.{place_in}
use Rattle.name_tables.proofs.ChainPlaces.{number, place, look_place}
use Rattle.name_tables.proofs.ChainWords.{word_place, end_kept}
use Rattle.clif_names.proofs.FunctionLaws.{table_is, same_firsts, right_firsts, same_late}
use Rattle.clif_names.proofs.ListedLaws.{all_in}
use Rattle.name_tables.proofs.ChainLaws.{found_at, in_found, end_first}
use Rattle.name_tables.proofs.DefinedWords.{NoRepeats, place_here, place_there}
use Rattle.clif_names.proofs.Numberings.{no_repeats, all_end}
use Rattle.name_tables.proofs.TakingLaws.{Holds, holds_none, holds_next, fresh, taken}

-- ---- counts

total_values : (ds : List Def) → total value_count ds ≡ length (numbered ds)
total_values [] = refl
total_values (d ∷ ds) = omega (arith, total_values ds, length-append (own_name d) (numbered ds))

-- a value's place among the values is how many values are defined before it
value_place : (ds : List Def) (j n : ℕ) (e : Def) → slice_get ds j ≡ Some e → place (map number ds) n ≡ j → e.name.number ≡ n → e.target ≡ None
    → place_in (numbered ds) n ≡ total value_count (take j ds)
value_place [] j n e at is same none = absurd cc
value_place (x ∷ xs) zero n e at is same none =
    let s : x ≡ e = cc in
    let first : n ≡ x.name.number = sym same ∙ ap (λ (d : Def). d.name.number) (sym s) in
    let value : x.target ≡ None = ap (λ (d : Def). d.target) s ∙ none in
    rw (value, place_here x.name (numbered xs) n first) refl
value_place (x ∷ xs) (suc j) n e at is same none = elim (eqb_tells n x.name.number) [
  | inl t ↦ absurd (let k = rw t.0 at is in cc)
  | inr f ↦ (let k = rw f.0 at is in let p : place (map number xs) n ≡ j = omega arith in by x.target refl f.1 (value_place xs j n e at p same none))
]
  where
    by : (o : Option RawName) → x.target ≡ o → (n ≡ x.name.number → ⊥) → place_in (numbered xs) n ≡ total value_count (take j xs)
        → place_in (numbered (x ∷ xs)) n ≡ value_count x + total value_count (take j xs)
    by None t other rest = rw (t, place_there x.name (numbered xs) n other) (omega (arith, rest))
    by (Some m) t other rest = rw t (omega (arith, rest))

-- ---- numbers

nothing : Def
nothing = record { name = record { number = 0; spot = 0 }; target = None }

module _ (ds : List Def) (ends : List End) (counts : List ℕ) (right : places.AreEnds (map (link_of (map number ds)) ds) ends) (counted : AreCounts ds counts) where
  abbrev words : List ℕ
  words = map number ds

  nowhere : (n : ℕ) → look ds n ≡ None → position (nat_eq n) words ≡ None
  nowhere n e = elim (leb_tells (suc (place words n)) (length words)) [
    | inl t ↦ absurd (let l : suc (place words n) ≤ length words = t.1 in
        let within : place words n < length ds = omega (arith, length-map ds number) in
        let k = slice_get-get_or ds (place words n) nothing within in let j = look_place ds n in cc)
    | inr f ↦ rw f.0 refl
  ]

  behind : get_or counts (length words) 0 ≡ length (numbered ds)
  behind =
      ap (λ k. get_or counts k 0) (length-map ds number) ∙ counted.each (length ds) (omega arith)
      ∙ ap (total value_count) (take_all (length ds) ds (omega arith)) ∙ total_values ds

  ended : (n : ℕ) (d e : Def) → look ds n ≡ Some d → chain ds (length ds) d ≡ Some (Ends e) → value_at words ends counts n ≡ place_in (numbered ds) e.name.number
  ended n d e found c =
      let first = end_first ds (length ds) n d e found c in
      let at : slice_get ds (place words e.name.number) ≡ Some e = look_place ds e.name.number ∙ first.0 in
      let within = slice_get_within ds (place words e.name.number) e at in
      rw (word_place ds ends right n d found, end_kept ds ends right (length ds) n d e found c)
      (counted.each (place words e.name.number) (omega arith) ∙ sym (value_place ds (place words e.name.number) e.name.number e at refl refl first.1))

  numbers : chains_end ds ≡ true → IsNumbering ds (value_at words ends counts)
  numbers all n = by (look ds n) refl
    where
      go : (d : Def) → look ds n ≡ Some d → (o : Option Ending) → chain ds (length ds) d ≡ o → has_end o ≡ true → HasNumber ds (Some d) (value_at words ends counts n)
      go d found None c h = absurd cc
      go d found (Some Lost) c h = absurd cc
      go d found (Some (Ends e)) c h = (e, (length ds, c), ended n d e found c)

      by : (o : Option Def) → look ds n ≡ o → HasNumber ds o (value_at words ends counts n)
      by None e = rw (nowhere n e) behind
      by (Some d) found =
          let p = found_at ds n d found in
          go d found (chain ds (length ds) d) refl (all_in (λ x. has_end (chain ds (length ds) x)) ds d all (in_found ds p.0 d p.1))

-- ---- without a repeated word, the first definitions are all

firsts_from : (done more : List Def) (t : Tables) → Holds (names_of done) t.values → t.firsts ≡ done → NoRepeats (names_of (done ++ more)) → (fold define_value t more).firsts ≡ done ++ more
unfolding define_value
firsts_from done [] t h w none = w ∙ sym (append-nil done)
firsts_from done (d ∷ more) t h w none =
    let e : done ++ (d ∷ more) ≡ (done ++ d ∷ []) ++ more = sym (append_assoc done (d ∷ []) more) in
    rw e (firsts_from (done ++ d ∷ []) more (define_value t d) holds (next (position (nat_eq d.name.number) t.values.words) refl) (rw e at none))
  where
    apart : NoRepeats (names_of done ++ d.name ∷ names_of more)
    apart = subst NoRepeats (map-append (λ (d : Def). d.name) done (d ∷ more)) none

    holds : Holds (names_of (done ++ d ∷ [])) (define_value t d).values
    holds = subst (λ ns. Holds ns (define_value t d).values) (sym (map-append (λ (d : Def). d.name) done (d ∷ []))) (holds_next (names_of done) t.values d.name h)

    next : (o : Option ℕ) → position (nat_eq d.name.number) t.values.words ≡ o → (define_value t d).firsts ≡ done ++ d ∷ []
    next (Some p) f = absurd (fresh (names_of done) (names_of more) d.name apart (h.has d.name.number p f))
    next None f = rw f (ap (λ (l : List Def). l ++ d ∷ []) w)

firsts_are : (ds : List Def) → NoRepeats (names_of ds) → (fold define_value no_tables ds).firsts ≡ ds
firsts_are ds none = firsts_from [] ds no_tables holds_none refl none

-- ---- functions

pub values_numbered : ValuesNumbered
values_numbered f names free are =
    let ds = value_defs f in
    let ends = names.ends in
    let all : (fold define_value no_tables ds).firsts ≡ ds = firsts_are ds (no_repeats f free) in
    let words : names.uses.values.words ≡ map number ds =
    ap (λ (u : Uses). u.values.words) are.uses ∙ ap (λ (t : Names). t.words) (table_is f ends are.ends Values)
    ∙ (taken (definitions f Values) (uses f Values)).stays ∙ same_late f ends are.ends ∙ ap (map number) all in
    let right = rw all at (right_firsts f ends are.ends) in
    let counted : AreCounts ds names.values_before = subst (λ ds. AreCounts ds names.values_before) (same_firsts f ends are.ends ∙ all) are.counts in
    subst (λ ws. IsNumbering ds (value_at ws ends names.values_before)) (sym words) (numbers ds ends names.values_before right counted (all_end f free))
