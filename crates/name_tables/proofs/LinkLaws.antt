-- The links of a function lead to its words.
use Rattle.std.proofs.Common.{◌≡◌, ℕ, zero, suc, ◌<◌, List, [], ◌∷◌, length, get_or, Option, None, Some, map, refl, ap, arith}
use Rattle.std.specs.Prelude.{nat_eq, fold, position}
use Rattle.std.proofs.lemmas.List.{length-map}
use Rattle.token_reader.specs.declared.raw.RawName.{RawName}
use Rattle.clif_read.specs.declared.raw.RawFunction.{RawFunction}
use Rattle.name_tables.specs.declared.firsts.Def.{Def}
use Rattle.name_tables.specs.declared.links.Link.TheVariants.{Value, To}
use Rattle.name_tables.specs.declared.names.Names.{Names}
use Rattle.name_tables.specs.Aliases.{to_place, link_to, link_of}
use Rattle.name_tables.specs.Defining.{no_tables, define_value, defined}
use Rattle.name_tables.specs.Definitions.{value_defs}
use Rattle.name_tables.specs.Links.{InRange}
use Rattle.name_tables.proofs.ChainPlaces.{number, firsts}
use Rattle.name_tables.proofs.DefiningLaws.{defined_values}
use Rattle.name_tables.proofs.WordPlaces.{position_within}

links_within : (words : List ℕ) (fs : List Def) (i j : ℕ) → get_or (map (link_of words) fs) i Value ≡ To j → j < length words
links_within words [] i j h = absurd cc
links_within words (d ∷ fs) zero j h = by d.target h
  where
    at : (o : Option ℕ) (n : ℕ) → position (nat_eq n) words ≡ o → to_place o ≡ To j → j < length words
    at None n e h = absurd cc
    at (Some p) n e h = (let w = position_within (nat_eq n) words p e in let s : p ≡ j = cc in omega (arith, w.0, w.1))

    by : (t : Option RawName) → link_to words t ≡ To j → j < length words
    by None h = absurd cc
    by (Some n) h = at (position (nat_eq n.number) words) n.number refl h
links_within words (d ∷ fs) (suc i) j h = links_within words fs i j h

pub links_in_range : (f : RawFunction) → InRange (map (link_of (defined f).values.words) (defined f).firsts)
links_in_range f i j h =
    let k = links_within (defined f).values.words (defined f).firsts i j h in
    let s = defined_values f in
    let a = ap (λ (t : Names). length t.words) s.values in
    let b = ap (λ (l : List Def). length l) s.firsts in
    let c = ap (λ (l : List ℕ). length l) (firsts (value_defs f)).words in
    omega (arith, k, a, b, c, length-map (defined f).firsts (link_of (defined f).values.words), length-map (fold define_value no_tables (value_defs f)).firsts number)
