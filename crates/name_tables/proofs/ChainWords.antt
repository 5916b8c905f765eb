-- The ends that the code finds are the ends of the chains of words.
use Rattle.std.proofs.Common.{◌≡◌, ℕ, zero, suc, ◌<◌, ◌≤◌, inl, inr, List, length, get_or, slice_get, Option, None, Some, map, refl, sym, ap, ◌∙◌, arith}
use Rattle.std.specs.Prelude.{nat_eq, position, option_map}
use Rattle.std.proofs.lemmas.Bool.Decides.{leb_tells}
use Rattle.std.proofs.lemmas.List.{length-map}
use Rattle.std.proofs.lemmas.Option.{slice_get-get_or, get_or_from_slice_get, slice_get_within}
use Rattle.name_tables.specs.declared.links.Link.{Link}
use Rattle.name_tables.specs.declared.links.Link.TheVariants.{Value, Missing, To}
use Rattle.name_tables.specs.declared.links.End.{End}
use Rattle.name_tables.specs.declared.links.End.TheVariants.{At, Nowhere, Endless}
use Rattle.name_tables.specs.Links as places
use Rattle.name_tables.specs.declared.firsts.Def.{Def}
use Rattle.name_tables.specs.Chains.{look, Ending, chain, ComesTo, NeverEnds}
use Rattle.name_tables.specs.Chains.Ending.{Ends, Lost}
use Rattle.name_tables.specs.Aliases.{link_of}
use Rattle.name_tables.proofs.LateWords.{IsLate}
use Rattle.name_tables.proofs.ChainPlaces.{number, place, end_of, look_place, same_chain}

-- a chain has one end
pub one_end : (links : List Link) (k j i : ℕ) (a b : End) → places.chain links k i ≡ Some a → places.chain links j i ≡ Some b → a ≡ b
unfolding places.chain
one_end links zero j i a b h g = absurd cc
one_end links (suc k) zero i a b h g = absurd cc
one_end links (suc k) (suc j) i a b h g = by (get_or links i Value) h g (λ n. one_end links k j n a b)
  where
    by : (l : Link) → places.follow l i (places.chain links k) ≡ Some a → places.follow l i (places.chain links j) ≡ Some b
        → ((n : ℕ) → places.chain links k n ≡ Some a → places.chain links j n ≡ Some b → a ≡ b) → a ≡ b
    by Value h g next = cc
    by Missing h g next = cc
    by (To n) h g next = next n h g

position_place : (ws : List ℕ) (n p : ℕ) → position (nat_eq n) ws ≡ Some p → (p ≡ place ws n) × (p < length ws)
position_place ws n p h = elim (leb_tells (suc (place ws n)) (length ws)) [
  | inl t ↦ (let k = rw t.0 at h in let e : place ws n ≡ p = cc in (sym e, let l : suc (place ws n) ≤ length ws = t.1 in omega arith))
  | inr f ↦ absurd (let k = rw f.0 at h in cc)
]

module _ (fs : List Def) (ends : List End) (right : places.AreEnds (map (link_of (map number fs)) fs) ends) where
  abbrev ws : List ℕ
  ws = map number fs

  abbrev links : List Link
  links = map (link_of ws) fs

  ended : (o : Option Ending) (j : ℕ) → option_map (end_of ws) o ≡ Some (At j) → (e : Def) × (o ≡ Some (Ends e)) × (place ws e.name.number ≡ j)
  ended None j h = absurd cc
  ended (Some (Ends e)) j h = (e, refl, cc)
  ended (Some Lost) j h = absurd cc

  pub late_words : (count n : ℕ) → IsLate ws ends count n → (d e : Def) × (look fs n ≡ Some d) × ComesTo fs d (Ends e) × (count ≤ place ws e.name.number)
  unfolding places.Means
  late_words count n (p, j, at, end, le) =
      let q = position_place ws n p at in
      let within : p < length fs = omega (arith, length-map fs number) in
      let d = get_or fs p (record { name = record { number = 0; spot = 0 }; target = None }) in
      let found : look fs n ≡ Some d = sym (look_place fs n) ∙ ap (slice_get fs) (sym q.0) ∙ slice_get-get_or fs p (record { name = record { number = 0; spot = 0 }; target = None }) within in
      let m = rw (get_or_from_slice_get ends p (At j) Nowhere end) at (right.1 p (omega (arith, length-map fs (link_of ws)))) in
      let c = ended (chain fs m.0 d) j (sym (same_chain fs m.0 n d found) ∙ ap (places.chain links m.0) (sym q.0) ∙ m.1) in
      (d, c.0, found, (m.0, c.1), rw c.2 le)

  -- a word with a definition stands among the words
  pub word_place : (n : ℕ) (d : Def) → look fs n ≡ Some d → position (nat_eq n) ws ≡ Some (place ws n)
  word_place n d found =
      let within = slice_get_within fs (place ws n) d (look_place fs n ∙ found) in
      elim (leb_tells (suc (place ws n)) (length ws)) [ inl t ↦ rw t.0 refl | inr f ↦ absurd (let l : length ws < suc (place ws n) = f.1 in omega (arith, length-map fs number)) ]

  -- the end that is kept for a word is the place of the definition that it stands for
  pub end_kept : (k n : ℕ) (d e : Def) → look fs n ≡ Some d → chain fs k d ≡ Some (Ends e) → get_or ends (place ws n) Nowhere ≡ At (place ws e.name.number)
  unfolding places.Means
  end_kept k n d e found c = by (get_or ends (place ws n) Nowhere) (right.1 (place ws n) (let within = slice_get_within fs (place ws n) d (look_place fs n ∙ found) in omega (arith, length-map fs (link_of ws))))
    where
      goes : places.chain links k (place ws n) ≡ Some (At (place ws e.name.number))
      goes = same_chain fs k n d found ∙ ap (option_map (end_of ws)) c

      by : (x : End) → places.Means links x (place ws n) → x ≡ At (place ws e.name.number)
      by (At j) (m, h) = one_end links m k (place ws n) (At j) (At (place ws e.name.number)) h goes
      by Nowhere (m, h) = one_end links m k (place ws n) Nowhere (At (place ws e.name.number)) h goes
      by Endless h = absurd (let g = sym (h k) ∙ goes in cc)

  pub words_late : (count n : ℕ) (d e : Def) → look fs n ≡ Some d → ComesTo fs d (Ends e) → count ≤ place ws e.name.number → IsLate ws ends count n
  words_late count n d e found (k, c) le =
      let within = slice_get_within fs (place ws n) d (look_place fs n ∙ found) in
      let inside : place ws n < length ends = omega (arith, right.0, length-map fs (link_of ws)) in (
        place ws n,
        place ws e.name.number,
        word_place n d found,
        slice_get-get_or ends (place ws n) Nowhere inside ∙ ap (λ (x : End). Some x) (end_kept k n d e found c),
        le,
      )

  -- and a chain that the code calls endless never ends
  pub endless_words : (n : ℕ) (d : Def) → look fs n ≡ Some d → (get_or ends (place ws n) Nowhere ≡ Endless) → NeverEnds fs d
  unfolding places.Means
  endless_words n d found is k = none (chain fs k d) (sym (same_chain fs k n d found) ∙ (rw is at (right.1 (place ws n) (let within = slice_get_within fs (place ws n) d (look_place fs n ∙ found) in omega (arith, length-map fs (link_of ws))))) k)
    where
      none : (o : Option Ending) → option_map (end_of ws) o ≡ None → o ≡ None
      none None h = refl
      none (Some x) h = absurd cc

  pub words_endless : (n : ℕ) (d : Def) → look fs n ≡ Some d → NeverEnds fs d → get_or ends (place ws n) Nowhere ≡ Endless
  unfolding places.Means
  words_endless n d found never = by (get_or ends (place ws n) Nowhere) (right.1 (place ws n) (let within = slice_get_within fs (place ws n) d (look_place fs n ∙ found) in omega (arith, length-map fs (link_of ws))))
    where
      none : (k : ℕ) → places.chain links k (place ws n) ≡ None
      none k = same_chain fs k n d found ∙ ap (option_map (end_of ws)) (never k)

      by : (x : End) → places.Means links x (place ws n) → x ≡ Endless
      by (At j) (m, h) = absurd (let g = none m in cc)
      by Nowhere (m, h) = absurd (let g = none m in cc)
      by Endless h = refl
