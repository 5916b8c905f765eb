-- Chains over places are chains over words.
use Rattle.std.proofs.Common.{◌≡◌, ℕ, zero, suc, ◌+◌, ◌<◌, List, [], ◌∷◌, ◌++◌, length, get_or, slice_get, Option, None, Some, map, refl, sym, ap, ◌∙◌, arith, inl, inr, append_assoc}
use Rattle.std.specs.Prelude.{nat_eq, fold, position, option_map}
use Rattle.std.specs.List.{position_or_len}
use Rattle.std.specs.Option.{option_or}
use Rattle.std.proofs.lemmas.Bool.Decides.{eqb_tells, leb_tells}
use Rattle.std.proofs.lemmas.List.Folds.{find-append, position_or_len_push}
use Rattle.std.proofs.lemmas.List.{append-nil, map_push, length-map}
use Rattle.std.proofs.lemmas.Option.{slice_get_past, slice_get-get_or, slice_get_within}
use Rattle.std.proofs.lemmas.Bool.{eq-eqb}
use Rattle.name_tables.proofs.LeastLaws.{get_push}
use Rattle.name_tables.proofs.WordPlaces.{at_end}
use Rattle.name_tables.specs.declared.links.Link.{Link}
use Rattle.name_tables.specs.declared.links.Link.TheVariants.{Value}
use Rattle.name_tables.specs.declared.links.End.{End}
use Rattle.name_tables.specs.declared.links.End.TheVariants.{At, Nowhere}
use Rattle.name_tables.specs.Links as places
use Rattle.token_reader.specs.declared.raw.RawName.{RawName}
use Rattle.name_tables.specs.declared.firsts.Def.{Def}
use Rattle.name_tables.specs.declared.tables.Tables.{Tables}
use Rattle.name_tables.specs.Taking.{declare}
use Rattle.name_tables.specs.Defining.{no_tables, define_value}
use Rattle.name_tables.specs.Chains.{look, Ending, or_lost, onward, chain}
use Rattle.name_tables.specs.Chains.Ending.{Ends, Lost}
use Rattle.name_tables.specs.Aliases.{to_place, link_to, link_of}

abbrev pub number : Def → ℕ
number d = d.name.number

abbrev pub place : List ℕ → ℕ → ℕ
place ws n = position_or_len (nat_eq n) ws

one_more : (n : ℕ) → 1 + n ≡ suc n
one_more n = omega arith

-- what stands at a word's place is its first definition
pub look_place : (fs : List Def) (n : ℕ) → slice_get fs (place (map number fs) n) ≡ look fs n
look_place [] n = refl
look_place (d ∷ fs) n = elim (eqb_tells n d.name.number) [ inl t ↦ rw t.0 refl | inr f ↦ rw (f.0, one_more (place (map number fs) n)) (look_place fs n) ]

pub look_number : (fs : List Def) (n : ℕ) (d : Def) → look fs n ≡ Some d → d.name.number ≡ n
look_number [] n d h = absurd cc
look_number (x ∷ fs) n d h = elim (eqb_tells n x.name.number) [
  | inl t ↦ (let k = rw t.0 at h in let e : x ≡ d = cc in sym (ap number e) ∙ sym t.1)
  | inr f ↦ (let k = rw f.0 at h in look_number fs n d k)
]

abbrev pub end_of : List ℕ → Ending → End
end_of ws (Ends e) = At (place ws e.name.number)
end_of ws Lost = Nowhere

link_at : (ws : List ℕ) (fs : List Def) (i : ℕ) (d : Def) → slice_get fs i ≡ Some d → get_or (map (link_of ws) fs) i Value ≡ link_of ws d
link_at ws [] i d h = absurd cc
link_at ws (x ∷ fs) zero d h = (let e : x ≡ d = cc in ap (link_of ws) e)
link_at ws (x ∷ fs) (suc i) d h = link_at ws fs i d h

module _ (fs : List Def) where
  abbrev ws : List ℕ
  ws = map number fs

  abbrev pub links : List Link
  links = map (link_of ws) fs

  -- the step to a word, by what stands there
  step_to : (k i : ℕ) (m : RawName) → ((d : Def) → look fs m.number ≡ Some d → places.chain links k (place ws m.number) ≡ option_map (end_of ws) (chain fs k d))
      → places.follow (to_place (position (nat_eq m.number) ws)) i (places.chain links k) ≡ option_map (end_of ws) (or_lost (look fs m.number) (chain fs k))
  step_to k i m rest = elim (leb_tells (suc (place ws m.number)) (length ws)) [
    | inl t ↦ rw t.0 (found (look fs m.number) refl t.1)
    | inr f ↦ rw (f.0, none f.1) refl
  ]
    where
      none : length ws < suc (place ws m.number) → look fs m.number ≡ None
      none gt = sym (look_place fs m.number) ∙ slice_get_past fs (place ws m.number) (omega (arith, length-map fs number))

      found : (r : Option Def) → look fs m.number ≡ r → place ws m.number < length ws → places.chain links k (place ws m.number) ≡ option_map (end_of ws) (or_lost (look fs m.number) (chain fs k))
      found (Some d) e lt = rw e (rest d e)
      found None e lt = absurd (let within : place ws m.number < length fs = omega (arith, length-map fs number) in let k = slice_get-get_or fs (place ws m.number) (record { name = m; target = None }) within in let j = look_place fs m.number in cc)

  pub same_chain : (k n : ℕ) (d : Def) → look fs n ≡ Some d → places.chain links k (place ws n) ≡ option_map (end_of ws) (chain fs k d)
  unfolding places.chain chain
  same_chain zero n d h = refl
  same_chain (suc k) n d h = rw (link_at ws fs (place ws n) d (look_place fs n ∙ h)) (by d.target refl (λ m. step_to k (place ws n) m (same_chain k m.number)))
    where
      by : (t : Option RawName) → d.target ≡ t
          → ((m : RawName) → places.follow (to_place (position (nat_eq m.number) ws)) (place ws n) (places.chain links k) ≡ option_map (end_of ws) (or_lost (look fs m.number) (chain fs k)))
          → places.follow (link_to ws d.target) (place ws n) (places.chain links k) ≡ option_map (end_of ws) (onward d.target d (λ m. or_lost (look fs m.number) (chain fs k)))
      by None e step = rw (e, look_number fs n d h) refl
      by (Some m) e step = rw e (step m)

-- the words that are kept are those of the first definitions, and these are what a look-up finds
pub record Firsts (defs : List Def) (t : Tables) : Type 0 where
  pub words : map number t.firsts ≡ t.values.words
  pub looks : (n : ℕ) → look defs n ≡ look t.firsts n
  pub own : (i : ℕ) (d : Def) → slice_get t.firsts i ≡ Some d → place (map number t.firsts) d.name.number ≡ i

has_look : (fs : List Def) (n p : ℕ) → position (nat_eq n) (map number fs) ≡ Some p → (d : Def) × (look fs n ≡ Some d)
has_look fs n p h = elim (leb_tells (suc (place (map number fs) n)) (length (map number fs))) [
  | inl t ↦ by (look fs n) refl t.1
  | inr f ↦ absurd (let k = rw f.0 at h in cc)
]
  where
    by : (o : Option Def) → look fs n ≡ o → place (map number fs) n < length (map number fs) → (d : Def) × (look fs n ≡ Some d)
    by (Some d) e lt = (d, e)
    by None e lt = absurd (let within : place (map number fs) n < length fs = omega (arith, length-map fs number) in
        let k = slice_get-get_or fs (place (map number fs) n) (record { name = record { number = 0; spot = 0 }; target = None }) within in let j = look_place fs n in cc)

or_none : (o : Option Def) → option_or o None ≡ o
or_none None = refl
or_none (Some x) = refl

own_front : (ws : List ℕ) (y n i : ℕ) → place ws n ≡ i → i < length ws → place (ws ++ y ∷ []) n ≡ i
own_front ws y n i e h = elim (eqb_tells (place ws n) (length ws)) [
  | inl s ↦ absurd (let q : place ws n ≡ length ws = s.1 in omega arith)
  | inr d ↦ position_or_len_push (nat_eq n) ws y ∙ rw d.0 e
]

own_last : (ws : List ℕ) (n : ℕ) → position (nat_eq n) ws ≡ None → place (ws ++ n ∷ []) n ≡ length ws
own_last ws n e =
    let end = at_end (nat_eq n) ws e in
    position_or_len_push (nat_eq n) ws n ∙ elim (eqb_tells (place ws n) (length ws)) [
      | inl s ↦ rw (s.0, eq-eqb n n refl) (omega arith)
      | inr d ↦ absurd (d.1 end)
    ]

pub firsts_next : (defs : List Def) (t : Tables) (d : Def) → Firsts defs t → Firsts (defs ++ d ∷ []) (define_value t d)
unfolding define_value declare
firsts_next defs t d h = by (position (nat_eq d.name.number) t.values.words) refl
  where
    by : (o : Option ℕ) → position (nat_eq d.name.number) t.values.words ≡ o → Firsts (defs ++ d ∷ []) (define_value t d)
    by (Some p) e = rw e (record {
      words = h.words;
      looks = λ n. find-append (λ (x : Def). nat_eq n x.name.number) defs (d ∷ []) ∙ rw (h.looks n) (elim (eqb_tells n d.name.number) [
        | inl s ↦ (let q = has_look t.firsts n p (rw (s.1, h.words) e) in rw (q.1) refl)
        | inr f ↦ rw f.0 (or_none (look t.firsts n))
      ]);
      own = h.own;
    })
    by None e = rw e (record {
      words = map_push number t.firsts d ∙ ap (λ (l : List ℕ). l ++ d.name.number ∷ []) h.words;
      looks = λ n. find-append (λ (x : Def). nat_eq n x.name.number) defs (d ∷ []) ∙ rw (h.looks n) (sym (find-append (λ (x : Def). nat_eq n x.name.number) t.firsts (d ∷ [])));
      own = λ i x at. rw (map_push number t.firsts d) (elim (get_push t.firsts d i x at) [
        | inl a ↦ own_front (map number t.firsts) d.name.number x.name.number i (h.own i x a) (let w : i < length t.firsts = slice_get_within t.firsts i x a in omega (arith, length-map t.firsts number))
        | inr b ↦ rw (b.1, b.0) (own_last (map number t.firsts) d.name.number (rw h.words e) ∙ length-map t.firsts number)
      ]);
    })

pub firsts_all : (defs more : List Def) (t : Tables) → Firsts defs t → Firsts (defs ++ more) (fold define_value t more)
firsts_all defs [] t h = rw append-nil h
firsts_all defs (d ∷ more) t h = rw (← append_assoc defs (d ∷ []) more) (firsts_all (defs ++ d ∷ []) more (define_value t d) (firsts_next defs t d h))

pub firsts : (defs : List Def) → Firsts defs (fold define_value no_tables defs)
firsts defs = firsts_all [] defs no_tables (record { words = refl; looks = λ n. refl; own = λ i d at. absurd cc })

-- a chain depends on what is found alone
pub chain_same : (defs fs : List Def) → ((n : ℕ) → look defs n ≡ look fs n) → (k : ℕ) (d : Def) → chain defs k d ≡ chain fs k d
unfolding chain
chain_same defs fs same zero d = refl
chain_same defs fs same (suc k) d = by d.target (λ e. chain_same defs fs same k e)
  where
    lost : (o : Option Def) → ((e : Def) → chain defs k e ≡ chain fs k e) → or_lost o (chain defs k) ≡ or_lost o (chain fs k)
    lost None rest = refl
    lost (Some e) rest = rest e

    by : (t : Option RawName) → ((e : Def) → chain defs k e ≡ chain fs k e) → onward t d (λ m. or_lost (look defs m.number) (chain defs k)) ≡ onward t d (λ m. or_lost (look fs m.number) (chain fs k))
    by None rest = refl
    by (Some m) rest = rw (same m.number) (lost (look fs m.number) rest)
