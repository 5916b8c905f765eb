-- Where words stand behind a run.
use Rattle.std.proofs.Common.{◌≡◌, ℕ, zero, suc, ◌+◌, ◌-◌, ◌<◌, ◌≤◌, Bool, true, false, inl, inr, List, [], ◌∷◌, ◌++◌, length, length-append, map, Option, None, Some, is_none, refl, sym, ap, ◌∙◌, arith, append_assoc, add-one}
use Rattle.std.specs.Prelude.{nat_eq, nat_lt, position, option_map}
use Rattle.std.specs.Global.{Box}
use Rattle.std.specs.List.{range_with_len}
use Rattle.std.proofs.lemmas.Bool.{eq-eqb}
use Rattle.std.proofs.lemmas.Bool.Decides.{eqb_tells, leb_tells}
use Rattle.std.proofs.lemmas.List.{length-map, append-nil, map-append}
use Rattle.std.proofs.lemmas.List.FromFn.{length-range_with_len}
use Rattle.name_tables.specs.Dense.{words_of, or_no_words}
use Rattle.name_tables.proofs.WordPlaces.{at, differ, position_front, yes_less, not_less}

range_more : (a n : ℕ) → range_with_len a (suc n) ≡ range_with_len a n ++ (a + n) ∷ []
range_more a zero = ap (λ k. k ∷ []) (let e : a ≡ a + 0 = omega arith in e)
range_more a (suc n) = let e : a + 1 + n ≡ a + suc n = omega arith in ap (λ ks. a ∷ ks) (range_more (a + 1) n ∙ ap (λ k. range_with_len (a + 1) n ++ k ∷ []) e)

same_eq : (r a b : ℕ) → nat_eq (r + a) (r + b) ≡ nat_eq a b
same_eq r a b = elim (eqb_tells a b) [
  | inl t ↦ rw (t.1, eq-eqb (r + b) (r + b) refl, eq-eqb b b refl) refl
  | inr f ↦ differ (r + a) (r + b) (λ e. f.1 (omega (arith, e))) ∙ sym f.0
]

-- words that are all kept less the same number
at_shifted : (r m : ℕ) (bs : List ℕ) → at (nat_eq (r + m)) (map (λ n. r + n) bs) ≡ at (nat_eq m) bs
at_shifted r m [] = refl
at_shifted r m (b ∷ bs) = by (nat_eq m b) refl (at_shifted r m bs)
  where
    by : (t : Bool) → nat_eq m b ≡ t → at (nat_eq (r + m)) (map (λ n. r + n) bs) ≡ at (nat_eq m) bs → at (nat_eq (r + m)) (map (λ n. r + n) (b ∷ bs)) ≡ at (nat_eq m) (b ∷ bs)
    by true e h = rw (same_eq r m b, e) refl
    by false e h = rw (same_eq r m b, e, h) refl

-- a word that the run lacks is behind it
at_passes : (a n x : ℕ) (more : List ℕ) → a + n ≤ x → at (nat_eq x) (range_with_len a n ++ more) ≡ n + at (nat_eq x) more
at_passes a zero x more h = omega arith
at_passes a (suc n) x more h = let no : nat_eq x a ≡ false = differ x a (λ e. omega (arith, e, h)) in let rest = at_passes (a + 1) n x more (omega (arith, h)) in rw (no, rest) (omega arith)

-- a word of the run is as far from its start as from the run's first word
at_in_run : (a n x : ℕ) → x < n → at (nat_eq (a + x)) (range_with_len a n) ≡ x
at_in_run a zero x h = absurd (omega (arith, h))
at_in_run a (suc n) zero h = let yes : nat_eq (a + 0) a ≡ true = eq-eqb (a + 0) a (omega arith) in rw yes refl
at_in_run a (suc n) (suc x) h = let no : nat_eq (a + suc x) a ≡ false = differ (a + suc x) a (λ e. omega (arith, e)) in
    let e : a + 1 + x ≡ a + suc x = omega arith in
    let rest : at (nat_eq (a + suc x)) (range_with_len (a + 1) n) ≡ x = rw (← e) (at_in_run (a + 1) n x (omega (arith, h))) in
    rw (no, rest) (omega arith)

module _ (r : ℕ) (bs : List ℕ) where
  pub words_length : length (words_of r bs) ≡ r + length bs
  words_length = length-append (range_with_len 0 r) (map (λ n. r + n) bs) ∙ rw (length-range_with_len 0 r, length-map bs (λ n. r + n)) refl

  in_run : (x : ℕ) → x < r → at (nat_eq x) (range_with_len 0 r) ≡ x
  in_run x h = let e : 0 + x ≡ x = omega arith in ap (λ k. at (nat_eq k) (range_with_len 0 r)) (sym e) ∙ at_in_run 0 r x h

  pub position_in_run : (x : ℕ) → x < r → position (nat_eq x) (words_of r bs) ≡ Some x
  position_in_run x h = position_front (nat_eq x) (map (λ n. r + n) bs) (range_with_len 0 r) x (rw (in_run x h, length-range_with_len 0 r, yes_less x r h) refl)

  pub behind_run : (x : ℕ) → position (nat_eq x) (words_of r bs) ≡ None → r ≤ x
  behind_run x new = elim (leb_tells (suc x) r) [
    | inl t ↦ absurd (let k : Some x ≡ None = sym (position_in_run x t.1) ∙ new in cc)
    | inr f ↦ (let k : r < suc x = f.1 in omega (arith, k))
  ]

  at_behind : (m : ℕ) → at (nat_eq (r + m)) (words_of r bs) ≡ r + at (nat_eq m) bs
  at_behind m = at_passes 0 r (r + m) (map (λ n. r + n) bs) (omega arith) ∙ ap (λ k. r + k) (at_shifted r m bs)

  pub position_behind : (m : ℕ) → position (nat_eq (r + m)) (words_of r bs) ≡ option_map (λ p. r + p) (position (nat_eq m) bs)
  position_behind m = elim (leb_tells (suc (at (nat_eq m) bs)) (length bs)) [
    | inl t ↦ (
        let less : at (nat_eq m) bs < length bs = t.1 in
        let yes : nat_lt (r + at (nat_eq m) bs) (r + length bs) ≡ true = yes_less (r + at (nat_eq m) bs) (r + length bs) (omega (arith, less)) in
        rw (at_behind m, words_length, yes, t.0) refl)
    | inr f ↦ (
        let more : length bs < suc (at (nat_eq m) bs) = f.1 in
        let no : nat_lt (r + at (nat_eq m) bs) (r + length bs) ≡ false = not_less (r + at (nat_eq m) bs) (r + length bs) (omega (arith, more)) in
        rw (at_behind m, words_length, no, f.0) refl)
  ]

  none_of : (o : Option ℕ) → option_map (λ p. r + p) o ≡ None → o ≡ None
  none_of None h = refl
  none_of (Some p) h = absurd cc

  module _ (x : ℕ) (after : r ≤ x) where
    back : r + (x - r) ≡ x
    back = omega (arith, after)

    pub position_less : position (nat_eq x) (words_of r bs) ≡ option_map (λ p. r + p) (position (nat_eq (x - r)) bs)
    position_less = ap (λ k. position (nat_eq k) (words_of r bs)) (sym back) ∙ position_behind (x - r)

    pub none_behind : position (nat_eq x) (words_of r bs) ≡ None → position (nat_eq (x - r)) bs ≡ None
    none_behind new = none_of (position (nat_eq (x - r)) bs) (sym position_less ∙ new)

    pub words_more : words_of r (bs ++ (x - r) ∷ []) ≡ words_of r bs ++ x ∷ []
    words_more = ap (λ ks. range_with_len 0 r ++ ks) (map-append (λ n. r + n) bs ((x - r) ∷ []) ∙ ap (λ k. map (λ n. r + n) bs ++ k ∷ []) back) ∙ sym (append_assoc (range_with_len 0 r) (map (λ n. r + n) bs) (x ∷ []))

pub no_words : (behind : Option (Box (List ℕ))) → is_none behind ≡ true → length (or_no_words behind) ≡ 0
no_words None h = refl
no_words (Some words) h = absurd cc

-- a run that grows, where no word is behind it
pub run_longer : (r x : ℕ) (bs : List ℕ) → length bs ≡ 0 → x ≡ r → words_of (r + 1) bs ≡ words_of r bs ++ x ∷ []
run_longer r x [] none is = let e : 0 + r ≡ x = omega (arith, is) in
    append-nil (range_with_len 0 (r + 1)) ∙ ap (range_with_len 0) (add-one r) ∙ range_more 0 r ∙ ap (λ k. range_with_len 0 r ++ k ∷ []) e ∙ ap (λ ks. ks ++ x ∷ []) (sym (append-nil (range_with_len 0 r)))
run_longer r x (b ∷ bs) none is = absurd (omega (arith, none))
