-- Words that increase are searched.
use Rattle.std.proofs.Common.{◌≡◌, ℕ, zero, suc, ◌+◌, ◌-◌, ◌<◌, ◌≤◌, true, false, inl, inr, cond, nat_eq, List, [], ◌∷◌, ◌++◌, length, get_or, take, Option, None, Some, is_none, refl, sym, ap, ◌∙◌, arith}
use Rattle.std.specs.Prelude.{position, Result, Ok, Err}
use Rattle.std.specs.Result.{result_ok}
use Rattle.std.specs.Ordering.{nat_cmp}
use Rattle.std.specs.List.{position_or_len}
use Rattle.std.specs.List.Sorted.{IsBinarySearchResult}
use Rattle.std.proofs.lemmas.Bool.{eq-eqb}
use Rattle.std.proofs.lemmas.Bool.Decides.{eqb_tells, leb_tells}
use Rattle.std.proofs.lemmas.List.{take_more, length-take-le, get_or-take}
use Rattle.std.proofs.lemmas.List.Sorted.{searched}
use Rattle.std.proofs.lemmas.List.Sums.{position_or_len_is}
use Rattle.name_tables.specs.Dense.{IsIncreasing, or_far}
use Rattle.name_tables.proofs.WordPlaces.{differ, yes_less, not_less, position_new, position_more}

rises : (ws : List ℕ) → IsIncreasing ws → (i j : ℕ) → i ≤ j → j < length ws → get_or ws i 0 ≤ get_or ws j 0
rises ws up i j le within = elim (leb_tells (suc i) j) [
  | inl t ↦ (let h = up i j t.1 within in omega (arith, h))
  | inr f ↦ (let k : j < suc i = f.1 in let e : i ≡ j = omega (arith, k, le) in rw e (omega arith))
]

-- what a search finds
pub found : (ws : List ℕ) (x : ℕ) (r : Result ℕ ℕ) → IsBinarySearchResult (λ y. nat_cmp y x) ws r → IsIncreasing ws → result_ok r ≡ position (nat_eq x) ws
found ws x (Ok i) h up =
    let there = searched ws x (Ok i) h (rises ws up) in
    let other : (k : ℕ) → k < i → nat_eq x (get_or ws k 0) ≡ false = λ k less. differ x (get_or ws k 0) (λ e. let below = up k i less there.0 in let is = there.1 in omega (arith, e, below, is)) in
    let first : position_or_len (nat_eq x) ws ≡ i = position_or_len_is (nat_eq x) ws i 0 (let within = there.0 in omega (arith, within)) other (λ within. eq-eqb x (get_or ws i 0) (sym there.1)) in
    sym (rw (first, yes_less i (length ws) there.0) refl)
found ws x (Err i) h up =
    let there = searched ws x (Err i) h (rises ws up) in
    let other : (k : ℕ) → k < length ws → nat_eq x (get_or ws k 0) ≡ false = λ k within. differ x (get_or ws k 0) (λ e. elim (leb_tells (suc k) i) [
      | inl t ↦ (let below = there.1 k t.1 in omega (arith, e, below))
      | inr f ↦ (let less : i < suc k = f.1 in let above = there.2 k (omega (arith, less)) within in omega (arith, e, above))
    ]) in
    let none : position_or_len (nat_eq x) ws ≡ length ws = position_or_len_is (nat_eq x) ws (length ws) 0 (omega arith) other (λ less. absurd (omega (arith, less))) in
    sym (rw (none, not_less (length ws) (length ws) (omega arith)) refl)

module _ (ws near : List ℕ) (up : IsIncreasing ws) (i : ℕ) (within : i < length ws) (far : ℕ → Option ℕ)
    (before : (n : ℕ) → or_far (get_or near n 0) (far n) ≡ or_far (get_or near n 0) (position (nat_eq n) (take i ws))) where
  abbrev word : ℕ
  word = get_or ws i 0

  abbrev first : List ℕ
  first = take i ws

  long : length first ≡ i
  long = length-take-le i ws (omega (arith, within))

  new : position_or_len (nat_eq word) first ≡ length first
  new = position_or_len_is (nat_eq word) first (length first) 0 (omega arith) other (λ less. absurd (omega (arith, less)))
    where
      other : (k : ℕ) → k < length first → nat_eq word (get_or first k 0) ≡ false
      other k less = let same : get_or first k 0 ≡ get_or ws k 0 = get_or-take i ws k 0 (omega (arith, less, long)) in
          let below = up k i (omega (arith, less, long)) within in
          differ word (get_or first k 0) (λ e. omega (arith, e, same, below))

  here : (n : ℕ) → n ≡ word → position (nat_eq n) (first ++ word ∷ []) ≡ Some i
  here n e = rw e (position_new (nat_eq word) first word new (eq-eqb word word refl) ∙ ap (λ k. Some k) long)

  -- a word that the short way doesn't tell is entered, another isn't
  pub entered : get_or near word 0 ≡ 0 → (farther : ℕ → Option ℕ) → ((q : ℕ) → farther q ≡ cond (nat_eq word q) (Some i) (far q)) → (n : ℕ) → or_far (get_or near n 0) (farther n) ≡ or_far (get_or near n 0) (position (nat_eq n) (take (i + 1) ws))
  entered none farther is n = rw (take_more ws i 0 within) (elim (eqb_tells word n) [
    | inl t ↦ rw (is n, t.0, here n (sym t.1)) refl
    | inr f ↦ rw (is n, f.0, position_more (nat_eq n) first word (differ n word (λ e. f.1 (sym e)))) (before n)
  ])

  pub left_out : (p : ℕ) → get_or near word 0 ≡ suc p → (n : ℕ) → or_far (get_or near n 0) (far n) ≡ or_far (get_or near n 0) (position (nat_eq n) (take (i + 1) ws))
  left_out p told n = rw (take_more ws i 0 within) (elim (eqb_tells n word) [
    | inl t ↦ rw (t.1, told) refl
    | inr f ↦ rw (position_more (nat_eq n) first word f.0) (before n)
  ])

-- whether the short way tells
pub not_told : (o : ℕ) → is_none (or_far o None) ≡ true → o ≡ 0
not_told zero h = refl
not_told (suc p) h = absurd cc

pub is_told : (o : ℕ) → is_none (or_far o None) ≡ false → (p : ℕ) × (o ≡ suc p)
is_told zero h = absurd cc
is_told (suc p) h = (p, refl)
