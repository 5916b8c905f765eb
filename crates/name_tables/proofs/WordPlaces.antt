-- Where a word stands in a list of words.
use Rattle.std.proofs.Common.{◌≡◌, ℕ, suc, ◌+◌, ◌<◌, ◌≤◌, ◌≢◌, Bool, true, false, List, [], ◌∷◌, ◌++◌, length, length-append, None, Some, refl, sym, ◌∙◌, arith, inl, inr, append_assoc}
use Rattle.std.specs.Prelude.{nat_eq, nat_lt, position}
use Rattle.std.specs.List.{position_or_len}
use Rattle.std.proofs.lemmas.Bool.Decides.{eqb_tells, leb_tells}
use Rattle.std.proofs.lemmas.List.{append-nil}
use Rattle.std.proofs.lemmas.List.Folds.{position_or_len_push}

pub differ : (a b : ℕ) → a ≢ b → nat_eq a b ≡ false
differ a b ne = elim (eqb_tells a b) [ inl t ↦ absurd (ne t.1) | inr f ↦ f.0 ]

pub yes_less : (a b : ℕ) → a < b → nat_lt a b ≡ true
yes_less a b h = elim (leb_tells (suc a) b) [ inl t ↦ t.0 | inr f ↦ absurd (let k : b < suc a = f.1 in omega arith) ]

pub not_less : (a b : ℕ) → b ≤ a → nat_lt a b ≡ false
not_less a b h = elim (leb_tells (suc a) b) [ inl t ↦ absurd (let k : suc a ≤ b = t.1 in omega arith) | inr f ↦ f.0 ]

abbrev pub at : (ℕ → Bool) → List ℕ → ℕ
at p ws = position_or_len p ws

abbrev longer : (ws : List ℕ) (y : ℕ) → ℕ
longer ws y = length (ws ++ y ∷ [])

pub position_kept : (p : ℕ → Bool) (ws : List ℕ) (y : ℕ) → at p ws < length ws → position p (ws ++ y ∷ []) ≡ position p ws
position_kept p ws y h = elim (eqb_tells (at p ws) (length ws)) [
  | inl e ↦ absurd (let k : at p ws ≡ length ws = e.1 in omega arith)
  | inr n ↦ (
      let same : at p (ws ++ y ∷ []) ≡ at p ws = position_or_len_push p ws y ∙ rw n.0 refl in
      let one = yes_less (at p ws) (length ws) h in
      let two : nat_lt (at p ws) (longer ws y) ≡ true = yes_less (at p ws) (longer ws y) (omega (arith, length-append ws (y ∷ []))) in
      rw (same, one, two) refl)
]

pub position_new : (p : ℕ → Bool) (ws : List ℕ) (y : ℕ) → at p ws ≡ length ws → p y ≡ true → position p (ws ++ y ∷ []) ≡ Some (length ws)
position_new p ws y h is = elim (eqb_tells (at p ws) (length ws)) [
  | inl e ↦ (
      let same : at p (ws ++ y ∷ []) ≡ length ws = position_or_len_push p ws y ∙ rw (e.0, is) (omega arith) in
      let two : nat_lt (length ws) (longer ws y) ≡ true = yes_less (length ws) (longer ws y) (omega (arith, length-append ws (y ∷ []))) in
      rw (same, two) refl)
  | inr n ↦ absurd (n.1 h)
]

pub position_other : (p : ℕ → Bool) (ws : List ℕ) (y : ℕ) → at p ws ≡ length ws → p y ≡ false → position p (ws ++ y ∷ []) ≡ None
position_other p ws y h is = elim (eqb_tells (at p ws) (length ws)) [
  | inl e ↦ (
      let same : at p (ws ++ y ∷ []) ≡ length ws + 1 = position_or_len_push p ws y ∙ rw (e.0, is) refl in
      let two : nat_lt (length ws + 1) (longer ws y) ≡ false = not_less (length ws + 1) (longer ws y) (omega (arith, length-append ws (y ∷ []))) in
      rw (same, two) refl)
  | inr n ↦ absurd (n.1 h)
]

pub le_length : (p : ℕ → Bool) (ws : List ℕ) → at p ws ≤ length ws
le_length p [] = omega arith
le_length p (w ∷ ws) = by (p w) refl (le_length p ws)
  where
    by : (b : Bool) → p w ≡ b → at p ws ≤ length ws → at p (w ∷ ws) ≤ suc (length ws)
    by true e h = rw e (omega arith)
    by false e h = rw e (omega arith)

pub at_end : (p : ℕ → Bool) (ws : List ℕ) → position p ws ≡ None → at p ws ≡ length ws
at_end p ws h = elim (leb_tells (suc (at p ws)) (length ws)) [
  | inl t ↦ absurd (let k = rw t.0 at h in cc)
  | inr f ↦ (let k : length ws < suc (at p ws) = f.1 in omega (arith, le_length p ws))
]

pub position_more : (p : ℕ → Bool) (ws : List ℕ) (y : ℕ) → p y ≡ false → position p (ws ++ y ∷ []) ≡ position p ws
position_more p ws y is = elim (leb_tells (suc (at p ws)) (length ws)) [
  | inl t ↦ position_kept p ws y t.1
  | inr f ↦ (
      let e : at p ws ≡ length ws = (let k : length ws < suc (at p ws) = f.1 in omega (arith, le_length p ws)) in
      position_other p ws y e is ∙ sym (rw f.0 refl))
]

pub position_within : (p : ℕ → Bool) (ws : List ℕ) (i : ℕ) → position p ws ≡ Some i → (i ≡ at p ws) × (at p ws < length ws)
position_within p ws i h = elim (leb_tells (suc (at p ws)) (length ws)) [
  | inl t ↦ (let k = rw t.0 at h in let e : at p ws ≡ i = cc in (sym e, t.1))
  | inr f ↦ absurd (let k = rw f.0 at h in cc)
]

pub position_front : (p : ℕ → Bool) (more ws : List ℕ) (i : ℕ) → position p ws ≡ Some i → position p (ws ++ more) ≡ Some i
position_front p [] ws i h = rw append-nil h
position_front p (y ∷ more) ws i h = rw (← append_assoc ws (y ∷ []) more) (position_front p more (ws ++ y ∷ []) i (position_kept p ws y (position_within p ws i h).1 ∙ h))
