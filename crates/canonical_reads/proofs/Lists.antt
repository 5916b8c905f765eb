-- Lists of words and of numbers.
use Rattle.std.proofs.Common.{◌≡◌, ℕ, zero, suc, ◌+◌, ◌<◌, ◌≤◌, List, [], ◌∷◌, ◌++◌, map, length, refl, sym, ap, subst, ◌∙◌, arith, inl, inr}
use Rattle.std.specs.List.{range_with_len}
use Rattle.std.proofs.lemmas.Bool.{cases_eq}
use Rattle.ir_core.specs.Lists.{In, Each}
use Rattle.token_reader.specs.declared.raw.RawName.{RawName}
use Rattle.name_tables.specs.Words.{IsDefined}
use Rattle.text_read_back.specs.Bare as bare
use Rattle.text_read_back.specs.Defining.{number_of}

-- what holds of the results, where they have it from the elements
pub each_from : {A B : Type 0} (P : A → Type 0) (Q : B → Type 0) (f : A → B) → ((x : A) → Q (f x) → P x) → (xs : List A) → Each Q (map f xs) → Each P xs
each_from P Q f back [] h = tt
each_from P Q f back (x ∷ xs) h = (back x h.0, each_from P Q f back xs h.1)

-- ---- words whose numbers are below a bound

abbrev pub Within : ℕ → List RawName → Type 0
Within bound ws = Each (λ (w : RawName). w.number < bound) ws

pub within_bare : (bound : ℕ) (ws : List RawName) → Within bound (map bare.bare_name ws) → Within bound ws
within_bare bound ws h = each_from (λ (w : RawName). w.number < bound) (λ (w : RawName). w.number < bound) bare.bare_name (λ w k. k) ws h

pub numbers_bare : (ws : List RawName) → map number_of (map bare.bare_name ws) ≡ map number_of ws
numbers_bare [] = refl
numbers_bare (w ∷ ws) = ap (λ (ns : List ℕ). w.number ∷ ns) (numbers_bare ws)

-- ---- words in order

pub in_range : (a k v : ℕ) → a ≤ v → v < a + k → In v (range_with_len a k)
in_range a zero v low high = absurd (omega (arith, low, high))
in_range a (suc k) v low high = elim (cases_eq v a) [ inl e ↦ inl e | inr e ↦ inr (in_range (a + 1) k v (omega (arith, low, e)) (omega (arith, high))) ]

range_below : (a k : ℕ) → Each (λ (v : ℕ). v < a + k) (range_with_len a k)
range_below a zero = tt
range_below a (suc k) = (omega arith, subst (λ (b : ℕ). Each (λ (v : ℕ). v < b) (range_with_len (a + 1) k)) (let e : a + 1 + k ≡ a + suc k = omega arith in e) (range_below (a + 1) k))

-- words that are numbered in order are below their count
pub counted_within : (ws : List RawName) (k : ℕ) → map number_of ws ≡ range_with_len 0 k → Within k ws
counted_within ws k e = each_from (λ (w : RawName). w.number < k) (λ (v : ℕ). v < k) number_of (λ w h. h) ws (subst (Each (λ (v : ℕ). v < k)) (sym e) (subst (λ (b : ℕ). Each (λ (v : ℕ). v < b) (range_with_len 0 k)) (let z : 0 + k ≡ k = omega arith in z) (range_below 0 k)))

-- and of some first words of such, each number below their count is one's
pub front_defined : (ws : List RawName) (rest : List ℕ) (a k v : ℕ) → map number_of ws ++ rest ≡ range_with_len a k → a ≤ v → v < a + length ws → IsDefined ws v
front_defined [] rest a k v e low high = absurd (omega (arith, low, high))
front_defined (w ∷ ws) rest a zero v e low high = absurd cc
front_defined (w ∷ ws) rest a (suc k) v e low high = elim (cases_eq v a) [
  | inl s ↦ (let first : w.number ≡ a = cc in (0, w, refl, first ∙ sym s))
  | inr s ↦ (let more : map number_of ws ++ rest ≡ range_with_len (a + 1) k = cc in
      let d = front_defined ws rest (a + 1) k v more (omega (arith, low, s)) (omega (arith, high)) in (suc d.0, d.1, d.2, d.3))
]
