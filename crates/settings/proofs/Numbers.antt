-- A number that is parsed, and lies in a range, is the one that the text means.
use Rattle.std.proofs.Common.{◌≡◌, ℕ, ◌^◌, ◌<◌, ◌≤◌, ◌&&◌, Bool, true, false, cond, List, [], ◌∷◌, length, Option, Some, None, refl, ap, sym, arith}
use Rattle.std.specs.Prelude.{nat_lt, nat_le}
use Rattle.std.specs.List.{list_all}
use Rattle.std.specs.Char.{digit_value}
use Rattle.std.specs.Str.Parse.{AllDigits, IsNumeral, digits_value, without_leading_plus}
use Rattle.std.proofs.lemmas.Bool.{lt-ltb, ltb-true, le-leb, lt-leb, leb-true}
use Rattle.clap.proofs.WalkLemmas.{both}
use Rattle.settings.specs.Options.{number_of}

digits_pass : (ds : List ℕ) → AllDigits 10 ds → list_all (λ d. nat_lt (digit_value d) 10) ds ≡ true
digits_pass [] h = refl
digits_pass (d ∷ ds) h = rw (lt-ltb (digit_value d) 10 h.0) (digits_pass ds h.1)

digits_from : (ds : List ℕ) → list_all (λ d. nat_lt (digit_value d) 10) ds ≡ true → AllDigits 10 ds
digits_from [] e = tt
digits_from (d ∷ ds) e = let parts = both _ _ e in (ltb-true _ _ parts.0, digits_from ds parts.1)

-- ---- by the number that `parse` gave

abbrev is_number : (least most : ℕ) → List ℕ → Bool
is_number least most ds = nat_lt 0 (length ds) && list_all (λ d. nat_lt (digit_value d) 10) ds && nat_le least (digits_value 10 ds) && nat_le (digits_value 10 ds) most

abbrev picked : (least most : ℕ) → List ℕ → Option ℕ
picked least most ds = cond (is_number least most ds) (Some (digits_value 10 ds)) None

abbrev within : (least most : ℕ) → ℕ → Option ℕ
within least most n = cond (nat_le least n && nat_le n most) (Some n) None

picked-value : (least most : ℕ) (ds : List ℕ) (n : ℕ) → 0 < length ds → AllDigits 10 ds → n ≡ digits_value 10 ds → picked least most ds ≡ within least most n
picked-value least most ds n some all is = rw (lt-ltb 0 (length ds) some, digits_pass ds all) (ap (within least most) (sym is))

picked-none : (least most : ℕ) (ds : List ℕ) → most < 2 ^ 64 → (IsNumeral 10 ds × (digits_value 10 ds < 2 ^ 64) → ⊥) → None ≡ picked least most ds
picked-none least most ds small bad = go (is_number least most ds) refl
  where
    go : (b : Bool) → is_number least most ds ≡ b → None ≡ picked least most ds
    go false t = rw t refl
    go true t = let upper = both _ _ t in let lower = both _ _ upper.0 in let outer = both _ _ lower.0 in
        let fits : digits_value 10 ds ≤ most = leb-true _ _ upper.1 in
        absurd (bad ((ltb-true _ _ outer.0, digits_from ds outer.1), omega arith))

-- the text is a number that 64 bits hold
abbrev pub IsRead : List ℕ → Type 0
IsRead text = IsNumeral 10 (without_leading_plus text) × (digits_value 10 (without_leading_plus text) < 2 ^ 64)

-- and this is it
abbrev pub Reads : List ℕ → ℕ → Type 0
Reads text n = IsRead text × (n ≡ digits_value 10 (without_leading_plus text))

number_of-value : (least most : ℕ) (text : List ℕ) (n : ℕ) → Reads text n → number_of least most text ≡ within least most n
unfolding number_of
number_of-value least most text n h = picked-value least most (without_leading_plus text) n h.0.0.0 h.0.0.1 h.1

pub in_range : (least most : ℕ) (text : List ℕ) (n : ℕ) → Reads text n → least ≤ n → n ≤ most → Some n ≡ number_of least most text
in_range least most text n h low high = rw (number_of-value least most text n h, le-leb least n low, le-leb n most high) refl

pub below_range : (least most : ℕ) (text : List ℕ) (n : ℕ) → Reads text n → n < least → None ≡ number_of least most text
below_range least most text n h low = rw (number_of-value least most text n h, lt-leb least n low) refl

pub above_range : (least most : ℕ) (text : List ℕ) (n : ℕ) → Reads text n → most < n → None ≡ number_of least most text
above_range least most text n h high = rw (number_of-value least most text n h, lt-leb n most high) (go (nat_le least n))
  where
    go : (b : Bool) → ◌≡◌ {A = Option ℕ} None (cond (b && false) (Some n) None)
    go true = refl
    go false = refl

pub no_number : (least most : ℕ) (text : List ℕ) → (IsRead text → ⊥) → most < 2 ^ 64 → None ≡ number_of least most text
unfolding number_of
no_number least most text bad small = picked-none least most (without_leading_plus text) small bad
