-- `v` and digits are no word of the table, but the name of a value.
use Rattle.std.proofs.Common.{◌≡◌, ℕ, zero, suc, ◌+◌, ◌-◌, ◌<◌, ◌≤◌, ◌^◌, Bool, true, false, ◌==◌, ◌&&◌, nat_lt, List, [], ◌∷◌, length, get_or, take, drop, None, refl, ap, arith}
use Rattle.std.proofs.Math.Nat.{pow-suc}
use Rattle.std.specs.Char.{is_ascii_digit}
use Rattle.std.specs.List.{list_all, AllPass}
use Rattle.std.proofs.lemmas.List.Sums.{suffix_len_is, AllPass-from_list_all}
use Rattle.std.proofs.lemmas.List.Elements.{All-get_or}
use Rattle.std.proofs.lemmas.Grind.{common_steps}
use Rattle.std.proofs.lemmas.Bool.{lt-ltb}
use Rattle.clif_words.specs.declared.class.Class.TheVariants.{Value}
use Rattle.clif_words.specs.Table.{all_words}
use Rattle.clif_words.proofs.Places.{look_up-none}
use Rattle.clif_words.specs.Words.{look_up, means, is_plain, digits_len, stem, digits, decimal_after, entity_number, stems, numbered_meaning, word_meaning}

-- whether a word is `v` and digits
abbrev pub is_value : List ℕ → Bool
is_value [] = false
is_value (c ∷ cs) = (c == 118) && list_all is_ascii_digit cs

no_word : (ds : List ℕ) → list_all is_ascii_digit ds ≡ true → look_up all_words (118 ∷ ds) ≡ None
unfolding all_words
no_word ds all = look_up-none is_value all_words (118 ∷ ds) refl all

behind_letter : (ds : List ℕ) → list_all is_ascii_digit ds ≡ true → length (118 ∷ ds) - digits_len (118 ∷ ds) ≡ 1
behind_letter ds all =
    let each = AllPass-from_list_all is_ascii_digit ds all in
    let count : digits_len (118 ∷ ds) ≡ length (118 ∷ ds) - 1 = suffix_len_is is_ascii_digit (118 ∷ ds) 1 0 (omega arith) (later each) (λ _. refl) in
    omega arith
  where
    later : AllPass is_ascii_digit ds → (k : ℕ) → 1 ≤ k → k < length (118 ∷ ds) → is_ascii_digit (get_or (118 ∷ ds) k 0) ≡ true
    later each zero some below = absurd (omega arith)
    later each (suc k) some below = All-get_or (λ c. is_ascii_digit c ≡ true) ds k 0 (omega arith) each

pub value_meaning : (ds : List ℕ) (number : ℕ) → list_all is_ascii_digit ds ≡ true → 0 < length ds → is_plain ds ≡ true
    → decimal_after 0 ds ≡ number → number < 2 ^ 64 → word_meaning (118 ∷ ds) ≡ means Value number
unfolding word_meaning numbered_meaning entity_number stems
value_meaning ds number all some plain is below =
    let one = behind_letter ds all in
    let counted : (digits_len (118 ∷ ds) == 0) ≡ false = grind (arith, common_steps) in
    let letter : stem (118 ∷ ds) ≡ 118 ∷ [] = ap (λ (k : ℕ). take k (118 ∷ ds)) one in
    let rest : digits (118 ∷ ds) ≡ ds = ap (λ (k : ℕ). drop k (118 ∷ ds)) one in
    let fits : nat_lt (decimal_after 0 ds) (2 ^ 64) ≡ true = rw is (lt-ltb number (2 ^ 64) below) in
    rw (no_word ds all) (rw counted (rw letter (rw rest (rw plain (rw fits (rw is refl))))))

-- digits give numbers below a power of ten
power_grows : (i j d : ℕ) → j ≡ i + d → 10 ^ i ≤ 10 ^ j
power_grows i j zero e = let same : j ≡ i = omega arith in rw same (omega arith)
power_grows i zero (suc d) e = absurd (omega arith)
power_grows i (suc j) (suc d) e = let rest = power_grows i j d (omega arith) in let step = pow-suc 10 j in omega arith

pub below_19 : (number i : ℕ) → number < 10 ^ i → i ≤ 19 → number < 10 ^ 19
below_19 number i below few = let grown = power_grows i 19 (19 - i) (omega arith) in omega arith

pub below_18 : (number i : ℕ) → number < 10 ^ i → i < 19 → number < 10 ^ 18
below_18 number i below few = let grown = power_grows i 18 (18 - i) (omega arith) in omega arith
