-- A row that stands at its word's number, or just behind it, is found there, and no other row need be looked at.
use Rattle.std.proofs.Common.{◌≡◌, ℕ, zero, suc, ◌+◌, ◌*◌, ◌-◌, ◌/◌, ◌%◌, ◌<◌, ◌≤◌, Bool, true, false, ◌&&◌, not, List, [], ◌∷◌, ◌++◌, nat_lt, map, length, take, drop, get_or, None, Some, refl, ap, ◌∙◌, arith}
use Rattle.std.proofs.Math.Numerals.{add-one}
use Rattle.std.specs.List.{list_all}
use Rattle.std.specs.Str.{bytes_eq}
use Rattle.std.proofs.lemmas.Bool.{lt-ltb, ltb-true, and_parts}
use Rattle.std.proofs.lemmas.Slice.Eq.{bytes_eq-Decides}
use Rattle.clif_words.specs.declared.words.TheConstants.{PLACES, SHIFTS}
use Rattle.clif_words.specs.Table.{Row, all_words}
use Rattle.clif_words.specs.Words.{Meaning, look_up, means}

-- no row has a word that passes a test which the table's words fail
pub look_up-none : (test : List ℕ → Bool) (table : List Row) (word : List ℕ) → list_all (λ (row : Row). not (test row.word)) table ≡ true → test word ≡ true → look_up table word ≡ None
look_up-none test [] word fail pass = refl
look_up-none test (row ∷ rest) word fail pass =
    let two = and_parts (not (test row.word)) (list_all (λ (row : Row). not (test row.word)) rest) fail in
    go (bytes_eq row.word word) refl two.0 (look_up-none test rest word two.1 pass)
  where
    go : (b : Bool) → bytes_eq row.word word ≡ b → not (test row.word) ≡ true → look_up rest word ≡ None → look_up (row ∷ rest) word ≡ None
    go true same differs ih = absurd (let e : row.word ≡ word = (bytes_eq-Decides row.word word).0 same in let yes : test row.word ≡ true = ap test e ∙ pass in let bad : not true ≡ true = rw yes at differs in cc)
    go false other differs ih = rw other ih

-- each row stands at the number of its word or just behind it, where the first row stands at n
abbrev pub placed : (List ℕ → ℕ) → ℕ → List Row → Bool
placed number n [] = true
placed number n (row ∷ rest) = (nat_lt (number row.word) (n + 1) && nat_lt n (number row.word + 2)) && placed number (n + 1) rest

module _ (number : List ℕ → ℕ) (word : List ℕ) where
  near : (other : List ℕ) (n : ℕ) → bytes_eq other word ≡ true → (nat_lt (number other) (n + 1) && nat_lt n (number other + 2)) ≡ true → (number word < n + 1) × (n < number word + 2)
  near other n same at =
      let e : number other ≡ number word = ap number ((bytes_eq-Decides other word).0 same) in
      let two = and_parts (nat_lt (number other) (n + 1)) (nat_lt n (number other + 2)) at in
      let low = ltb-true (number other) (n + 1) two.0 in
      let high = ltb-true n (number other + 2) two.1 in
      (omega arith, omega arith)

  look_up-past : (n : ℕ) (table : List Row) → placed number n table ≡ true → number word + 2 ≤ n → look_up table word ≡ None
  look_up-past n [] all past = refl
  look_up-past n (row ∷ rest) all past =
      let two = and_parts (nat_lt (number row.word) (n + 1) && nat_lt n (number row.word + 2)) (placed number (n + 1) rest) all in
      go (bytes_eq row.word word) refl two.0 (look_up-past (n + 1) rest two.1 (omega arith))
    where
      go : (b : Bool) → bytes_eq row.word word ≡ b → (nat_lt (number row.word) (n + 1) && nat_lt n (number row.word + 2)) ≡ true → look_up rest word ≡ None → look_up (row ∷ rest) word ≡ None
      go true same at ih = absurd (let e = near row.word n same at in omega arith)
      go false other at ih = rw other ih

  look_up-behind : (n : ℕ) (table : List Row) → placed number n table ≡ true → n ≡ number word + 1 → look_up table word ≡ look_up (take 1 table) word
  look_up-behind n [] all at = refl
  look_up-behind n (row ∷ rest) all at =
      let two = and_parts (nat_lt (number row.word) (n + 1) && nat_lt n (number row.word + 2)) (placed number (n + 1) rest) all in
      go (bytes_eq row.word word) refl (look_up-past (n + 1) rest two.1 (omega arith))
    where
      go : (b : Bool) → bytes_eq row.word word ≡ b → look_up rest word ≡ None → look_up (row ∷ rest) word ≡ look_up (row ∷ []) word
      go true same ih = rw same refl
      go false other ih = rw other ih

  look_up-there : (n k : ℕ) (table : List Row) → placed number n table ≡ true → number word ≡ n + k → look_up table word ≡ look_up (take 2 (drop k table)) word
  look_up-there n zero [] all at = refl
  look_up-there n (suc k) [] all at = refl
  look_up-there n zero (row ∷ rest) all at =
      let two = and_parts (nat_lt (number row.word) (n + 1) && nat_lt n (number row.word + 2)) (placed number (n + 1) rest) all in
      go (bytes_eq row.word word) refl (look_up-behind (n + 1) rest two.1 (omega arith))
    where
      go : (b : Bool) → bytes_eq row.word word ≡ b → look_up rest word ≡ look_up (take 1 rest) word → look_up (row ∷ rest) word ≡ look_up (row ∷ take 1 rest) word
      go true same ih = rw same refl
      go false other ih = rw other ih
  look_up-there n (suc k) (row ∷ rest) all at =
      let two = and_parts (nat_lt (number row.word) (n + 1) && nat_lt n (number row.word + 2)) (placed number (n + 1) rest) all in
      go (bytes_eq row.word word) refl two.0 (look_up-there (n + 1) k rest two.1 (omega arith))
    where
      go : (b : Bool) → bytes_eq row.word word ≡ b → (nat_lt (number row.word) (n + 1) && nat_lt n (number row.word + 2)) ≡ true → look_up rest word ≡ look_up (take 2 (drop k rest)) word
          → look_up (row ∷ rest) word ≡ look_up (take 2 (drop k rest)) word
      go true same here ih = absurd (let e = near row.word n same here in omega arith)
      go false other here ih = rw other ih

-- the sum of a word's first, second and last byte and its length
abbrev pub sum_of : List ℕ → ℕ
sum_of word = get_or word 0 0 * 32 + get_or word 1 0 * 127 + get_or word (length word - 1) 0 + length word % 32 * 3

-- the number in the table of words to which a sum leads
abbrev pub number_at : ℕ → ℕ
number_at sum = get_or PLACES ((sum / 64 + get_or SHIFTS (sum % 64) 0) % 256) 0

all_placed : placed (λ word. number_at (sum_of word)) 0 all_words ≡ true
unfolding all_words
all_placed = refl

pub look_up-placed : (word : List ℕ) → look_up all_words word ≡ look_up (take 2 (drop (number_at (sum_of word)) all_words)) word
look_up-placed word = look_up-there (λ word. number_at (sum_of word)) word 0 (number_at (sum_of word)) all_words all_placed (omega arith)

-- a test that each element passes, and what stands in for one past the end
test_at : (test : ℕ → Bool) (xs : List ℕ) (i d : ℕ) → list_all test xs ≡ true → test d ≡ true → test (get_or xs i d) ≡ true
test_at test [] i d all past = past
test_at test (x ∷ xs) zero d all past = (and_parts (test x) (list_all test xs) all).0
test_at test (x ∷ xs) (suc i) d all past = test_at test xs i d (and_parts (test x) (list_all test xs) all).1 past

pub number_at-below : (sum : ℕ) → number_at sum < 202
number_at-below sum = ltb-true (number_at sum) 202 (test_at (λ number. nat_lt number 202) PLACES ((sum / 64 + get_or SHIFTS (sum % 64) 0) % 256) 0 refl refl)

pub words_count : length all_words ≡ 203
unfolding all_words
words_count = refl

-- each word has two letters or more
pub short_word : (word : List ℕ) → length word < 2 → look_up all_words word ≡ None
unfolding all_words
short_word word short = look_up-none (λ word. nat_lt (length word) 2) all_words word refl (lt-ltb (length word) 2 short)

-- a word looked for in the row at a place, of a table that is kept as rows of another type
one_row : {A : Type 0} (row : A → Row) (table : List A) (n : ℕ) (d : A) → n < length table → take 1 (drop n (map row table)) ≡ row (get_or table n d) ∷ []
one_row row [] n d below = absurd (omega arith)
one_row row (x ∷ xs) zero d below = refl
one_row row (x ∷ xs) (suc n) d below = one_row row xs n d (omega arith)

pub look_up-row : {A : Type 0} (row : A → Row) (table : List A) (n : ℕ) (d : A) (word : List ℕ) → n < length table → look_up (row (get_or table n d) ∷ []) word ≡ look_up (take 1 (drop n (map row table))) word
look_up-row row table n d word below = rw (one_row row table n d below) refl

-- a row of the first of two tables, and one of the second
front_row : (table others : List Row) (n : ℕ) → n < length table → take 1 (drop n table) ≡ take 1 (drop n (table ++ others))
front_row [] others n below = absurd (omega arith)
front_row (x ∷ xs) others zero below = refl
front_row (x ∷ xs) others (suc n) below = front_row xs others n (omega arith)

row_behind : (table others : List Row) (m n : ℕ) → m ≡ length table + n → drop m (table ++ others) ≡ drop n others
row_behind [] others m n is = let e : m ≡ n = omega (arith, is) in rw e refl
row_behind (row ∷ table) others zero n is = absurd (omega (arith, is))
row_behind (row ∷ table) others (suc m) n is = row_behind table others m n (omega (arith, is))

-- a word looked for in the row at a number, where some rows come first and others behind them
module _ (table others all : List Row) (is : all ≡ table ++ others) where
  pub look_up-front : (n : ℕ) (word : List ℕ) → n < length table → look_up (take 1 (drop n table)) word ≡ look_up (take 1 (drop n all)) word
  look_up-front n word below = rw (is, front_row table others n below) refl

  pub look_up-others : (m n : ℕ) (word : List ℕ) → m ≡ length table + n → look_up (take 1 (drop n others)) word ≡ look_up (take 1 (drop m all)) word
  look_up-others m n word at = rw (is, row_behind table others m n at) refl

-- two rows, one after the other
pub two_rows : (table : List Row) (n : ℕ) (word : List ℕ) (m : Meaning) → look_up (take 1 (drop n table)) word ≡ Some m → look_up (take 2 (drop n table)) word ≡ Some m
two_rows [] zero word m is = absurd cc
two_rows [] (suc n) word m is = absurd cc
two_rows (row ∷ rest) (suc n) word m is = two_rows rest n word m is
two_rows (row ∷ rest) zero word m is = go (bytes_eq row.word word) refl is
  where
    go : (b : Bool) → bytes_eq row.word word ≡ b → look_up (row ∷ []) word ≡ Some m → look_up (row ∷ take 1 rest) word ≡ Some m
    go true same is = rw same (rw same at is)
    go false other is = absurd (let bad : None ≡ Some m = rw other at is in cc)

next_step : (table : List Row) (n : ℕ) (word : List ℕ) → look_up (take 1 (drop n table)) word ≡ None → look_up (take 2 (drop n table)) word ≡ look_up (take 1 (drop (suc n) table)) word
next_step [] zero word is = refl
next_step [] (suc n) word is = refl
next_step (row ∷ rest) (suc n) word is = next_step rest n word is
next_step (row ∷ rest) zero word is = go (bytes_eq row.word word) refl is
  where
    go : (b : Bool) → bytes_eq row.word word ≡ b → look_up (row ∷ []) word ≡ None → look_up (row ∷ take 1 rest) word ≡ look_up (take 1 rest) word
    go true same is = absurd (let bad : Some (means row.class row.number) ≡ None = rw same at is in cc)
    go false other is = rw other refl

pub next_row : (table : List Row) (n : ℕ) (word : List ℕ) → look_up (take 1 (drop n table)) word ≡ None → look_up (take 2 (drop n table)) word ≡ look_up (take 1 (drop (n + 1) table)) word
next_row table n word is = rw add-one (next_step table n word is)
