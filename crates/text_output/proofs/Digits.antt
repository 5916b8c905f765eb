-- How many digits a number has.
use Rattle.std.proofs.Common.{◌≡◌, ℕ, ◌+◌, ◌/◌, ◌%◌, ◌^◌, ◌<◌, ◌≤◌, List, [], ◌∷◌, ◌++◌, length, length-append, take, drop, sym, ap, ◌∙◌, arith}
use Rattle.std.proofs.Math.Seq.{take-add, take-append_seam}
use Rattle.std.specs.Fmt.{decimal}
use Rattle.std.proofs.lemmas.Fmt.{decimal_digit, decimal_step, length-decimal-le}

pub length_one : (n : ℕ) → n < 10 → length (decimal n) ≡ 1
length_one n h = ap length (decimal_digit n h)

pub length_step : (n : ℕ) → 10 ≤ n → n < 2 ^ 64 → length (decimal n) ≡ length (decimal (n / 10)) + 1
length_step n lo hi = ap length (decimal_step n lo hi) ∙ length-append (decimal (n / 10)) ((48 + n % 10) ∷ [])

pub length_two : (n : ℕ) → 10 ≤ n → n < 100 → length (decimal n) ≡ 2
length_two n lo hi = omega (arith, length_step n lo (omega arith), length_one (n / 10) (omega arith))

pub length_three : (n : ℕ) → 100 ≤ n → n < 1000 → length (decimal n) ≡ 3
length_three n lo hi = omega (arith, length_step n (omega arith) (omega arith), length_two (n / 10) (omega arith) (omega arith))

pub length_four : (n : ℕ) → 1000 ≤ n → n < 10000 → length (decimal n) ≡ 4
length_four n lo hi = omega (arith, length_step n (omega arith) (omega arith), length_three (n / 10) (omega arith) (omega arith))

-- four digits less
pub length_more : (n : ℕ) → 10000 ≤ n → n < 2 ^ 64 → length (decimal n) ≡ length (decimal (n / 10000)) + 4
length_more n lo hi =
    let same : n / 10 / 10 / 10 / 10 ≡ n / 10000 = omega arith in
    let a = length_step n (omega arith) hi in
    let b = length_step (n / 10) (omega arith) (omega arith) in
    let c = length_step (n / 10 / 10) (omega arith) (omega arith) in
    let d = length_step (n / 10 / 10 / 10) (omega arith) (omega arith) in
    let e = ap (λ (m : ℕ). length (decimal m)) same in
    omega (arith, a, b, c, d, e)

-- numbers of 64 bits have twenty at most
pub length_most : (n : ℕ) → n < 2 ^ 64 → length (decimal n) ≤ 20
length_most n h = length-decimal-le 20 n (omega arith) (omega arith) (omega arith)

-- the digits are written behind the bytes that are there
pub digits_behind : (old new ds : List ℕ) (len end start : ℕ) → start + length ds ≡ end → end ≡ len + length ds → drop start new ≡ ds ++ drop end old → take start new ≡ take start old → take end new ≡ take len old ++ ds
digits_behind old new ds len end start s e written before =
    let at : start ≡ len = omega arith in
    let first : take end new ≡ take start new ++ take (length ds) (drop start new) = ap (λ (m : ℕ). take m new) (sym s) ∙ take-add start (length ds) new in
    let second : take (length ds) (drop start new) ≡ ds = ap (take (length ds)) written ∙ take-append_seam ds (drop end old) in
    let third : take start new ≡ take len old = before ∙ ap (λ (m : ℕ). take m old) at in
    first ∙ ap (λ (l : List ℕ). take start new ++ l) second ∙ ap (λ (l : List ℕ). l ++ ds) third
