-- A number of at most 18 digits with nothing else to it but a sign.
use Rattle.std.proofs.Common.{◌≡◌, ℕ, zero, suc, ◌+◌, ◌*◌, ◌^◌, ◌-◌, ◌<◌, ◌≤◌, Bool, true, false, ◌&&◌, ◌==◌, nat_lt, nat_le, cond, List, [], ◌∷◌, length, take, drop, Ok, refl, sym, ◌∙◌, ap, arith}
use Rattle.std.proofs.Math.Nat.{pow-suc, pow-le-pow_right, mul-le-mul_left}
use Rattle.std.proofs.lemmas.Bool.{and_parts, false_from_ne_true, eqb-true}
use Rattle.std.proofs.Math.Seq.{take-nil}
use Rattle.std.proofs.lemmas.List.{length-drop, drop-drop, length-take}
use Rattle.std.proofs.lemmas.Bool.Decides.{nat_tests}
use Rattle.std.specs.Char.{is_ascii_digit, digit_value}
use Rattle.std.specs.List.{prefix_len, list_all}
use Rattle.clif_lex.specs.declared.spans.TokenKind.TheVariants.{Number}
use Rattle.clif_lex.specs.Bytes.{first, second, minus, underscore, is_letter, is_sign, is_word_byte, is_decimal_byte}
use Rattle.clif_lex.specs.Numbers.{amount_after, amount, sign_len, unsigned, is_hex, magnitude, is_in_range}
use Rattle.clif_lex.specs.Lexing.{token, number_at}

abbrev digits : List ℕ → ℕ
digits text = prefix_len is_ascii_digit text

-- what follows the digits
abbrev after : List ℕ → ℕ
after text = first (drop (digits text) text)

after_more : (c : ℕ) (cs : List ℕ) → is_ascii_digit c ≡ true → after (c ∷ cs) ≡ after cs
after_more c cs h =
    let e : 1 + digits cs ≡ suc (digits cs) = omega arith in
    rw (h, e) refl

no_hex : (text : List ℕ) → is_word_byte (after text) ≡ false → is_hex text ≡ false
no_hex text h = false_from_ne_true (is_hex text) (λ hex. let p = and_parts (first text == 48) (second text == 120) hex in go text (eqb-true (first text) 48 p.0) (eqb-true (second text) 120 p.1) h)
  where
    go : (text : List ℕ) → first text ≡ 48 → second text ≡ 120 → is_word_byte (after text) ≡ false → ⊥
    go [] a b h = absurd cc
    go (c ∷ []) a b h = absurd cc
    go (c ∷ d ∷ ds) a b h = absurd (let g : is_word_byte (after (48 ∷ 120 ∷ ds)) ≡ false = rw (a, b) at h in cc)

same_run : (text : List ℕ) → is_word_byte (after text) ≡ false → prefix_len is_decimal_byte text ≡ digits text
same_run [] h = refl
same_run (c ∷ cs) h =
    elim (is_ascii_digit c) as (λ (b : Bool). is_ascii_digit c ≡ b → prefix_len is_decimal_byte (c ∷ cs) ≡ digits (c ∷ cs)) [
      | true ↦ λ g. let d : is_decimal_byte c ≡ true = rw g refl in rw (d, g) (ap (λ n. 1 + n) (same_run cs (sym (ap is_word_byte (after_more c cs g)) ∙ h)))
      | false ↦ λ g.
          let w : is_word_byte c ≡ false = rw g at h in
          let d : is_decimal_byte c ≡ false = grind (arith, nat_tests) in
          rw (d, g) refl
    ] refl

run_digits : (text : List ℕ) → list_all is_ascii_digit (take (digits text) text) ≡ true
run_digits [] = refl
run_digits (c ∷ cs) =
    elim (is_ascii_digit c) as (λ (b : Bool). is_ascii_digit c ≡ b → list_all is_ascii_digit (take (cond b (1 + digits cs) 0) (c ∷ cs)) ≡ true) [
      | true ↦ λ g. let e : 1 + digits cs ≡ suc (digits cs) = omega arith in rw (e, g) (run_digits cs)
      | false ↦ λ g. refl
    ] refl

digits_no_hex : (text : List ℕ) → list_all is_ascii_digit text ≡ true → is_hex text ≡ false
digits_no_hex text h = false_from_ne_true (is_hex text) (λ hex. let p = and_parts (first text == 48) (second text == 120) hex in go text (eqb-true (second text) 120 p.1) h)
  where
    go : (text : List ℕ) → second text ≡ 120 → list_all is_ascii_digit text ≡ true → ⊥
    go [] b h = absurd cc
    go (c ∷ []) b h = absurd cc
    go (c ∷ d ∷ ds) b h =
        let p = and_parts (is_ascii_digit c) (is_ascii_digit d && list_all is_ascii_digit ds) h in
        let q = and_parts (is_ascii_digit d) (list_all is_ascii_digit ds) p.1 in
        let g : is_ascii_digit 120 ≡ true = rw b at q.0 in
        cc

digit_grows : (n d p x : ℕ) → d ≤ 9 → x < (n * 10 + d + 1) * p → x < (n + 1) * (p * 10)
digit_grows n d p x h below =
    let m : n * 10 + d + 1 ≤ (n + 1) * 10 = omega arith in
    grind (arith, mul-le-mul_left p m)

-- n digits write less than the power of ten
amount_below : (n : ℕ) (text : List ℕ) → list_all is_ascii_digit text ≡ true → amount_after 10 n text < (n + 1) * 10 ^ length text
amount_below n [] h = omega arith
amount_below n (c ∷ cs) h =
    let p = and_parts (is_ascii_digit c) (list_all is_ascii_digit cs) h in
    let u : (c == underscore) ≡ false = grind (arith, nat_tests, p.0) in
    let d : digit_value c ≤ 9 = grind (arith, nat_tests, p.0) in
    let more = amount_below (n * 10 + digit_value c) cs p.1 in
    rw (u, pow-suc 10 (length cs)) (digit_grows n (digit_value c) (10 ^ length cs) _ d more)

short_below : (text : List ℕ) → list_all is_ascii_digit text ≡ true → length text ≤ 18 → amount 10 text < 2 ^ 63
short_below text h short =
    let below = amount_below 0 text h in
    let power = pow-le-pow_right {n = 10} (omega arith) short in
    omega (arith, below, power)

-- the sign and the digits, taken
taken_unsigned : (text : List ℕ) (n : ℕ) → unsigned (take (sign_len text + n) text) ≡ take n (unsigned text)
taken_unsigned [] n =
    let none : List ℕ = [] in
    let all : take (sign_len none + n) none ≡ none = take-nil (sign_len none + n) in
    ap unsigned all ∙ sym (take-nil n)
taken_unsigned (c ∷ cs) n =
    elim (is_sign c) as (λ (b : Bool). is_sign c ≡ b → unsigned (take (cond b 1 0 + n) (c ∷ cs)) ≡ take n (drop (cond b 1 0) (c ∷ cs))) [
      | true ↦ λ g. let e : 1 + n ≡ suc n = omega arith in rw (e, g) refl
      | false ↦ λ g. no_sign n g
    ] refl
  where
    no_sign : (n : ℕ) → is_sign c ≡ false → unsigned (take (0 + n) (c ∷ cs)) ≡ take n (c ∷ cs)
    no_sign zero g = refl
    no_sign (suc n) g = let e : 0 + suc n ≡ suc n = omega arith in rw (e, g) refl

in_range : (text : List ℕ) → magnitude (unsigned text) < 2 ^ 63 → is_in_range text ≡ true
in_range text h = go (first text == minus) (magnitude (unsigned text)) h
  where
    go : (b : Bool) (n : ℕ) → n < 2 ^ 63 → cond b (nat_le n (2 ^ 63)) (nat_lt n (2 ^ 64)) ≡ true
    go true n h = grind (arith, nat_tests)
    go false n h = grind (arith, nat_tests)

plain_number : (at : ℕ) (text : List ℕ) → digits (unsigned text) ≤ 18 → is_word_byte (after (unsigned text)) ≡ false
    → number_at at text ≡ Ok (token Number at (sign_len text + digits (unsigned text)))
unfolding number_at
plain_number at text short stop =
    let rest = unsigned text in
    let n = digits rest in
    let hex = no_hex rest stop in
    let run = same_run rest stop in
    let all = run_digits rest in
    let number = taken_unsigned text n in
    let letter : is_letter (after rest) ≡ false = grind (arith, nat_tests, stop) in
    let spelled = digits_no_hex (take n rest) all in
    let few : length (take n rest) ≤ 18 = grind (arith, length-take n rest, short) in
    let small : magnitude (unsigned (take (sign_len text + n) text)) < 2 ^ 63 = rw (number, spelled) (short_below (take n rest) all few) in
    let good = in_range (take (sign_len text + n) text) small in
    let back : drop (sign_len text + n) text ≡ drop n rest = sym (drop-drop n (sign_len text) text) in
    rw (hex, run, back, letter, good) refl

pub sign_within : (text : List ℕ) → sign_len text ≤ length text
sign_within [] = omega arith
sign_within (c ∷ cs) = go (is_sign c)
  where
    go : (b : Bool) → cond b 1 0 ≤ length (c ∷ cs)
    go true = omega arith
    go false = omega arith

-- the same with the parts as a body finds them
pub plain_parts : (at : ℕ) (text rest : List ℕ) (n : ℕ) → rest ≡ unsigned text → n ≡ prefix_len is_ascii_digit rest → n ≤ 18 → is_word_byte (first (drop n rest)) ≡ false
    → Ok (record { kind = Number; start = at; end = at + (length text - length rest) + n }) ≡ number_at at text
plain_parts at text rest n whole run short stop =
    let same : digits (unsigned text) ≡ n = rw (sym whole) (sym run) in
    let few : digits (unsigned text) ≤ 18 = rw same short in
    let last : is_word_byte (after (unsigned text)) ≡ false = rw (same, sym whole) stop in
    let end : at + (length text - length rest) + n ≡ at + (sign_len text + n) = omega (arith, ap length whole, length-drop (sign_len text) text, sign_within text) in
    rw (plain_number at text few last, same, end) refl
