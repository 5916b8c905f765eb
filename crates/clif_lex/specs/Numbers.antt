-- What numbers mean: an optional sign, and then decimal digits, or `0x` and hexadecimal digits.
-- An underscore may stand behind the first digit, and stands for nothing.
use Rattle.std.specs.Prelude.{ℕ, ◌+◌, ◌-◌, ◌*◌, ◌^◌, Bool, not, ◌&&◌, ◌==◌, nat_lt, nat_le, if◌then◌else◌, List, []}
use Rattle.std.specs.Prelude.{◌∷◌, drop, ℤ, pos, neg_ℤ}
use Rattle.std.specs.Int.RustNames.{int_le}
use Rattle.std.specs.List.{prefix_len}
use Rattle.std.specs.Char.{is_ascii_hexdigit, digit_value}
use Rattle.clif_lex.specs.Bytes.{minus, underscore, is_sign, is_decimal_byte, is_hex_byte, first, second}

-- the number that digits write after those that wrote n
abbrev pub amount_after : ℕ → ℕ → List ℕ → ℕ
amount_after radix n [] = n
amount_after radix n (c ∷ cs) =
    if c == underscore then amount_after radix n cs else amount_after radix (n * radix + digit_value c) cs

abbrev pub amount : ℕ → List ℕ → ℕ
amount radix digits = amount_after radix 0 digits

abbrev pub sign_len : List ℕ → ℕ
sign_len text = if is_sign (first text) then 1 else 0

-- a text without the sign at its front
abbrev pub unsigned : List ℕ → List ℕ
unsigned text = drop (sign_len text) text

-- whether a text without a sign begins with `0x`
abbrev pub is_hex : List ℕ → Bool
is_hex text = first text == 48 && second text == 120

abbrev pub magnitude : List ℕ → ℕ
magnitude text = if is_hex text then amount 16 (drop 2 text) else amount 10 text

-- the number that a text spells
abbrev pub spelled_number : List ℕ → ℤ
spelled_number text =
    let value = pos (magnitude (unsigned text)) in
    if first text == minus then neg_ℤ value else value

-- whether it is a number of 64 bits, with a sign or without
abbrev pub is_in_range : List ℕ → Bool
is_in_range text =
    let value = magnitude (unsigned text) in
    if first text == minus then nat_le value (2 ^ 63) else nat_lt value (2 ^ 64)

-- whether it is one of the numbers that a Number of a text spells
abbrev pub is_wide : ℤ → Bool
is_wide z = int_le (neg_ℤ (pos (2 ^ 63))) z && int_le z (pos (2 ^ 64 - 1))

-- how many bytes the digits at the front take, with their `0x`
abbrev pub digits_len : List ℕ → ℕ
digits_len text = if is_hex text then 2 + prefix_len is_hex_byte (drop 2 text) else prefix_len is_decimal_byte text

-- how many bytes the number at the front takes
abbrev pub number_len : List ℕ → ℕ
number_len text = sign_len text + digits_len (unsigned text)

-- whether the number at the front has an `0x` with no hexadecimal digit after it
abbrev pub lacks_digits : List ℕ → Bool
lacks_digits text = is_hex (unsigned text) && not (is_ascii_hexdigit (first (drop 2 (unsigned text))))
