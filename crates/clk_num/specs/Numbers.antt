-- Whole numbers modulo 2^w, as the CLIF reference takes the values of its integer types: a value of w bits is a natural
-- number below 2^w, and is read as unsigned (itself) or as signed (two's complement). Bits and bytes are counted from
-- the lowest, from 0.
use Rattle.std.specs.Prelude.{ℕ, zero, suc, ◌+◌, ◌-◌, ◌*◌, ◌/◌, ◌%◌, ◌^◌, nat_lt, ◌==◌, ◌&&◌, Bool, if◌then◌else◌, ℤ}
use Rattle.std.specs.Prelude.{pos, negsuc, ◌-ℤ◌, neg_ℤ}
use Rattle.std.specs.Int.RustNames.{unsigned_abs, int_lt, int_le}

-- ---- signed and unsigned

-- n read as two's complement: n itself below 2^(w-1), else n - 2^w
unfoldable pub signed : ℕ → ℕ → ℤ
signed w n = if nat_lt n (2 ^ (w - 1)) then pos n else (pos n -ℤ pos (2 ^ w))

-- z modulo 2^w: the number from 0 to 2^w - 1 that differs from z by a multiple of 2^w (`negsuc n` is -1 - n)
unfoldable pub wrapped : ℕ → ℤ → ℕ
wrapped w (pos n) = n % 2 ^ w
wrapped w (negsuc n) = 2 ^ w - 1 - n % 2 ^ w

-- z lies from -2^(w-1) to 2^(w-1) - 1
unfoldable pub fits_signed : ℕ → ℤ → Bool
fits_signed w z = int_le (neg_ℤ (pos (2 ^ (w - 1)))) z && int_lt z (pos (2 ^ (w - 1)))

-- z lies from -2^(w-1) to 2^w - 1: it is a value of w bits, read as signed or as unsigned
unfoldable pub fits : ℕ → ℤ → Bool
fits w z = int_le (neg_ℤ (pos (2 ^ (w - 1)))) z && int_lt z (pos (2 ^ w))

-- ---- division of integers

-- z / d, rounded down
unfoldable pub floored : ℤ → ℕ → ℤ
floored (pos n) d = pos (n / d)
floored (negsuc n) d = negsuc (n / d)

-- x / y, rounded toward zero: the quotient of the magnitudes, negative where the signs differ
unfoldable pub quotient : ℤ → ℤ → ℤ
quotient (pos a) (pos b) = pos (a / b)
quotient (pos a) (negsuc b) = neg_ℤ (pos (a / (b + 1)))
quotient (negsuc a) (pos b) = neg_ℤ (pos ((a + 1) / b))
quotient (negsuc a) (negsuc b) = pos ((a + 1) / (b + 1))

-- what that quotient leaves: the remainder of the magnitudes, with the sign of x
unfoldable pub remainder : ℤ → ℤ → ℤ
remainder (pos a) y = pos (a % unsigned_abs y)
remainder (negsuc a) y = neg_ℤ (pos ((a + 1) % unsigned_abs y))

-- ---- bits and bytes

-- bit i of n, 0 or 1
abbrev pub bit : ℕ → ℕ → ℕ
bit n i = n / 2 ^ i % 2

-- byte i of n
abbrev pub byte : ℕ → ℕ → ℕ
byte n i = n / 256 ^ i % 256

-- f 0 + f 1 + .. + f (k - 1)
unfoldable pub sum_below : ℕ → (ℕ → ℕ) → ℕ
sum_below zero f = 0
sum_below (suc k) f = sum_below k f + f k

-- the number of w bits whose bit i is b i
unfoldable pub with_bits : ℕ → (ℕ → ℕ) → ℕ
unfolding sum_below
with_bits w b = sum_below w (λ i. b i * 2 ^ i)

-- the number of k bytes whose byte i is b i
unfoldable pub with_bytes : ℕ → (ℕ → ℕ) → ℕ
unfolding sum_below
with_bytes k b = sum_below k (λ i. b i * 256 ^ i)

-- how many of the bits below w are 0 before the first 1, seen from the highest
unfoldable pub zeros_from_top : ℕ → ℕ → ℕ
zeros_from_top zero n = 0
zeros_from_top (suc k) n = if bit n k == 0 then zeros_from_top k n + 1 else 0

-- the same, seen from the lowest
unfoldable pub zeros_from_bottom : ℕ → ℕ → ℕ
zeros_from_bottom zero n = 0
zeros_from_bottom (suc k) n = if n % 2 == 0 then zeros_from_bottom k (n / 2) + 1 else 0
