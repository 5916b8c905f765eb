-- What the machine's operations on bits give, against the sums over bits and bytes of the table of operations.
use Rattle.std.proofs.Common.{◌≡◌, ℕ, zero, suc, ◌+◌, ◌-◌, ◌*◌, ◌/◌, ◌%◌, ◌^◌, ◌<◌, ◌≤◌, Bool, true, false, cond, refl, sym, ◌∙◌, ap, ap₂, subst, arith, lit<, lit≤, eqb, inl, inr, min, zero-add}
use Rattle.std.specs.Int.{w16, w32, w64, w128, reverse_bits_onto, swap_bytes}
use Rattle.std.proofs.Math.Nat.{mod-eq_of_lt, mod-one, div-one, suc-add, pow-suc, div-eq_of_lt, div-eq_of_lt-le, mul-le-mul_right, add-mul, mul_assoc, mul_comm}
use Rattle.std.proofs.Math.Pow.{pow_mono}
use Rattle.std.proofs.Math.Numerals.{one-add}
use lib.Bits.{bit_and, bit_or, bit_xor}
use lib.Count.{ones, ones_in, ones_step, under, count_leading_zeros, count_trailing_zeros, leading_length}
use Rattle.std.proofs.lemmas.Nat.{pow_pos, mod-pow-add, shr-shr, shl-shr}
use Rattle.std.proofs.lemmas.Nat.Bits.{bit_at_and, bit_at_or, bit_at_xor, bit_at_not, bit_at-suc, bit_at-lt}
use Rattle.std.proofs.lemmas.Bool.Decides.{nat_tests}
use Rattle.std.proofs.lemmas.Bool.{cases_lt}
use Rattle.clk_num.specs.declared.width.Width.{Width}
use Rattle.clk_num.specs.declared.width.Width.TheVariants.{W8, W16, W32, W64, W128}
use Rattle.clk_num.specs.Width.{bits_of}
use Rattle.clk_num.specs.Numbers.{bit, sum_below, with_bits, with_bytes, zeros_from_top, zeros_from_bottom}
use Rattle.clk_num.specs.Operations.{band, bor, bxor, bnot, clz, ctz, popcnt, bitrev, bswap}
use Rattle.clk_num.proofs.Numbers.{power_halves, half_power_le}

-- ---- sums

-- a sum of equal parts
sum_same : (k : ℕ) (f g : ℕ → ℕ) → ((i : ℕ) → i < k → f i ≡ g i) → sum_below k f ≡ sum_below k g
unfolding sum_below
sum_same zero f g h = refl
sum_same (suc k) f g h = ap₂ (λ (a b : ℕ). a + b) (sum_same k f g (λ i p. h i (omega arith))) (h k (omega arith))

-- the first part apart
sum_first : (k : ℕ) (f : ℕ → ℕ) → sum_below (suc k) f ≡ f 0 + sum_below k (λ i. f (suc i))
unfolding sum_below
sum_first zero f = omega arith
sum_first (suc k) f = let e = sum_first k f in omega arith

-- the low w bits of n, by its bits
low_bits : (w n : ℕ) → n % 2 ^ w ≡ with_bits w (bit n)
unfolding with_bits sum_below
low_bits zero n = mod-one n
low_bits (suc k) n =
    let e : n % 2 ^ (1 + k) ≡ (n / 2 ^ k % 2 ^ 1) * 2 ^ k + n % 2 ^ k = mod-pow-add n 1 k in
    let ih = low_bits k n in
    ap (λ (j : ℕ). n % 2 ^ j) (sym (one-add k)) ∙ e ∙ ap (λ (m : ℕ). (n / 2 ^ k % 2) * 2 ^ k + m) ih ∙ omega arith

-- a number with these bits
pub with_bits_is : (w n : ℕ) (b : ℕ → ℕ) → ((i : ℕ) → i < w → bit n i ≡ b i) → n % 2 ^ w ≡ with_bits w b
unfolding with_bits
with_bits_is w n b h = low_bits w n ∙ sum_same w _ _ (λ i p. ap (λ (d : ℕ). d * 2 ^ i) (h i p))

-- which has no more
with_bits_lt : (w : ℕ) (b : ℕ → ℕ) → ((i : ℕ) → b i < 2) → with_bits w b < 2 ^ w
unfolding with_bits sum_below
with_bits_lt zero b h = lit< tt
with_bits_lt (suc k) b h =
    let ih : with_bits k b < 2 ^ k = with_bits_lt k b h in
    let d : b k < 2 = h k in
    let e : 2 ^ suc k ≡ 2 ^ k * 2 = pow-suc 2 k in
    let top : b k * 2 ^ k ≤ 1 * 2 ^ k = mul-le-mul_right (2 ^ k) (omega arith) in
    omega arith

-- ---- bit by bit

pub band_is : (t : Width) (x y : ℕ) → bit_and x y % 2 ^ bits_of t ≡ band (bits_of t) x y
unfolding band
band_is t x y = with_bits_is (bits_of t) _ _ (λ i p. bit_at_and x y i)

pub bor_is : (t : Width) (x y : ℕ) → bit_or x y % 2 ^ bits_of t ≡ bor (bits_of t) x y
unfolding bor
bor_is t x y = with_bits_is (bits_of t) _ _ (λ i p. bit_at_or x y i)

pub bxor_is : (t : Width) (x y : ℕ) → bit_xor x y % 2 ^ bits_of t ≡ bxor (bits_of t) x y
unfolding bxor
bxor_is t x y = with_bits_is (bits_of t) _ _ (λ i p. bit_at_xor x y i)

bits_le : (t : Width) → bits_of t ≤ 128
bits_le W8 = lit≤ tt
bits_le W16 = lit≤ tt
bits_le W32 = lit≤ tt
bits_le W64 = lit≤ tt
bits_le W128 = lit≤ tt

pub value_lt : (t : Width) (x : ℕ) → x < 2 ^ bits_of t → x < 2 ^ 128
value_lt t x h = let e = power_halves t in let b = half_power_le t in omega arith

pub bnot_is : (t : Width) (x : ℕ) → x < 2 ^ bits_of t → (2 ^ 128 - 1 - x) % 2 ^ bits_of t ≡ bnot (bits_of t) x
unfolding bnot
bnot_is t x h =
    let whole = value_lt t x h in
    let le = bits_le t in
    with_bits_is (bits_of t) _ _ (λ i p. bit_at_not w128 x i whole (omega arith))

-- ---- counts

-- a width is less than its power
bits_lt : (t : Width) → bits_of t < 2 ^ bits_of t
bits_lt W8 = lit< tt
bits_lt W16 = lit< tt
bits_lt W32 = lit< tt
bits_lt W64 = lit< tt
bits_lt W128 = lit< tt

-- a number of m bits and no fewer has the other bits above as zeros
top_zeros : (k n m : ℕ) → n < 2 ^ m → 2 ^ m ≤ 2 * n + 1 → m ≤ k → zeros_from_top k n + m ≡ k
unfolding zeros_from_top
top_zeros zero n m h g le = omega arith
top_zeros (suc k) n m h g le = elim (cases_lt k m) [
  | inl above ↦
      let whole : m ≡ suc k = omega arith in
      let e : 2 ^ suc k ≡ 2 ^ k * 2 = pow-suc 2 k in
      let h' : n < 2 ^ suc k = rw (← whole) h in
      let g' : 2 ^ suc k ≤ 2 * n + 1 = rw (← whole) g in
      let p = pow_pos k in
      let one : n / 2 ^ k ≡ 1 = div-eq_of_lt-le {k = 1} (2 ^ k) {m = n} (omega arith) (omega arith) in
      let set : eqb (bit n k) 0 ≡ false = ap (λ (d : ℕ). eqb (d % 2) 0) one in
      rw set (zero-add m ∙ whole)
  | inr within ↦
      let grows : 2 ^ m ≤ 2 ^ k = pow_mono within in
      let none : n / 2 ^ k ≡ 0 = div-eq_of_lt (let small : n < 2 ^ k = omega arith in small) in
      let clear : eqb (bit n k) 0 ≡ true = ap (λ (d : ℕ). eqb (d % 2) 0) none in
      let ih = top_zeros k n m h g within in
      rw clear (omega arith)
]

zeros_from_top_le : (k n : ℕ) → zeros_from_top k n ≤ k
unfolding zeros_from_top
zeros_from_top_le zero n = omega arith
zeros_from_top_le (suc k) n = go (eqb (bit n k) 0) (zeros_from_top_le k n)
  where
    go : (b : Bool) → zeros_from_top k n ≤ k → cond b (zeros_from_top k n + 1) 0 ≤ suc k
    go true ih = omega arith
    go false ih = omega arith

-- the zeros above a value in 128 bits are those above its width, and its own
pub leading_is : (t : Width) (x : ℕ) → x < 2 ^ bits_of t
    → (128 - bits_of t ≤ count_leading_zeros 128 x) × (count_leading_zeros 128 x - (128 - bits_of t) ≡ clz (bits_of t) x)
unfolding clz
leading_is t x h =
    let (m, sums, below, above) = leading_length 128 x (value_lt t x h) in
    let le = bits_le t in
    let within : m ≤ bits_of t = elim (cases_lt (bits_of t) m) [
      | inl over ↦
          let e : 2 ^ suc (bits_of t) ≡ 2 ^ bits_of t * 2 = pow-suc 2 (bits_of t) in
          let grows : 2 ^ suc (bits_of t) ≤ 2 ^ m = pow_mono over in
          absurd (omega arith)
      | inr in_width ↦ in_width
    ] in
    let zeros = top_zeros (bits_of t) x m below above within in
    (omega arith, omega arith)

clz_lt : (t : Width) (x : ℕ) → clz (bits_of t) x < 2 ^ bits_of t
unfolding clz
clz_lt t x = let le = zeros_from_top_le (bits_of t) x in let lt = bits_lt t in omega arith

pub clz_is : (t : Width) (x : ℕ) → x < 2 ^ bits_of t → (count_leading_zeros 128 x - (128 - bits_of t)) % 2 ^ bits_of t ≡ clz (bits_of t) x
clz_is t x h = ap (λ (n : ℕ). n % 2 ^ bits_of t) (leading_is t x h).1 ∙ mod-eq_of_lt (clz_lt t x)

-- the zeros below, as far as a width goes
bottom_zeros : (w k n : ℕ) → w ≤ k → min (count_trailing_zeros k n) w ≡ zeros_from_bottom w n
unfolding zeros_from_bottom count_trailing_zeros
bottom_zeros zero k n h = omega arith
bottom_zeros (suc w) zero n h = absurd (omega arith)
bottom_zeros (suc w) (suc k) n h = go (n % 2) (bottom_zeros w k (n / 2) (omega arith))
  where
    go : (d : ℕ) → min (count_trailing_zeros k (n / 2)) w ≡ zeros_from_bottom w (n / 2)
        → min (under d (count_trailing_zeros k (n / 2))) (suc w) ≡ cond (eqb d 0) (zeros_from_bottom w (n / 2) + 1) 0
    go zero ih = omega arith
    go (suc d) ih = let e : eqb (suc d) 0 ≡ false = grind (arith, nat_tests) in rw e (omega arith)

pub ctz_is : (t : Width) (x : ℕ) → min (count_trailing_zeros 128 x) (bits_of t) % 2 ^ bits_of t ≡ ctz (bits_of t) x
unfolding ctz
ctz_is t x =
    let lt = bits_lt t in
    let small : min (count_trailing_zeros 128 x) (bits_of t) < 2 ^ bits_of t = omega arith in
    mod-eq_of_lt small ∙ bottom_zeros (bits_of t) 128 x (bits_le t)

-- the ones
ones_none : ones 0 ≡ 0
unfolding ones ones_in
ones_none = refl

ones_sum : (k n : ℕ) → n < 2 ^ k → ones n ≡ sum_below k (bit n)
unfolding sum_below
ones_sum zero n h = let e : n ≡ 0 = omega arith in ap ones e ∙ ones_none
ones_sum (suc k) n h =
    let e : 2 ^ suc k ≡ 2 ^ k * 2 = pow-suc 2 k in
    let half : n / 2 < 2 ^ k = omega arith in
    let lowest : bit n 0 ≡ n % 2 = ap (λ (m : ℕ). m % 2) (div-one n) in
    ones_step n ∙ ap₂ (λ (a b : ℕ). a + b) (sym lowest) (ones_sum k (n / 2) half ∙ sum_same k _ _ (λ i p. sym (bit_at-suc n i)))
    ∙ sym (sum_first k (bit n))

bits_sum_le : (k n : ℕ) → sum_below k (bit n) ≤ k
unfolding sum_below
bits_sum_le zero n = omega arith
bits_sum_le (suc k) n = let ih = bits_sum_le k n in let d = bit_at-lt n k in omega arith

pub popcnt_is : (t : Width) (x : ℕ) → x < 2 ^ bits_of t → ones x % 2 ^ bits_of t ≡ popcnt (bits_of t) x
unfolding popcnt
popcnt_is t x h =
    let lt = bits_lt t in
    let le = bits_sum_le (bits_of t) x in
    ap (λ (n : ℕ). n % 2 ^ bits_of t) (ones_sum (bits_of t) x h) ∙ mod-eq_of_lt (omega arith)

-- ---- the bits in the other order

-- a reversal of w + d bits is one of the low w, and then of d
reversal_split : (w d n a : ℕ) → reverse_bits_onto (w + d) n a ≡ reverse_bits_onto d (n / 2 ^ w) (reverse_bits_onto w n a)
unfolding reverse_bits_onto
reversal_split zero d n a = ap₂ (λ (k m : ℕ). reverse_bits_onto k m a) (zero-add d) (sym (div-one n))
reversal_split (suc w) d n a =
    let e : n / 2 / 2 ^ w ≡ n / 2 ^ suc w = shr-shr n 1 w ∙ ap (λ (k : ℕ). n / 2 ^ k) (one-add w) in
    ap (λ (k : ℕ). reverse_bits_onto k n a) (suc-add w d)
    ∙ reversal_split w d (n / 2) (a * 2 + n % 2)
    ∙ ap (λ (m : ℕ). reverse_bits_onto d m (reverse_bits_onto w (n / 2) (a * 2 + n % 2))) e

-- one more bit, moved up
double_times : (a b p q : ℕ) → q ≡ p * 2 → (a * 2 + b) * p ≡ a * q + b * p
double_times a b p q e = add-mul (a * 2) b p ∙ ap (λ (n : ℕ). n + b * p) (mul_assoc a 2 p ∙ ap (λ (n : ℕ). a * n) (mul_comm 2 p ∙ sym e))

-- a reversal of zeros shifts
reversal_none : (d a : ℕ) → reverse_bits_onto d 0 a ≡ a * 2 ^ d
unfolding reverse_bits_onto
reversal_none zero a = omega arith
reversal_none (suc d) a =
    let e : 2 ^ suc d ≡ 2 ^ d * 2 = pow-suc 2 d in
    let ih = reversal_none d (a * 2 + 0) in
    let moved = double_times a 0 (2 ^ d) (2 ^ suc d) e in
    ih ∙ omega arith

-- a reversal, by its bits
reversal_is : (k n a : ℕ) → reverse_bits_onto k n a ≡ a * 2 ^ k + with_bits k (λ i. bit n (k - 1 - i))
unfolding reverse_bits_onto with_bits sum_below
reversal_is zero n a = omega arith
reversal_is (suc k) n a =
    let e : 2 ^ suc k ≡ 2 ^ k * 2 = pow-suc 2 k in
    let ih = reversal_is k (n / 2) (a * 2 + n % 2) in
    let rest : sum_below k (λ i. bit (n / 2) (k - 1 - i) * 2 ^ i) ≡ sum_below k (λ i. bit n (suc k - 1 - i) * 2 ^ i) =
    sum_same k _ _ (λ i p. ap (λ (d : ℕ). d * 2 ^ i) (sym (bit_at-suc n (k - 1 - i)) ∙ ap (bit n) (let j : suc (k - 1 - i) ≡ suc k - 1 - i = omega arith in j))) in
    let place : suc k - 1 - k ≡ 0 = omega arith in
    let lowest : bit n (suc k - 1 - k) ≡ n % 2 = ap (bit n) place ∙ ap (λ (m : ℕ). m % 2) (div-one n) in
    let moved = double_times a (bit n (suc k - 1 - k)) (2 ^ k) (2 ^ suc k) e in
    ih ∙ ap₂ (λ (r d : ℕ). (a * 2 + d) * 2 ^ k + r) rest (sym lowest) ∙ omega arith

pub bitrev_is : (t : Width) (x r k : ℕ) → x < 2 ^ bits_of t → r ≡ reverse_bits_onto 128 x 0 → k ≡ bits_of t
    → r / 2 ^ (128 - k) % 2 ^ bits_of t ≡ bitrev (bits_of t) x
unfolding bitrev
bitrev_is t x r k h e f =
    let w : ℕ = bits_of t in
    let d : ℕ = 128 - w in
    let le = bits_le t in
    let whole : 128 ≡ w + d = omega arith in
    let high : x / 2 ^ w ≡ 0 = div-eq_of_lt h in
    let own : ℕ = with_bits w (λ i. bit x (w - 1 - i)) in
    let own_is : reverse_bits_onto w x 0 ≡ own = reversal_is w x 0 ∙ zero-times (2 ^ w) own in
    let small : own < 2 ^ w = with_bits_lt w _ (λ i. bit_at-lt x (w - 1 - i)) in
    let shifted : r ≡ own * 2 ^ d =
    e ∙ ap (λ (k : ℕ). reverse_bits_onto k x 0) whole ∙ reversal_split w d x 0
    ∙ ap₂ (reverse_bits_onto d) high own_is ∙ reversal_none d own in
    ap₂ (λ (r k : ℕ). r / 2 ^ (128 - k) % 2 ^ w) shifted f ∙ ap (λ (n : ℕ). n % 2 ^ w) (shl-shr own d) ∙ mod-eq_of_lt small
  where
    zero-times : (p n : ℕ) → 0 * p + n ≡ n
    zero-times p n = omega arith

-- ---- the bytes in the other order

swap_16 : (n : ℕ) → swap_bytes w16 n ≡ bswap 16 n
unfolding bswap with_bytes sum_below
swap_16 n = rw (div-one n) (omega arith)

swap_32 : (n : ℕ) → swap_bytes w32 n ≡ bswap 32 n
unfolding bswap with_bytes sum_below
swap_32 n = rw (div-one n) (omega arith)

swap_64 : (n : ℕ) → swap_bytes w64 n ≡ bswap 64 n
unfolding bswap with_bytes sum_below
swap_64 n = rw (div-one n) (omega arith)

swap_128 : (n : ℕ) → swap_bytes w128 n ≡ bswap 128 n
unfolding bswap with_bytes sum_below
swap_128 n = rw (div-one n) (omega arith)

swap_8 : (n : ℕ) → n < 2 ^ 8 → n ≡ bswap 8 n
unfolding bswap with_bytes sum_below
swap_8 n h = rw (div-one n) (omega arith)

-- at the width of a value, where v is what the machine gives
swapped : (t u : Width) (x v : ℕ) → t ≡ u → v ≡ bswap (bits_of u) x → v < 2 ^ bits_of u → v % 2 ^ bits_of t ≡ bswap (bits_of t) x
swapped t u x v e d h =
    ap (λ (t : Width). v % 2 ^ bits_of t) e ∙ mod-eq_of_lt h ∙ d ∙ ap (λ (t : Width). bswap (bits_of t) x) (sym e)

pub swapped_8 : (t : Width) (x v : ℕ) → t ≡ W8 → x < 2 ^ bits_of t → v ≡ x → v % 2 ^ bits_of t ≡ bswap (bits_of t) x
swapped_8 t x v e h d =
    let small : x < 2 ^ 8 = subst (λ (t : Width). x < 2 ^ bits_of t) e h in
    swapped t W8 x v e (d ∙ swap_8 x small) (omega arith)

pub swapped_16 : (t : Width) (x v : ℕ) → t ≡ W16 → v ≡ swap_bytes w16 x → v < 2 ^ 16 → v % 2 ^ bits_of t ≡ bswap (bits_of t) x
swapped_16 t x v e d h = swapped t W16 x v e (d ∙ swap_16 x) h

pub swapped_32 : (t : Width) (x v : ℕ) → t ≡ W32 → v ≡ swap_bytes w32 x → v < 2 ^ 32 → v % 2 ^ bits_of t ≡ bswap (bits_of t) x
swapped_32 t x v e d h = swapped t W32 x v e (d ∙ swap_32 x) h

pub swapped_64 : (t : Width) (x v : ℕ) → t ≡ W64 → v ≡ swap_bytes w64 x → v < 2 ^ 64 → v % 2 ^ bits_of t ≡ bswap (bits_of t) x
swapped_64 t x v e d h = swapped t W64 x v e (d ∙ swap_64 x) h

pub swapped_128 : (t : Width) (x v : ℕ) → t ≡ W128 → v ≡ swap_bytes w128 x → v < 2 ^ 128 → v % 2 ^ bits_of t ≡ bswap (bits_of t) x
swapped_128 t x v e d h = swapped t W128 x v e (d ∙ swap_128 x) h
