-- What the operations of CLIF compute, opcode by opcode, over whole numbers: the results or the trap that the CLIF
-- reference gives. A value is its type and a natural number below 2^w, w the type's width in bits.
use Rattle.std.specs.Prelude.{ℕ, ◌+◌, ◌-◌, ◌*◌, ◌/◌, ◌%◌, ◌^◌, min, max, Bool, not, nat_lt, nat_le, ◌==◌, ◌&&◌}
use Rattle.std.specs.Prelude.{if◌then◌else◌, ◌+ℤ◌, ◌-ℤ◌, ◌*ℤ◌, List, [], ◌∷◌, map, Option, Some, None}
use Rattle.std.specs.Int.RustNames.{unsigned_abs, int_lt, int_le}
use Rattle.clk_num.specs.declared.op.Cc.{Cc}
use Rattle.clk_num.specs.declared.op.Cc.TheVariants.{Eq, Ne, Slt, Sge, Sgt, Sle, Ult, Uge, Ugt, Ule}
use Rattle.clk_num.specs.declared.op.Op.{Op}
use Rattle.clk_num.specs.declared.op.Op.TheVariants.{Iadd, Isub, Imul, Band, Bor, Bxor, Smin, Smax, Umin, Umax, Umulhi}
use Rattle.clk_num.specs.declared.op.Op.TheVariants.{Smulhi, Udiv, Urem, Sdiv, Srem, Ineg, Bnot, Iabs, Clz, Ctz, Popcnt}
use Rattle.clk_num.specs.declared.op.Op.TheVariants.{Bitrev, Bswap, Ishl, Ushr, Sshr, Rotl, Rotr, Icmp, Select, Uextend}
use Rattle.clk_num.specs.declared.op.Op.TheVariants.{Sextend, Ireduce, UaddOverflow, SaddOverflow, UsubOverflow}
use Rattle.clk_num.specs.declared.op.Op.TheVariants.{SsubOverflow, Iconcat, Isplit}
use Rattle.clk_num.specs.declared.op.TrapCode.{TrapCode}
use Rattle.clk_num.specs.declared.op.TrapCode.TheVariants.{IntDivz, IntOvf}
use Rattle.clk_num.specs.declared.width.Width.{Width}
use Rattle.clk_num.specs.declared.width.Width.TheVariants.{W8}
use Rattle.clk_num.specs.Width.{bits_of, double, half}
use Rattle.clk_num.specs.Numbers.{signed, wrapped, fits_signed, floored, quotient, remainder, bit, byte, sum_below}
use Rattle.clk_num.specs.Numbers.{with_bits, with_bytes, zeros_from_top, zeros_from_bottom}
use Rattle.clk_num.specs.Rows.{row}

-- ---- values and what an operation gives

-- a value of a type
pub record DataValue : Type 0 where
  pub width : Width
  pub value : ℕ

-- n as a value of type t
abbrev pub value_of : Width → ℕ → DataValue
value_of t n = record { width = t; value = n }

-- the types of some values
abbrev pub widths : List DataValue → List Width
widths xs = map (λ (x : DataValue). x.width) xs

-- the results of an operation, its trap, or neither, where the operands are not those of its row
pub data Evaluation : Type 0 where
  Values : List DataValue → Evaluation
  Traps : TrapCode → Evaluation
  NoRow : Evaluation

-- ---- arithmetic: w is the width in bits, x and y are below 2^w

unfoldable pub iadd : ℕ → ℕ → ℕ → ℕ
iadd w x y = (x + y) % 2 ^ w

unfoldable pub isub : ℕ → ℕ → ℕ → ℕ
isub w x y = (x + 2 ^ w - y) % 2 ^ w

unfoldable pub imul : ℕ → ℕ → ℕ → ℕ
imul w x y = x * y % 2 ^ w

unfoldable pub ineg : ℕ → ℕ → ℕ
ineg w x = (2 ^ w - x) % 2 ^ w

-- the magnitude: that of the least value, 2^(w-1), is the least value again
unfoldable pub iabs : ℕ → ℕ → ℕ
iabs w x = unsigned_abs (signed w x)

unfoldable pub umin : ℕ → ℕ → ℕ → ℕ
umin w x y = min x y

unfoldable pub umax : ℕ → ℕ → ℕ → ℕ
umax w x y = max x y

unfoldable pub smin : ℕ → ℕ → ℕ → ℕ
smin w x y = if int_lt (signed w y) (signed w x) then y else x

unfoldable pub smax : ℕ → ℕ → ℕ → ℕ
smax w x y = if int_lt (signed w x) (signed w y) then y else x

-- the upper w bits of the product of 2w bits
unfoldable pub umulhi : ℕ → ℕ → ℕ → ℕ
umulhi w x y = x * y / 2 ^ w

unfoldable pub smulhi : ℕ → ℕ → ℕ → ℕ
smulhi w x y = wrapped w (floored (signed w x *ℤ signed w y) (2 ^ w))

-- ---- division

unfoldable pub udiv : ℕ → ℕ → ℕ → ℕ
udiv w x y = x / y

unfoldable pub urem : ℕ → ℕ → ℕ → ℕ
urem w x y = x % y

-- toward zero
unfoldable pub sdiv : ℕ → ℕ → ℕ → ℕ
sdiv w x y = wrapped w (quotient (signed w x) (signed w y))

-- with the sign of x; the least value by -1 leaves 0
unfoldable pub srem : ℕ → ℕ → ℕ → ℕ
srem w x y = wrapped w (remainder (signed w x) (signed w y))

-- the trap of a division, where it has one
abbrev pub trap_where : Bool → TrapCode → Option TrapCode
trap_where b code = if b then Some code else None

-- by 0
unfoldable pub divides_by_zero : ℕ → ℕ → ℕ → Option TrapCode
divides_by_zero w x y = trap_where (y == 0) IntDivz

-- by 0, else the least value by -1
unfoldable pub sdiv_trap : ℕ → ℕ → ℕ → Option TrapCode
sdiv_trap w x y = if y == 0 then Some IntDivz else trap_where (x == 2 ^ (w - 1) && y == 2 ^ w - 1) IntOvf

-- ---- bits

unfoldable pub band : ℕ → ℕ → ℕ → ℕ
band w x y = with_bits w (λ i. min (bit x i) (bit y i))

unfoldable pub bor : ℕ → ℕ → ℕ → ℕ
bor w x y = with_bits w (λ i. max (bit x i) (bit y i))

unfoldable pub bxor : ℕ → ℕ → ℕ → ℕ
bxor w x y = with_bits w (λ i. (bit x i + bit y i) % 2)

unfoldable pub bnot : ℕ → ℕ → ℕ
bnot w x = with_bits w (λ i. 1 - bit x i)

-- leading zeros, w for 0
unfoldable pub clz : ℕ → ℕ → ℕ
clz w x = zeros_from_top w x

-- trailing zeros, w for 0
unfoldable pub ctz : ℕ → ℕ → ℕ
ctz w x = zeros_from_bottom w x

unfoldable pub popcnt : ℕ → ℕ → ℕ
popcnt w x = sum_below w (bit x)

unfoldable pub bitrev : ℕ → ℕ → ℕ
bitrev w x = with_bits w (λ i. bit x (w - 1 - i))

unfoldable pub bswap : ℕ → ℕ → ℕ
bswap w x = let bytes = w / 8 in with_bytes bytes (λ i. byte x (bytes - 1 - i))

-- ---- shifts and rotations: the amount is k modulo w

unfoldable pub ishl : ℕ → ℕ → ℕ → ℕ
ishl w x k = x * 2 ^ (k % w) % 2 ^ w

unfoldable pub ushr : ℕ → ℕ → ℕ → ℕ
ushr w x k = x / 2 ^ (k % w)

-- by the sign
unfoldable pub sshr : ℕ → ℕ → ℕ → ℕ
sshr w x k = wrapped w (floored (signed w x) (2 ^ (k % w)))

-- what a shift by the amount takes off at one end comes in at the other
unfoldable pub rotl : ℕ → ℕ → ℕ → ℕ
rotl w x k = let by = k % w in x * 2 ^ by % 2 ^ w + x / 2 ^ (w - by)

unfoldable pub rotr : ℕ → ℕ → ℕ → ℕ
rotr w x k = let by = k % w in x / 2 ^ by + x * 2 ^ (w - by) % 2 ^ w

-- ---- comparison

-- whether the relation holds
unfoldable pub holds : Cc → ℕ → ℕ → ℕ → Bool
holds Eq w x y = x == y
holds Ne w x y = not (x == y)
holds Slt w x y = int_lt (signed w x) (signed w y)
holds Sge w x y = int_le (signed w y) (signed w x)
holds Sgt w x y = int_lt (signed w y) (signed w x)
holds Sle w x y = int_le (signed w x) (signed w y)
holds Ult w x y = nat_lt x y
holds Uge w x y = nat_le y x
holds Ugt w x y = nat_lt y x
holds Ule w x y = nat_le x y

-- 1 for true and 0 for false
abbrev pub flag_of : Bool → ℕ
flag_of b = if b then 1 else 0

-- ---- other widths

-- to v bits by the sign
unfoldable pub sextend : ℕ → ℕ → ℕ → ℕ
sextend v w x = wrapped v (signed w x)

-- the low v bits
unfoldable pub ireduce : ℕ → ℕ → ℕ
ireduce v x = x % 2 ^ v

-- x below, y above
unfoldable pub iconcat : ℕ → ℕ → ℕ → ℕ
iconcat w x y = x + y * 2 ^ w

-- the low v bits, and the bits above them
unfoldable pub low_half : ℕ → ℕ → ℕ
low_half v x = x % 2 ^ v

unfoldable pub high_half : ℕ → ℕ → ℕ
high_half v x = x / 2 ^ v

-- ---- overflow: the exact result is not in the range

unfoldable pub uadd_overflows : ℕ → ℕ → ℕ → Bool
uadd_overflows w x y = nat_le (2 ^ w) (x + y)

unfoldable pub sadd_overflows : ℕ → ℕ → ℕ → Bool
sadd_overflows w x y = not (fits_signed w (signed w x +ℤ signed w y))

unfoldable pub usub_overflows : ℕ → ℕ → ℕ → Bool
usub_overflows w x y = nat_lt x y

unfoldable pub ssub_overflows : ℕ → ℕ → ℕ → Bool
ssub_overflows w x y = not (fits_signed w (signed w x -ℤ signed w y))

-- ---- the table

-- one result
abbrev pub one : Width → ℕ → Evaluation
one t n = Values (value_of t n ∷ [])

-- two results
abbrev pub two : Width → ℕ → Width → ℕ → Evaluation
two t m u n = Values (value_of t m ∷ value_of u n ∷ [])

-- a value of its operand's type
abbrev pub unary : (ℕ → ℕ → ℕ) → List DataValue → Evaluation
unary f (x ∷ []) = one x.width (f (bits_of x.width) x.value)
unary f _ = NoRow

-- a value of the first operand's type
abbrev pub binary : (ℕ → ℕ → ℕ → ℕ) → List DataValue → Evaluation
binary f (x ∷ y ∷ []) = one x.width (f (bits_of x.width) x.value y.value)
binary f _ = NoRow

-- the same, but for a trap
abbrev pub trap_or : Option TrapCode → Evaluation → Evaluation
trap_or None e = e
trap_or (Some code) e = Traps code

abbrev pub division : (ℕ → ℕ → ℕ → Option TrapCode) → (ℕ → ℕ → ℕ → ℕ) → List DataValue → Evaluation
division trap f (x ∷ y ∷ []) =
    trap_or (trap (bits_of x.width) x.value y.value) (one x.width (f (bits_of x.width) x.value y.value))
division trap f _ = NoRow

-- whether it holds, as an i8
abbrev pub comparison : (ℕ → ℕ → ℕ → Bool) → List DataValue → Evaluation
comparison test (x ∷ y ∷ []) = one W8 (flag_of (test (bits_of x.width) x.value y.value))
comparison test _ = NoRow

-- the wrapped result, and whether it overflowed, as an i8
abbrev pub overflowing : (ℕ → ℕ → ℕ → ℕ) → (ℕ → ℕ → ℕ → Bool) → List DataValue → Evaluation
overflowing f test (x ∷ y ∷ []) =
    two x.width (f (bits_of x.width) x.value y.value) W8 (flag_of (test (bits_of x.width) x.value y.value))
overflowing f test _ = NoRow

-- x where c is not 0, else y
abbrev pub select : List DataValue → Evaluation
select (c ∷ x ∷ y ∷ []) = one x.width (if c.value == 0 then y.value else x.value)
select _ = NoRow

-- a value of another type
abbrev pub conversion : Width → (ℕ → ℕ → ℕ) → List DataValue → Evaluation
conversion target f (x ∷ []) = one target (f (bits_of x.width) x.value)
conversion target f _ = NoRow

abbrev pub concatenation : List DataValue → Evaluation
concatenation (x ∷ y ∷ []) = one (double x.width) (iconcat (bits_of x.width) x.value y.value)
concatenation _ = NoRow

-- the low half, then the high half
abbrev pub halves : List DataValue → Evaluation
halves (x ∷ []) = let h = half x.width in two h (low_half (bits_of h) x.value) h (high_half (bits_of h) x.value)
halves _ = NoRow

-- the meaning of an opcode on operands of its row
unfoldable pub meaning : Op → List DataValue → Evaluation
meaning Iadd = binary iadd
meaning Isub = binary isub
meaning Imul = binary imul
meaning Band = binary band
meaning Bor = binary bor
meaning Bxor = binary bxor
meaning Smin = binary smin
meaning Smax = binary smax
meaning Umin = binary umin
meaning Umax = binary umax
meaning Umulhi = binary umulhi
meaning Smulhi = binary smulhi
meaning Udiv = division divides_by_zero udiv
meaning Urem = division divides_by_zero urem
meaning Sdiv = division sdiv_trap sdiv
meaning Srem = division divides_by_zero srem
meaning Ineg = unary ineg
meaning Bnot = unary bnot
meaning Iabs = unary iabs
meaning Clz = unary clz
meaning Ctz = unary ctz
meaning Popcnt = unary popcnt
meaning Bitrev = unary bitrev
meaning Bswap = unary bswap
meaning Ishl = binary ishl
meaning Ushr = binary ushr
meaning Sshr = binary sshr
meaning Rotl = binary rotl
meaning Rotr = binary rotr
meaning (Icmp cc) = comparison (holds cc)
meaning Select = select
meaning (Uextend target) = conversion target (λ w x. x)
meaning (Sextend target) = conversion target (sextend (bits_of target))
meaning (Ireduce target) = conversion target (λ w x. ireduce (bits_of target) x)
meaning UaddOverflow = overflowing iadd uadd_overflows
meaning SaddOverflow = overflowing iadd sadd_overflows
meaning UsubOverflow = overflowing isub usub_overflows
meaning SsubOverflow = overflowing isub ssub_overflows
meaning Iconcat = concatenation
meaning Isplit = halves

-- e where the types are those of a row
abbrev pub within : Option (List Width) → Evaluation → Evaluation
within None e = NoRow
within (Some results) e = e

-- what an operation gives on any operands
unfoldable pub operation : Op → List DataValue → Evaluation
operation op xs = within (row op (widths xs)) (meaning op xs)
