-- What the code's comparisons and conversions give, against the table of operations.
use Rattle.std.proofs.Common.{◌≡◌, ℕ, ◌+◌, ◌*◌, ◌/◌, ◌%◌, ◌^◌, ◌<◌, ◌≤◌, Bool, ℤ, refl, sym, ◌∙◌, ap, ap₂, arith, to_z, of_z, lit≤}
use Rattle.std.specs.Int.{w128}
use Rattle.std.proofs.Math.Nat.{mod-eq_of_lt}
use lib.Bits.{bit_or}
use lib.Signed.{mag}
use Rattle.std.proofs.lemmas.Nat.{pow_pos, or_shifted, mul-add-lt, div_below}
use Rattle.clk_num.specs.declared.op.Cc.{Cc}
use Rattle.clk_num.specs.declared.width.Width.{Width}
use Rattle.clk_num.specs.declared.width.Width.TheVariants.{W8, W16, W32, W64, W128}
use Rattle.clk_num.specs.Width.{bits_of, double, half}
use Rattle.clk_num.specs.Numbers.{signed, wrapped}
use Rattle.clk_num.specs.Operations.{holds, sextend, ireduce, iconcat, low_half, high_half}
use Rattle.clk_num.proofs.Numbers.{read_back}

-- a test at the condition that is given
pub held : (given cc : Cc) (w x y : ℕ) (b : Bool) → given ≡ cc → b ≡ holds cc w x y → b ≡ holds given w x y
held given cc w x y b e d = d ∙ ap (λ (cc : Cc). holds cc w x y) (sym e)

pub sextend_is : (t u : Width) (x : ℕ) (z : ℤ) → mag z < 2 ^ 127 → z ≡ signed (bits_of u) x
    → wrapped (bits_of t) (to_z w128 (of_z w128 z)) ≡ sextend (bits_of t) (bits_of u) x
unfolding sextend
sextend_is t u x z h e = ap (wrapped (bits_of t)) (read_back z h ∙ e)

pub ireduce_is : (v x : ℕ) → x % 2 ^ v ≡ ireduce v x
unfolding ireduce
ireduce_is v x = refl

-- ---- twice the width, and half of it

double_power : (t : Width) → bits_of t ≤ 64 → 2 ^ bits_of (double t) ≡ 2 ^ bits_of t * 2 ^ bits_of t
double_power W8 h = refl
double_power W16 h = refl
double_power W32 h = refl
double_power W64 h = refl
double_power W128 h = absurd (omega arith)

power_le : (t : Width) → 2 ^ bits_of t ≤ 2 ^ 128
power_le W8 = lit≤ tt
power_le W16 = lit≤ tt
power_le W32 = lit≤ tt
power_le W64 = lit≤ tt
power_le W128 = lit≤ tt

half_power : (t : Width) → 16 ≤ bits_of t → 2 ^ bits_of t ≡ 2 ^ bits_of (half t) * 2 ^ bits_of (half t)
half_power W8 h = absurd (omega arith)
half_power W16 h = refl
half_power W32 h = refl
half_power W64 h = refl
half_power W128 h = refl

pub iconcat_is : (t d : Width) (x y k : ℕ) → bits_of t ≤ 64 → x < 2 ^ bits_of t → y < 2 ^ bits_of t → k ≡ bits_of t → d ≡ double t
    → bit_or (y * 2 ^ k % 2 ^ 128) x % 2 ^ bits_of d ≡ iconcat (bits_of t) x y
unfolding iconcat
iconcat_is t d x y k n h i e f =
    let p : ℕ = 2 ^ bits_of t in
    let square = double_power t n in
    let most = power_le (double t) in
    let whole : y * p + x < p * p = mul-add-lt y p x p i h in
    let upper : y * p % 2 ^ 128 ≡ y * p = mod-eq_of_lt (omega arith) in
    let small : x + y * p < 2 ^ bits_of (double t) = omega arith in
    let turned : y * p + x ≡ x + y * p = omega arith in
    ap₂ (λ (k : ℕ) (d : Width). bit_or (y * 2 ^ k % 2 ^ 128) x % 2 ^ bits_of d) e f
    ∙ ap (λ (n : ℕ). bit_or n x % 2 ^ bits_of (double t)) upper
    ∙ ap (λ (n : ℕ). n % 2 ^ bits_of (double t)) (or_shifted y (bits_of t) x h ∙ turned)
    ∙ mod-eq_of_lt small

pub low_half_is : (t h : Width) (x : ℕ) → h ≡ half t → x % 2 ^ bits_of h ≡ low_half (bits_of (half t)) x
unfolding low_half
low_half_is t h x e = ap (λ (h : Width). x % 2 ^ bits_of h) e

pub high_half_is : (t h : Width) (x k : ℕ) → 16 ≤ bits_of t → x < 2 ^ bits_of t → h ≡ half t → k ≡ bits_of h
    → x / 2 ^ k % 2 ^ bits_of h ≡ high_half (bits_of (half t)) x
unfolding high_half
high_half_is t h x k n below e f =
    let square = half_power t n in
    let small : x / 2 ^ bits_of (half t) < 2 ^ bits_of (half t) =
    div_below x (2 ^ bits_of (half t)) (2 ^ bits_of (half t)) (pow_pos (bits_of (half t))) (omega arith) in
    ap (λ (k : ℕ). x / 2 ^ k % 2 ^ bits_of h) f
    ∙ ap (λ (h : Width). x / 2 ^ bits_of h % 2 ^ bits_of h) e
    ∙ mod-eq_of_lt small
