-- The widths of the integer types of CLIF.
use Rattle.std.specs.Prelude.{ℕ, Bool, ◌==◌, nat_lt}
use Rattle.clk_num.specs.declared.width.Width.{Width}
use Rattle.clk_num.specs.declared.width.Width.TheVariants.{W8, W16, W32, W64, W128}

-- the width of a type in bits
abbrev pub bits_of : Width → ℕ
bits_of W8 = 8
bits_of W16 = 16
bits_of W32 = 32
bits_of W64 = 64
bits_of W128 = 128

-- two types are one
abbrev pub same : Width → Width → Bool
same a b = bits_of a == bits_of b

-- a is narrower than b
abbrev pub narrower : Width → Width → Bool
narrower a b = nat_lt (bits_of a) (bits_of b)

-- the type of twice the width, up to the widest
abbrev pub double : Width → Width
double W8 = W16
double W16 = W32
double W32 = W64
double W64 = W128
double W128 = W128

-- the type of half the width, down to the narrowest
abbrev pub half : Width → Width
half W8 = W8
half W16 = W8
half W32 = W16
half W64 = W32
half W128 = W64
