-- The types of the operations, as the CLIF reference gives them: for each opcode the types of its operands, and those
-- of its results.
use Rattle.std.specs.Prelude.{Bool, true, nat_le, if◌then◌else◌, Option, Some, None, List, [], ◌∷◌, IsSome}
use Rattle.clk_num.specs.declared.op.Op.{Op}
use Rattle.clk_num.specs.declared.op.Op.TheVariants.{Iadd, Isub, Imul, Band, Bor, Bxor, Smin, Smax, Umin, Umax, Umulhi}
use Rattle.clk_num.specs.declared.op.Op.TheVariants.{Smulhi, Udiv, Urem, Sdiv, Srem, Ineg, Bnot, Iabs, Clz, Ctz, Popcnt}
use Rattle.clk_num.specs.declared.op.Op.TheVariants.{Bitrev, Bswap, Ishl, Ushr, Sshr, Rotl, Rotr, Icmp, Select, Uextend}
use Rattle.clk_num.specs.declared.op.Op.TheVariants.{Sextend, Ireduce, UaddOverflow, SaddOverflow, UsubOverflow}
use Rattle.clk_num.specs.declared.op.Op.TheVariants.{SsubOverflow, Iconcat, Isplit}
use Rattle.clk_num.specs.declared.width.Width.{Width}
use Rattle.clk_num.specs.declared.width.Width.TheVariants.{W8}
use Rattle.clk_num.specs.Width.{bits_of, same, narrower, double, half}

-- the results, where the operands are those of the row
abbrev pub where_so : Bool → List Width → Option (List Width)
where_so b results = if b then Some results else None

-- which types T a row has
abbrev pub any : Width → Bool
any t = true

abbrev pub up_to_64 : Width → Bool
up_to_64 t = nat_le (bits_of t) 64

abbrev pub from_16 : Width → Bool
from_16 t = nat_le 16 (bits_of t)

-- T to the results for T
abbrev pub of_one : (Width → Bool) → (Width → List Width) → List Width → Option (List Width)
of_one has results (t ∷ []) = where_so (has t) (results t)
of_one has results _ = None

-- T, T to the results for T
abbrev pub of_two : (Width → Bool) → (Width → List Width) → List Width → Option (List Width)
of_two has results (t ∷ u ∷ []) = if same t u then where_so (has t) (results t) else None
of_two has results _ = None

-- T and an amount of any type, to T
abbrev pub of_shift : List Width → Option (List Width)
of_shift (t ∷ u ∷ []) = Some (t ∷ [])
of_shift _ = None

-- any type, T, T to T
abbrev pub of_select : List Width → Option (List Width)
of_select (c ∷ t ∷ u ∷ []) = where_so (same t u) (t ∷ [])
of_select _ = None

-- one T
abbrev pub one : Width → List Width
one t = t ∷ []

-- one T, and a flag of type i8
abbrev pub with_flag : Width → List Width
with_flag t = t ∷ W8 ∷ []

-- the types of an operation's results, given those of its operands: None where these are not of the operation's row
unfoldable pub row : Op → List Width → Option (List Width)
row Iadd = of_two any one
row Isub = of_two any one
row Imul = of_two any one
row Band = of_two any one
row Bor = of_two any one
row Bxor = of_two any one
row Smin = of_two any one
row Smax = of_two any one
row Umin = of_two any one
row Umax = of_two any one
row Umulhi = of_two up_to_64 one
row Smulhi = of_two up_to_64 one
row Udiv = of_two up_to_64 one
row Urem = of_two up_to_64 one
row Sdiv = of_two up_to_64 one
row Srem = of_two up_to_64 one
row Ineg = of_one any one
row Bnot = of_one any one
row Iabs = of_one any one
row Clz = of_one any one
row Ctz = of_one any one
row Popcnt = of_one any one
row Bitrev = of_one any one
row Bswap = of_one from_16 one
row Ishl = of_shift
row Ushr = of_shift
row Sshr = of_shift
row Rotl = of_shift
row Rotr = of_shift
row (Icmp cc) = of_two any (λ t. W8 ∷ [])
row Select = of_select
row (Uextend target) = of_one (λ t. narrower t target) (λ t. target ∷ [])
row (Sextend target) = of_one (λ t. narrower t target) (λ t. target ∷ [])
row (Ireduce target) = of_one (λ t. narrower target t) (λ t. target ∷ [])
row UaddOverflow = of_two any with_flag
row SaddOverflow = of_two any with_flag
row UsubOverflow = of_two any with_flag
row SsubOverflow = of_two any with_flag
row Iconcat = of_two up_to_64 (λ t. double t ∷ [])
row Isplit = of_one from_16 (λ t. half t ∷ half t ∷ [])

-- the operands are those of the operation's row: their number, and their types
abbrev pub Fits : Op → List Width → Type 0
Fits op operands = IsSome (row op operands)
