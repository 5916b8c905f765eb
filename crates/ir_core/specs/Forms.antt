-- What an instruction's own words say of its form: which operations have a form with an immediate, which numbers a type
-- has, the operand that gives the type, the type that an access names, and which flags stand together.
use Rattle.std.specs.Prelude.{ℕ, ◌<◌, ◌^◌, List, Option, None, Bool, true, false, not, ◌&&◌, slice_get}
use Rattle.clk_num.specs.Width.{bits_of}
use Rattle.clk_num.specs.Operations.{DataValue}
use Rattle.clk_num.specs.declared.op.Op.{Op}
use Rattle.clk_num.specs.declared.op.Op.TheVariants as op
use Rattle.ir_core.specs.declared.signatures.Ty.{Ty}
use Rattle.ir_core.specs.declared.instructions.Flags.{Flags}
use Rattle.ir_core.specs.declared.instructions.Access.{Access}
use Rattle.ir_core.specs.declared.instructions.Access.TheVariants.{Full, Uload, Sload}

-- the operations that have a form with an immediate
abbrev pub has_immediate : Op → Bool
has_immediate op.Iadd = true
has_immediate op.Imul = true
has_immediate op.Band = true
has_immediate op.Bor = true
has_immediate op.Bxor = true
has_immediate op.Ishl = true
has_immediate op.Ushr = true
has_immediate op.Sshr = true
has_immediate (op.Icmp cc) = true
has_immediate _ = false

-- the number of a constant or an immediate is one of its type
abbrev pub ValueInRange : DataValue → Type 0
ValueInRange x = x.value < 2 ^ bits_of x.width

-- the operand that gives the type of a suffix that may be left out: the first, of `select` the second, and none of the
-- conversions, whose suffix is required
abbrev pub controlling : Op → List ℕ → Option ℕ
controlling op.Select vs = slice_get vs 1
controlling (op.Uextend w) vs = None
controlling (op.Sextend w) vs = None
controlling (op.Ireduce w) vs = None
controlling _ vs = slice_get vs 0

-- the type of the result of an access
abbrev pub access_type : Access → Ty
access_type (Full t) = t
access_type (Uload t n) = t
access_type (Sload t n) = t

-- `big` and `little` do not stand together
abbrev pub flags_form : Flags → Bool
flags_form flags = not (flags.big && flags.little)
