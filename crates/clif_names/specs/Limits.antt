-- Every number that stands in a raw function, with the limit that it has to keep.
use Rattle.std.specs.Prelude.{◌≡◌, ℕ, ◌^◌, ◌-◌, List, [], ◌∷◌, ◌++◌, Option, None, Some, map, flat_map, slice_get, Bool}
use Rattle.std.specs.Prelude.{false, ◌&&◌, ℤ, pos, neg_ℤ}
use Rattle.std.specs.Int.RustNames.{int_le}
use Rattle.clk_num.specs.Width.{bits_of}
use Rattle.clk_num.specs.Numbers.{fits}
use Rattle.ir_core.specs.declared.signatures.Ty.{Ty}
use Rattle.ir_core.specs.Lookup.{width_of}
use Rattle.ir_text.specs.Writable.{greatest_number, is_alignment}
use Rattle.token_reader.specs.declared.raw.RawName.{RawName}
use Rattle.token_reader.specs.declared.raw.RawNumber.{RawNumber}
use Rattle.clif_insts.specs.declared.raw.RawArg.{RawArg}
use Rattle.clif_insts.specs.declared.raw.RawArg.TheVariants as arg
use Rattle.clif_insts.specs.declared.raw.RawTarget.{RawTarget}
use Rattle.clif_insts.specs.declared.raw.RawEntry.{RawEntry}
use Rattle.clif_insts.specs.declared.raw.RawTrap.{RawTrap}
use Rattle.clif_insts.specs.declared.raw.RawTrap.TheVariants as trap
use Rattle.clif_insts.specs.declared.raw.RawOperands.{RawOperands}
use Rattle.clif_insts.specs.declared.raw.RawOperands.TheVariants as form
use Rattle.clif_read.specs.declared.raw.RawTag.{RawTag}
use Rattle.clif_read.specs.declared.raw.RawTag.TheVariants as tag
use Rattle.clif_read.specs.declared.raw.RawLine.{RawLine}
use Rattle.clif_read.specs.declared.raw.RawLine.TheVariants as line
use Rattle.clif_read.specs.declared.raw.RawFuncName.{RawFuncName}
use Rattle.clif_read.specs.declared.raw.RawFuncName.TheVariants as func_name
use Rattle.clif_read.specs.declared.raw.RawDecl.{RawDecl}
use Rattle.clif_read.specs.declared.raw.RawDecl.TheVariants as decl
use Rattle.clif_read.specs.declared.raw.RawFunction.{RawFunction}
use Rattle.clif_names.specs.declared.limits.Limit.{Limit}
use Rattle.clif_names.specs.declared.limits.Limit.TheVariants.{Entity, SlotSize, Alignment, UserTrap, Offset, Constant}
use Rattle.clif_names.specs.declared.limits.Limited.{Limited}
use Rattle.name_tables.specs.Definitions.{Kind, all_kinds, definitions, lines}
use Rattle.name_tables.specs.Uses.{uses, operand_targets}

abbrev pub within : ℤ → ℤ → ℤ → Bool
within low high z = int_le low z && int_le z high

abbrev pub is_power : ℤ → Bool
is_power (pos n) = is_alignment n
is_power z = false

abbrev pub keeps : Limit → ℤ → Bool
keeps Entity z = within (pos 0) (pos greatest_number) z
keeps SlotSize z = within (pos 0) (pos 65536) z
keeps Alignment z = is_power z
keeps UserTrap z = within (pos 0) (pos 65535) z
keeps Offset z = within (neg_ℤ (pos (2 ^ 31))) (pos (2 ^ 31 - 1)) z
keeps (Constant t) z = fits (bits_of (width_of t)) z

abbrev pub of_word : Limit → RawName → Limited
of_word limit n = record { value = pos n.number; spot = n.spot; limit = limit }

abbrev pub of_number : Limit → RawNumber → Limited
of_number limit n = record { value = n.value; spot = n.spot; limit = limit }

-- ---- names and declarations

abbrev pub name_limits : RawFuncName → List Limited
name_limits (func_name.Text bytes spot) = []
name_limits (func_name.User space number) = of_word Entity space ∷ of_number Entity number ∷ []

abbrev pub maybe_number : Limit → Option RawNumber → List Limited
maybe_number limit None = []
maybe_number limit (Some n) = of_number limit n ∷ []

abbrev pub decl_limits : RawDecl → List Limited
decl_limits (decl.Slot n size align) = of_number SlotSize size ∷ maybe_number Alignment align
decl_limits (decl.Sig n signature) = []
decl_limits (decl.Callee colocated n sig name) = name_limits name

-- ---- instructions

abbrev pub arg_limits : RawArg → List Limited
arg_limits (arg.Value n) = []
arg_limits (arg.Ret n) = of_word Entity n ∷ []
arg_limits (arg.Exn n) = of_word Entity n ∷ []

abbrev pub target_limits : RawTarget → List Limited
target_limits t = flat_map arg_limits t.args

abbrev pub entry_limits : RawEntry → List Limited
entry_limits e = elim e.tag [ None ↦ [] | Some n ↦ of_word Entity n ∷ [] ]

abbrev pub trap_limits : RawTrap → List Limited
trap_limits (trap.User n) = of_word UserTrap n ∷ []
trap_limits _ = []

abbrev pub constant_limits : Option Ty → RawNumber → List Limited
constant_limits None n = []
constant_limits (Some t) n = of_number (Constant t) n ∷ []

-- the numbers of the operands but for those of the words of `uses`
abbrev pub operand_limits : Option Ty → RawOperands → List Limited
operand_limits suffix (form.Number n) = constant_limits suffix n
operand_limits suffix (form.Load flags p offset) = maybe_number Offset offset
operand_limits suffix (form.Store flags x p offset) = maybe_number Offset offset
operand_limits suffix (form.StackLoad slot offset) = maybe_number Offset offset
operand_limits suffix (form.StackStore x slot offset) = maybe_number Offset offset
operand_limits suffix (form.Trap code) = trap_limits code
operand_limits suffix (form.TrapIf x code) = trap_limits code
operand_limits suffix (form.TryCall callee args sig normal table) = flat_map entry_limits table
operand_limits suffix (form.TryCallIndirect x args sig normal table) = flat_map entry_limits table
operand_limits suffix _ = []

abbrev pub tag_limits : RawTag → List Limited
tag_limits (tag.User n) = of_number Entity n ∷ []
tag_limits (tag.Slot n) = []

abbrev pub line_limits : RawLine → List Limited
line_limits (line.Alias location n m) = []
line_limits (line.Inst location tags results inst) =
    flat_map tag_limits tags ++ operand_limits inst.suffix inst.operands
    ++ flat_map target_limits (operand_targets inst.operands)

-- ---- the whole function

-- the words of a kind, where they are defined and where they are used
abbrev pub words : RawFunction → Kind → List RawName
words f k = definitions f k ++ uses f k

abbrev pub all_words : RawFunction → List RawName
all_words f = flat_map (words f) all_kinds

abbrev pub limits : RawFunction → List Limited
limits f =
    map (of_word Entity) (all_words f) ++ name_limits f.name
    ++ flat_map decl_limits f.decls ++ flat_map line_limits (lines f)

-- a number at this spot that does not keep its limit
abbrev pub IsOutside : List Limited → ℕ → Type 0
IsOutside ns spot =
    (i : ℕ) × (n : Limited) × (slice_get ns i ≡ Some n) × (n.spot ≡ spot) × (keeps n.limit n.value ≡ false)
