-- Which operands and which suffix an opcode has, and what stands in them: what the grammar gives of an instruction
-- whatever its words are.
use Rattle.std.specs.Prelude.{Bool, true, false, not, ◌&&◌, List, [], ◌∷◌, Option, is_some, ⊤, IsTrue}
use Rattle.std.specs.List.{list_any}
use Rattle.grammar.specs.Rules.{member}
use Rattle.ir_core.specs.declared.signatures.Ty.{Ty}
use Rattle.ir_core.specs.Lists.{Each}
use Rattle.clif_words.specs.declared.class.Class.{Class}
use Rattle.clif_words.specs.declared.class.Class.TheVariants as classes
use Rattle.clif_words.specs.declared.opcodes.Opcode.{Opcode}
use Rattle.clif_words.specs.Classes.{code}
use Rattle.clif_words.specs.Terminals.{codes_of}
use Rattle.clif_words.specs.OpcodeForms.{form}
use Rattle.clif_insts.specs.declared.raw.RawArg.{RawArg}
use Rattle.clif_insts.specs.declared.raw.RawArg.TheVariants as arg
use Rattle.clif_insts.specs.declared.raw.RawTarget.{RawTarget}
use Rattle.clif_insts.specs.declared.raw.RawEntry.{RawEntry}
use Rattle.clif_insts.specs.declared.raw.RawFlag.{RawFlag}
use Rattle.clif_insts.specs.declared.raw.RawFlag.TheVariants as flags
use Rattle.clif_insts.specs.declared.raw.RawOperands.{RawOperands}
use Rattle.clif_insts.specs.declared.raw.RawOperands.TheVariants as operands
use Rattle.clif_insts.specs.declared.raw.RawInst.{RawInst}

-- ---- operands and suffix

-- the forms of which operands may be
abbrev pub operand_forms : RawOperands → List Class
operand_forms operands.Nullary = classes.Nullary ∷ []
operand_forms (operands.Number n) = classes.Iconst ∷ []
operand_forms (operands.Unary x) = classes.Unary ∷ classes.Convert ∷ []
operand_forms (operands.Binary x y) = classes.Binary ∷ []
operand_forms (operands.Ternary c x y) = classes.Select ∷ []
operand_forms (operands.Compare cc x y) = classes.Icmp ∷ []
operand_forms (operands.BinaryImm x n) = classes.BinaryImm ∷ []
operand_forms (operands.CompareImm cc x n) = classes.IcmpImm ∷ []
operand_forms (operands.Load flags address offset) = classes.Load ∷ classes.LoadWide ∷ []
operand_forms (operands.Store flags value address offset) = classes.Store ∷ []
operand_forms (operands.StackLoad slot offset) = classes.StackLoad ∷ []
operand_forms (operands.StackStore value slot offset) = classes.StackStore ∷ []
operand_forms (operands.FuncAddr callee) = classes.FuncAddr ∷ []
operand_forms (operands.Jump target) = classes.Jump ∷ []
operand_forms (operands.Brif cond taken other) = classes.Brif ∷ []
operand_forms (operands.BrTable index default entries) = classes.BrTable ∷ []
operand_forms (operands.Return values) = classes.Return ∷ []
operand_forms (operands.Trap trap) = classes.Trap ∷ []
operand_forms (operands.TrapIf x trap) = classes.TrapIf ∷ []
operand_forms (operands.Call callee args) = classes.Call ∷ []
operand_forms (operands.TryCall callee args sig normal table) = classes.TryCall ∷ []
operand_forms (operands.CallIndirect sig address args) = classes.CallIndirect ∷ []
operand_forms (operands.TryCallIndirect address args sig normal table) = classes.TryCallIndirect ∷ []

abbrev pub IsOfForm : Opcode → RawOperands → Type 0
IsOfForm opcode o = IsTrue (member (code (form opcode)) (codes_of (operand_forms o)))

-- Whether an instruction of the form is read with a suffix, or without one. The other forms may have one.
-- The suffix of `func_addr` and of an indirect call can only be `i64`, and is not kept.
abbrev pub suffix_fits : Class → Option Ty → Bool
suffix_fits classes.Iconst suffix = is_some suffix
suffix_fits classes.Convert suffix = is_some suffix
suffix_fits classes.Load suffix = is_some suffix
suffix_fits classes.StackLoad suffix = is_some suffix
suffix_fits classes.FuncAddr suffix = not (is_some suffix)
suffix_fits classes.Nullary suffix = not (is_some suffix)
suffix_fits classes.Jump suffix = not (is_some suffix)
suffix_fits classes.BrTable suffix = not (is_some suffix)
suffix_fits classes.Return suffix = not (is_some suffix)
suffix_fits classes.Trap suffix = not (is_some suffix)
suffix_fits classes.Call suffix = not (is_some suffix)
suffix_fits classes.TryCall suffix = not (is_some suffix)
suffix_fits classes.CallIndirect suffix = not (is_some suffix)
suffix_fits classes.TryCallIndirect suffix = not (is_some suffix)
suffix_fits class suffix = true

-- ---- arguments of targets, and flags

abbrev pub is_value : RawArg → Bool
is_value (arg.Value n) = true
is_value (arg.Ret n) = false
is_value (arg.Exn n) = false

abbrev pub is_normal : RawArg → Bool
is_normal (arg.Value n) = true
is_normal (arg.Ret n) = true
is_normal (arg.Exn n) = false

abbrev pub is_handler : RawArg → Bool
is_handler (arg.Value n) = true
is_handler (arg.Ret n) = false
is_handler (arg.Exn n) = true

abbrev pub TargetHas : (RawArg → Bool) → RawTarget → Type 0
TargetHas may target = Each (λ a. IsTrue (may a)) target.args

abbrev pub TableHas : List RawEntry → Type 0
TableHas entries = Each (λ (e : RawEntry). TargetHas is_handler e.target) entries

abbrev pub is_big : RawFlag → Bool
is_big flags.Big = true
is_big flag = false

abbrev pub is_little : RawFlag → Bool
is_little flags.Little = true
is_little flag = false

-- `big` and `little` do not stand together
abbrev pub one_order : List RawFlag → Bool
one_order fs = not (list_any is_big fs && list_any is_little fs)

abbrev pub ArgumentsFit : RawOperands → Type 0
ArgumentsFit (operands.Load flags address offset) = IsTrue (one_order flags)
ArgumentsFit (operands.Store flags value address offset) = IsTrue (one_order flags)
ArgumentsFit (operands.Jump target) = TargetHas is_value target
ArgumentsFit (operands.Brif cond taken other) = TargetHas is_value taken × TargetHas is_value other
ArgumentsFit (operands.BrTable index default entries) = TargetHas is_value default × Each (TargetHas is_value) entries
ArgumentsFit (operands.TryCall callee args sig normal table) = TargetHas is_normal normal × TableHas table
ArgumentsFit (operands.TryCallIndirect address args sig normal table) = TargetHas is_normal normal × TableHas table
ArgumentsFit others = ⊤

pub record InstFormed (inst : RawInst) : Type 0 where
  pub operands : IsOfForm inst.opcode.kind inst.operands
  pub suffix : IsTrue (suffix_fits (form inst.opcode.kind) inst.suffix)
  pub arguments : ArgumentsFit inst.operands
