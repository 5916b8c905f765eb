-- The operand that gives an instruction its type where no suffix does, and operands that are defined too late for it.
use Rattle.std.specs.Prelude.{◌≡◌, ℕ, Option, None, Some, slice_get, take}
use Rattle.token_reader.specs.declared.raw.RawName.{RawName}
use Rattle.clif_insts.specs.declared.raw.RawInst.{RawInst}
use Rattle.clif_insts.specs.declared.raw.RawOperands.{RawOperands}
use Rattle.clif_insts.specs.declared.raw.RawOperands.TheVariants as form
use Rattle.clif_read.specs.declared.raw.RawLine.{RawLine}
use Rattle.clif_read.specs.declared.raw.RawLine.TheVariants as line
use Rattle.clif_read.specs.declared.raw.RawFunction.{RawFunction}
use Rattle.name_tables.specs.declared.firsts.Def.{Def}
use Rattle.name_tables.specs.Definitions.{Step, Param, Line, steps, defs_of, value_defs, names_of}
use Rattle.name_tables.specs.Words.{IsDefined}
use Rattle.name_tables.specs.Chains.{StandsFor}

-- the operand marked x in the forms `op[.T]`
abbrev pub gives_type : RawOperands → Option RawName
gives_type (form.Unary x) = Some x
gives_type (form.Binary x y) = Some x
gives_type (form.Ternary c x y) = Some x
gives_type (form.Compare c x y) = Some x
gives_type (form.BinaryImm x n) = Some x
gives_type (form.CompareImm c x n) = Some x
gives_type (form.Store flags x p offset) = Some x
gives_type (form.StackStore x slot offset) = Some x
gives_type (form.Brif x taken other) = Some x
gives_type (form.TrapIf x code) = Some x
gives_type _ = None

-- the operand whose type is asked for: there is no suffix
abbrev pub asks : RawInst → Option RawName
asks inst = elim inst.suffix [ None ↦ gives_type inst.operands | Some t ↦ None ]

abbrev pub line_inst : RawLine → Option RawInst
line_inst (line.Alias location n m) = None
line_inst (line.Inst location tags results inst) = Some inst

abbrev pub step_inst : Step → Option RawInst
step_inst (Param p) = None
step_inst (Line l) = line_inst l

-- what stands before the i-th step of the text defines the word n
abbrev pub DefinedBefore : RawFunction → ℕ → ℕ → Type 0
DefinedBefore f i n = IsDefined (names_of (defs_of (take i (steps f)))) n

-- At this opcode the type of an operand is asked for, and the definition that it stands for, after aliases, is a result
-- of this instruction or stands behind it.
abbrev pub IsUntyped : RawFunction → ℕ → Type 0
IsUntyped f spot =
    (i : ℕ) × (step : Step) × (inst : RawInst) × (x : RawName) × (e : Def)
    × (slice_get (steps f) i ≡ Some step) × (step_inst step ≡ Some inst) × (inst.opcode.spot ≡ spot)
    × (asks inst ≡ Some x)
    × StandsFor (value_defs f) x.number e × (DefinedBefore f i e.name.number → ⊥)
