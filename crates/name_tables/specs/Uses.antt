-- What a raw function uses, in order of the text: the words of each kind that stand in its instructions, targets, debug
-- tags, alias lines and callee declarations.
use Rattle.std.specs.Prelude.{List, [], ◌∷◌, ◌++◌, map, flat_map}
use Rattle.token_reader.specs.declared.raw.RawName.{RawName}
use Rattle.clif_insts.specs.declared.raw.RawArg.{RawArg}
use Rattle.clif_insts.specs.declared.raw.RawArg.TheVariants as arg
use Rattle.clif_insts.specs.declared.raw.RawTarget.{RawTarget}
use Rattle.clif_insts.specs.declared.raw.RawOperands.{RawOperands}
use Rattle.clif_insts.specs.declared.raw.RawOperands.TheVariants as form
use Rattle.clif_read.specs.declared.raw.RawTag.{RawTag}
use Rattle.clif_read.specs.declared.raw.RawTag.TheVariants as tag
use Rattle.clif_read.specs.declared.raw.RawLine.{RawLine}
use Rattle.clif_read.specs.declared.raw.RawLine.TheVariants as line
use Rattle.clif_read.specs.declared.raw.RawCalleeSig.{RawCalleeSig}
use Rattle.clif_read.specs.declared.raw.RawCalleeSig.TheVariants as callee_sig
use Rattle.clif_read.specs.declared.raw.RawDecl.{RawDecl}
use Rattle.clif_read.specs.declared.raw.RawDecl.TheVariants as decl
use Rattle.clif_read.specs.declared.raw.RawFunction.{RawFunction}
use Rattle.name_tables.specs.Definitions.{Kind, Slots, Sigs, Callees, Blocks, Values, lines}

-- ---- operands by form

-- the values in operand places
abbrev pub operand_values : RawOperands → List RawName
operand_values form.Nullary = []
operand_values (form.Number n) = []
operand_values (form.Unary x) = x ∷ []
operand_values (form.Binary x y) = x ∷ y ∷ []
operand_values (form.Ternary c x y) = c ∷ x ∷ y ∷ []
operand_values (form.Compare c x y) = x ∷ y ∷ []
operand_values (form.BinaryImm x n) = x ∷ []
operand_values (form.CompareImm c x n) = x ∷ []
operand_values (form.Load flags p offset) = p ∷ []
operand_values (form.Store flags x p offset) = x ∷ p ∷ []
operand_values (form.StackLoad slot offset) = []
operand_values (form.StackStore x slot offset) = x ∷ []
operand_values (form.FuncAddr callee) = []
operand_values (form.Jump target) = []
operand_values (form.Brif x taken other) = x ∷ []
operand_values (form.BrTable x default entries) = x ∷ []
operand_values (form.Return xs) = xs
operand_values (form.Trap code) = []
operand_values (form.TrapIf x code) = x ∷ []
operand_values (form.Call callee args) = args
operand_values (form.TryCall callee args sig normal table) = args
operand_values (form.CallIndirect sig x args) = x ∷ args
operand_values (form.TryCallIndirect x args sig normal table) = x ∷ args

-- the targets, those of a table in its order
abbrev pub operand_targets : RawOperands → List RawTarget
operand_targets (form.Jump target) = target ∷ []
operand_targets (form.Brif x taken other) = taken ∷ other ∷ []
operand_targets (form.BrTable x default entries) = default ∷ entries
operand_targets (form.TryCall callee args sig normal table) = normal ∷ map (λ e. e.target) table
operand_targets (form.TryCallIndirect x args sig normal table) = normal ∷ map (λ e. e.target) table
operand_targets _ = []

abbrev pub operand_slots : RawOperands → List RawName
operand_slots (form.StackLoad slot offset) = slot ∷ []
operand_slots (form.StackStore x slot offset) = slot ∷ []
operand_slots _ = []

abbrev pub operand_callees : RawOperands → List RawName
operand_callees (form.FuncAddr callee) = callee ∷ []
operand_callees (form.Call callee args) = callee ∷ []
operand_callees (form.TryCall callee args sig normal table) = callee ∷ []
operand_callees _ = []

abbrev pub operand_sigs : RawOperands → List RawName
operand_sigs (form.TryCall callee args sig normal table) = sig ∷ []
operand_sigs (form.CallIndirect sig x args) = sig ∷ []
operand_sigs (form.TryCallIndirect x args sig normal table) = sig ∷ []
operand_sigs _ = []

-- ---- targets and tags

abbrev pub arg_values : RawArg → List RawName
arg_values (arg.Value n) = n ∷ []
arg_values (arg.Ret n) = []
arg_values (arg.Exn n) = []

abbrev pub target_values : RawTarget → List RawName
target_values t = flat_map arg_values t.args

abbrev pub tag_slots : RawTag → List RawName
tag_slots (tag.User n) = []
tag_slots (tag.Slot n) = n ∷ []

-- ---- lines and declarations

abbrev pub line_uses : Kind → RawLine → List RawName
line_uses Slots (line.Inst location tags results inst) = flat_map tag_slots tags ++ operand_slots inst.operands
line_uses Sigs (line.Inst location tags results inst) = operand_sigs inst.operands
line_uses Callees (line.Inst location tags results inst) = operand_callees inst.operands
line_uses Blocks (line.Inst location tags results inst) = map (λ t. t.block) (operand_targets inst.operands)
line_uses Values (line.Inst location tags results inst) =
    operand_values inst.operands ++ flat_map target_values (operand_targets inst.operands)
line_uses Values (line.Alias location n m) = m ∷ []
line_uses _ (line.Alias location n m) = []

abbrev pub callee_sig_uses : RawCalleeSig → List RawName
callee_sig_uses (callee_sig.Declared n) = n ∷ []
callee_sig_uses (callee_sig.Inline signature) = []

abbrev pub decl_uses : Kind → RawDecl → List RawName
decl_uses Sigs (decl.Callee colocated n sig name) = callee_sig_uses sig
decl_uses _ _ = []

abbrev pub uses : RawFunction → Kind → List RawName
uses f k = flat_map (decl_uses k) f.decls ++ flat_map (line_uses k) (lines f)
