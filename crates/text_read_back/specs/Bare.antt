-- A raw module without its spots: each of them is 0. What a text says doesn't depend on where its words stand.
use Rattle.std.specs.Prelude.{ℕ, map, Option, Some, None}
use Rattle.token_reader.specs.declared.raw.RawName.{RawName}
use Rattle.token_reader.specs.declared.raw.RawNumber.{RawNumber}
use Rattle.token_reader.specs.declared.raw.RawOpcode.{RawOpcode}
use Rattle.clif_insts.specs.declared.raw.RawArg.{RawArg}
use Rattle.clif_insts.specs.declared.raw.RawArg.TheVariants as args
use Rattle.clif_insts.specs.declared.raw.RawTarget.{RawTarget}
use Rattle.clif_insts.specs.declared.raw.RawEntry.{RawEntry}
use Rattle.clif_insts.specs.declared.raw.RawTrap.{RawTrap}
use Rattle.clif_insts.specs.declared.raw.RawTrap.TheVariants as traps
use Rattle.clif_insts.specs.declared.raw.RawOperands.{RawOperands}
use Rattle.clif_insts.specs.declared.raw.RawOperands.TheVariants as operands
use Rattle.clif_insts.specs.declared.raw.RawInst.{RawInst}
use Rattle.clif_read.specs.declared.raw.RawFuncName.{RawFuncName}
use Rattle.clif_read.specs.declared.raw.RawFuncName.TheVariants as names
use Rattle.clif_read.specs.declared.raw.RawCalleeSig.{RawCalleeSig}
use Rattle.clif_read.specs.declared.raw.RawCalleeSig.TheVariants as callee_sigs
use Rattle.clif_read.specs.declared.raw.RawDecl.{RawDecl}
use Rattle.clif_read.specs.declared.raw.RawDecl.TheVariants as decls
use Rattle.clif_read.specs.declared.raw.RawTag.{RawTag}
use Rattle.clif_read.specs.declared.raw.RawTag.TheVariants as tags
use Rattle.clif_read.specs.declared.raw.RawLine.{RawLine}
use Rattle.clif_read.specs.declared.raw.RawLine.TheVariants as lines
use Rattle.clif_read.specs.declared.raw.RawBlockParam.{RawBlockParam}
use Rattle.clif_read.specs.declared.raw.RawBlock.{RawBlock}
use Rattle.clif_read.specs.declared.raw.RawFunction.{RawFunction}
use Rattle.clif_read.specs.declared.raw.RawModule.{RawModule}

abbrev pub bare_name : RawName → RawName
bare_name x = record { number = x.number; spot = 0 }

abbrev pub bare_opcode : RawOpcode → RawOpcode
bare_opcode x = record { kind = x.kind; spot = 0 }

abbrev pub bare_number : RawNumber → RawNumber
bare_number x = record { value = x.value; spot = 0 }

abbrev pub bare_option : {A : Type 0} → (A → A) → Option A → Option A
bare_option bare None = None
bare_option bare (Some x) = Some (bare x)

-- ---- instructions

abbrev pub bare_arg : RawArg → RawArg
bare_arg (args.Value x) = args.Value (bare_name x)
bare_arg (args.Ret x) = args.Ret (bare_name x)
bare_arg (args.Exn x) = args.Exn (bare_name x)

abbrev pub bare_target : RawTarget → RawTarget
bare_target t = record { block = bare_name t.block; args = map bare_arg t.args }

abbrev pub bare_entry : RawEntry → RawEntry
bare_entry e = record { tag = bare_option bare_name e.tag; target = bare_target e.target }

abbrev pub bare_trap : RawTrap → RawTrap
bare_trap (traps.User x) = traps.User (bare_name x)
bare_trap code = code

abbrev pub bare_operands : RawOperands → RawOperands
bare_operands operands.Nullary = operands.Nullary
bare_operands (operands.Number n) = operands.Number (bare_number n)
bare_operands (operands.Unary x) = operands.Unary (bare_name x)
bare_operands (operands.Binary x y) = operands.Binary (bare_name x) (bare_name y)
bare_operands (operands.Ternary c x y) = operands.Ternary (bare_name c) (bare_name x) (bare_name y)
bare_operands (operands.Compare cc x y) = operands.Compare cc (bare_name x) (bare_name y)
bare_operands (operands.BinaryImm x n) = operands.BinaryImm (bare_name x) (bare_number n)
bare_operands (operands.CompareImm cc x n) = operands.CompareImm cc (bare_name x) (bare_number n)
bare_operands (operands.Load flags p offset) = operands.Load flags (bare_name p) (bare_option bare_number offset)
bare_operands (operands.Store flags x p offset) =
    operands.Store flags (bare_name x) (bare_name p) (bare_option bare_number offset)
bare_operands (operands.StackLoad slot offset) = operands.StackLoad (bare_name slot) (bare_option bare_number offset)
bare_operands (operands.StackStore x slot offset) =
    operands.StackStore (bare_name x) (bare_name slot) (bare_option bare_number offset)
bare_operands (operands.FuncAddr callee) = operands.FuncAddr (bare_name callee)
bare_operands (operands.Jump t) = operands.Jump (bare_target t)
bare_operands (operands.Brif c t u) = operands.Brif (bare_name c) (bare_target t) (bare_target u)
bare_operands (operands.BrTable x default ts) =
    operands.BrTable (bare_name x) (bare_target default) (map bare_target ts)
bare_operands (operands.Return vs) = operands.Return (map bare_name vs)
bare_operands (operands.Trap code) = operands.Trap (bare_trap code)
bare_operands (operands.TrapIf x code) = operands.TrapIf (bare_name x) (bare_trap code)
bare_operands (operands.Call callee vs) = operands.Call (bare_name callee) (map bare_name vs)
bare_operands (operands.TryCall callee vs sig normal table) =
    operands.TryCall (bare_name callee) (map bare_name vs) (bare_name sig) (bare_target normal) (map bare_entry table)
bare_operands (operands.CallIndirect sig p vs) = operands.CallIndirect (bare_name sig) (bare_name p) (map bare_name vs)
bare_operands (operands.TryCallIndirect p vs sig normal table) =
    operands.TryCallIndirect (bare_name p) (map bare_name vs) (bare_name sig) (bare_target normal)
    (map bare_entry table)

abbrev pub bare_inst : RawInst → RawInst
bare_inst i = record { opcode = bare_opcode i.opcode; suffix = i.suffix; operands = bare_operands i.operands }

-- ---- lines and blocks

abbrev pub bare_tag : RawTag → RawTag
bare_tag (tags.User n) = tags.User (bare_number n)
bare_tag (tags.Slot x) = tags.Slot (bare_name x)

abbrev pub bare_spot : ℕ → ℕ
bare_spot spot = 0

abbrev pub bare_line : RawLine → RawLine
bare_line (lines.Alias location alias x) = lines.Alias (bare_option bare_spot location) (bare_name alias) (bare_name x)
bare_line (lines.Inst location ts results i) =
    lines.Inst (bare_option bare_spot location) (map bare_tag ts) (map bare_name results) (bare_inst i)

abbrev pub bare_block_param : RawBlockParam → RawBlockParam
bare_block_param p = record { value = bare_name p.value; ty = p.ty }

abbrev pub bare_block : RawBlock → RawBlock
bare_block b = record {
  block = bare_name b.block;
  params = map bare_block_param b.params;
  cold = b.cold;
  lines = map bare_line b.lines;
}

-- ---- functions and modules

abbrev pub bare_func_name : RawFuncName → RawFuncName
bare_func_name (names.Text bytes spot) = names.Text bytes 0
bare_func_name (names.User space number) = names.User (bare_name space) (bare_number number)

abbrev pub bare_callee_sig : RawCalleeSig → RawCalleeSig
bare_callee_sig (callee_sigs.Declared x) = callee_sigs.Declared (bare_name x)
bare_callee_sig (callee_sigs.Inline s) = callee_sigs.Inline s

abbrev pub bare_decl : RawDecl → RawDecl
bare_decl (decls.Slot slot size align) = decls.Slot (bare_name slot) (bare_number size) (bare_option bare_number align)
bare_decl (decls.Sig sig s) = decls.Sig (bare_name sig) s
bare_decl (decls.Callee colocated callee sig name) =
    decls.Callee colocated (bare_name callee) (bare_callee_sig sig) (bare_func_name name)

abbrev pub bare_function : RawFunction → RawFunction
bare_function f = record {
  spot = 0;
  name = bare_func_name f.name;
  signature = f.signature;
  decls = map bare_decl f.decls;
  blocks = map bare_block f.blocks;
  end_spot = 0;
}

abbrev pub bare_module : RawModule → RawModule
bare_module m = record { headers = map bare_spot m.headers; functions = map bare_function m.functions }
