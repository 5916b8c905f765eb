-- What an instruction of the code means: the formats of the code, grouped by what they do.
use Rattle.clk_num.specs.Views.{data_of}
use Rattle.ir_core.specs.declared.instructions.Inst.{Inst}
use Rattle.ir_core.specs.declared.instructions.Inst.TheVariants as inst
use Rattle.ir_core.specs.declared.instructions.InstData.{InstData}
use Rattle.ir_core.specs.Module.{Instruction, Line}
use Rattle.ir_core.specs.Module.{Nop, Const, Pure, PureImm, Load, Store, StackLoad, StackStore, FuncAddr, Trap, Trapz}
use Rattle.ir_core.specs.Module.{Trapnz, Jump, Brif, BrTable, Direct, Indirect, TryDirect, TryIndirect, Plain, Branches}
use Rattle.ir_core.specs.Module.{SequencePoint, Return, Call, ReturnCall, TryCall}

abbrev pub instruction_of : Inst → Instruction
instruction_of inst.Nop = Plain Nop
instruction_of inst.SequencePoint = SequencePoint
instruction_of (inst.Const bits) = Plain (Const (data_of bits))
instruction_of (inst.Pure op args) = Plain (Pure op args)
instruction_of (inst.PureImm op arg imm) = Plain (PureImm op arg (data_of imm))
instruction_of (inst.Load access flags address offset) = Plain (Load access flags address offset)
instruction_of (inst.Store narrow flags value address offset) = Plain (Store narrow flags value address offset)
instruction_of (inst.StackLoad ty slot offset) = Plain (StackLoad ty slot offset)
instruction_of (inst.StackStore value slot offset) = Plain (StackStore value slot offset)
instruction_of (inst.FuncAddr callee) = Plain (FuncAddr callee)
instruction_of (inst.Jump target) = Branches (Jump target)
instruction_of (inst.Brif cond taken other) = Branches (Brif cond taken other)
instruction_of (inst.BrTable index default entries) = Branches (BrTable index default entries)
instruction_of (inst.Return values) = Return values
instruction_of (inst.Trap code) = Plain (Trap code)
instruction_of (inst.Trapz cond code) = Plain (Trapz cond code)
instruction_of (inst.Trapnz cond code) = Plain (Trapnz cond code)
instruction_of (inst.Call callee args) = Call (Direct callee) args
instruction_of (inst.ReturnCall callee args) = ReturnCall (Direct callee) args
instruction_of (inst.TryCall callee sig args normal table) = TryCall (TryDirect callee) sig args normal table
instruction_of (inst.CallIndirect sig address args) = Call (Indirect sig address) args
instruction_of (inst.ReturnCallIndirect sig address args) = ReturnCall (Indirect sig address) args
instruction_of (inst.TryCallIndirect sig address args normal table) =
    TryCall (TryIndirect address) sig args normal table

abbrev pub line_of : InstData → Line
line_of added = record { inst = instruction_of added.inst; ty = added.ty; results = added.results; tags = added.tags }
