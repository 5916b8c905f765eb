use Rattle.clif_words.specs.declared.class.Class.TheVariants as classes
use Rattle.clif_insts.proofs.Choice.{choice, chosen, other}
use Rattle.clif_insts.proofs.forms.read_inst_of.Goals as goal

pub returns-in-Iconst-clause-is : goal.returns-in-Iconst-clause-is
returns-in-Iconst-clause-is c = chosen classes.Iconst c.args.class c.args.opening c.args.reader.now c.read_iconst.new.reader c.read_iconst.result c.in-Iconst.is c.requires.class c.read_iconst.ensures.is

pub returns-in-Binary-clause-is : goal.returns-in-Binary-clause-is
returns-in-Binary-clause-is c = chosen classes.Binary c.args.class c.args.opening c.args.reader.now c.read_binary.new.reader c.read_binary.result c.in-Binary.is c.requires.class c.read_binary.ensures.is

pub returns-in-Unary-clause-is : goal.returns-in-Unary-clause-is
returns-in-Unary-clause-is c = chosen classes.Unary c.args.class c.args.opening c.args.reader.now c.read_unary.new.reader c.read_unary.result c.in-Unary.is c.requires.class c.read_unary.ensures.is

pub returns-in-Icmp-clause-is : goal.returns-in-Icmp-clause-is
returns-in-Icmp-clause-is c = chosen classes.Icmp c.args.class c.args.opening c.args.reader.now c.read_icmp.new.reader c.read_icmp.result c.in-Icmp.is c.requires.class c.read_icmp.ensures.is

pub returns-in-Select-clause-is : goal.returns-in-Select-clause-is
returns-in-Select-clause-is c = chosen classes.Select c.args.class c.args.opening c.args.reader.now c.read_select.new.reader c.read_select.result c.in-Select.is c.requires.class c.read_select.ensures.is

pub returns-in-Convert-clause-is : goal.returns-in-Convert-clause-is
returns-in-Convert-clause-is c = chosen classes.Convert c.args.class c.args.opening c.args.reader.now c.read_convert.new.reader c.read_convert.result c.in-Convert.is c.requires.class c.read_convert.ensures.is

pub returns-in-BinaryImm-clause-is : goal.returns-in-BinaryImm-clause-is
returns-in-BinaryImm-clause-is c = chosen classes.BinaryImm c.args.class c.args.opening c.args.reader.now c.read_binary_imm.new.reader c.read_binary_imm.result c.in-BinaryImm.is c.requires.class c.read_binary_imm.ensures.is

pub returns-in-IcmpImm-clause-is : goal.returns-in-IcmpImm-clause-is
returns-in-IcmpImm-clause-is c = chosen classes.IcmpImm c.args.class c.args.opening c.args.reader.now c.read_icmp_imm.new.reader c.read_icmp_imm.result c.in-IcmpImm.is c.requires.class c.read_icmp_imm.ensures.is

pub returns-in-Load-clause-is : goal.returns-in-Load-clause-is
returns-in-Load-clause-is c = chosen classes.Load c.args.class c.args.opening c.args.reader.now c.read_load.new.reader c.read_load.result c.in-Load.is c.requires.class c.read_load.ensures.is

pub returns-in-LoadWide-clause-is : goal.returns-in-LoadWide-clause-is
returns-in-LoadWide-clause-is c = chosen classes.LoadWide c.args.class c.args.opening c.args.reader.now c.read_load_wide.new.reader c.read_load_wide.result c.in-LoadWide.is c.requires.class c.read_load_wide.ensures.is

pub returns-in-Store-clause-is : goal.returns-in-Store-clause-is
returns-in-Store-clause-is c = chosen classes.Store c.args.class c.args.opening c.args.reader.now c.read_store.new.reader c.read_store.result c.in-Store.is c.requires.class c.read_store.ensures.is

pub returns-in-StackLoad-clause-is : goal.returns-in-StackLoad-clause-is
returns-in-StackLoad-clause-is c = chosen classes.StackLoad c.args.class c.args.opening c.args.reader.now c.read_stack_load.new.reader c.read_stack_load.result c.in-StackLoad.is c.requires.class c.read_stack_load.ensures.is

pub returns-in-StackStore-clause-is : goal.returns-in-StackStore-clause-is
returns-in-StackStore-clause-is c = chosen classes.StackStore c.args.class c.args.opening c.args.reader.now c.read_stack_store.new.reader c.read_stack_store.result c.in-StackStore.is c.requires.class c.read_stack_store.ensures.is

pub returns-in-FuncAddr-clause-is : goal.returns-in-FuncAddr-clause-is
returns-in-FuncAddr-clause-is c = chosen classes.FuncAddr c.args.class c.args.opening c.args.reader.now c.read_func_addr.new.reader c.read_func_addr.result c.in-FuncAddr.is c.requires.class c.read_func_addr.ensures.is

pub returns-in-Nullary-clause-is : goal.returns-in-Nullary-clause-is
returns-in-Nullary-clause-is c = chosen classes.Nullary c.args.class c.args.opening c.args.reader.now c.read_nullary.new.reader c.read_nullary.result c.in-Nullary.is c.requires.class c.read_nullary.ensures.is

pub returns-in-Jump-clause-is : goal.returns-in-Jump-clause-is
returns-in-Jump-clause-is c = chosen classes.Jump c.args.class c.args.opening c.args.reader.now c.read_jump.new.reader c.read_jump.result c.in-Jump.is c.requires.class c.read_jump.ensures.is

pub returns-in-Brif-clause-is : goal.returns-in-Brif-clause-is
returns-in-Brif-clause-is c = chosen classes.Brif c.args.class c.args.opening c.args.reader.now c.read_brif.new.reader c.read_brif.result c.in-Brif.is c.requires.class c.read_brif.ensures.is

pub returns-in-BrTable-clause-is : goal.returns-in-BrTable-clause-is
returns-in-BrTable-clause-is c = chosen classes.BrTable c.args.class c.args.opening c.args.reader.now c.read_br_table.new.reader c.read_br_table.result c.in-BrTable.is c.requires.class c.read_br_table.ensures.is

pub returns-in-Return-clause-is : goal.returns-in-Return-clause-is
returns-in-Return-clause-is c = chosen classes.Return c.args.class c.args.opening c.args.reader.now c.read_return.new.reader c.read_return.result c.in-Return.is c.requires.class c.read_return.ensures.is

pub returns-in-Trap-clause-is : goal.returns-in-Trap-clause-is
returns-in-Trap-clause-is c = chosen classes.Trap c.args.class c.args.opening c.args.reader.now c.read_trap.new.reader c.read_trap.result c.in-Trap.is c.requires.class c.read_trap.ensures.is

pub returns-in-TrapIf-clause-is : goal.returns-in-TrapIf-clause-is
returns-in-TrapIf-clause-is c = chosen classes.TrapIf c.args.class c.args.opening c.args.reader.now c.read_trap_if.new.reader c.read_trap_if.result c.in-TrapIf.is c.requires.class c.read_trap_if.ensures.is

pub returns-in-Call-clause-is : goal.returns-in-Call-clause-is
returns-in-Call-clause-is c = chosen classes.Call c.args.class c.args.opening c.args.reader.now c.read_call.new.reader c.read_call.result c.in-Call.is c.requires.class c.read_call.ensures.is

pub returns-in-TryCall-clause-is : goal.returns-in-TryCall-clause-is
returns-in-TryCall-clause-is c = chosen classes.TryCall c.args.class c.args.opening c.args.reader.now c.read_try_call.new.reader c.read_try_call.result c.in-TryCall.is c.requires.class c.read_try_call.ensures.is

pub returns-in-CallIndirect-clause-is : goal.returns-in-CallIndirect-clause-is
returns-in-CallIndirect-clause-is c = chosen classes.CallIndirect c.args.class c.args.opening c.args.reader.now c.read_call_indirect.new.reader c.read_call_indirect.result c.in-CallIndirect.is c.requires.class c.read_call_indirect.ensures.is

pub returns-in-TryCallIndirect-clause-is : goal.returns-in-TryCallIndirect-clause-is
returns-in-TryCallIndirect-clause-is c = chosen classes.TryCallIndirect c.args.class c.args.opening c.args.reader.now c.read_try_call_indirect.new.reader c.read_try_call_indirect.result c.in-TryCallIndirect.is c.requires.class c.read_try_call_indirect.ensures.is

pub returns-in-RefusedOpcode-clause-is : goal.returns-in-RefusedOpcode-clause-is
returns-in-RefusedOpcode-clause-is c = choice classes.RefusedOpcode c.args.class c.args.opening c.args.reader.now c.in-RefusedOpcode.is c.requires.class

pub returns-in_default : goal.returns-in_default
returns-in_default c = record {
  is = other c.args.class c.args.opening c.args.reader.now c.refuse_opcode.result c.requires.class c.refuse_opcode.ensures (record {
    not_iconst = c.in_default.not-Iconst;
    not_binary = c.in_default.not-Binary;
    not_unary = c.in_default.not-Unary;
    not_icmp = c.in_default.not-Icmp;
    not_select = c.in_default.not-Select;
    not_convert = c.in_default.not-Convert;
    not_binary_imm = c.in_default.not-BinaryImm;
    not_icmp_imm = c.in_default.not-IcmpImm;
    not_load = c.in_default.not-Load;
    not_load_wide = c.in_default.not-LoadWide;
    not_store = c.in_default.not-Store;
    not_stack_load = c.in_default.not-StackLoad;
    not_stack_store = c.in_default.not-StackStore;
    not_func_addr = c.in_default.not-FuncAddr;
    not_nullary = c.in_default.not-Nullary;
    not_jump = c.in_default.not-Jump;
    not_brif = c.in_default.not-Brif;
    not_br_table = c.in_default.not-BrTable;
    not_return = c.in_default.not-Return;
    not_trap = c.in_default.not-Trap;
    not_trap_if = c.in_default.not-TrapIf;
    not_call = c.in_default.not-Call;
    not_try_call = c.in_default.not-TryCall;
    not_call_indirect = c.in_default.not-CallIndirect;
    not_try_call_indirect = c.in_default.not-TryCallIndirect;
    not_refused_opcode = c.in_default.not-RefusedOpcode;
  });
  shorter = tt;
}
