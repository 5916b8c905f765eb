-- What an instruction is, one definition a form.
use Rattle.std.specs.Prelude.{List, [], Option, Some, None}
use Rattle.grammar.specs.Rules.{Rule, Opt, Tree}
use Rattle.ir_core.specs.declared.signatures.Ty.{Ty}
use Rattle.clif_words.specs.declared.class.Class.{Class}
use Rattle.token_reader.specs.declared.raw.RawOpcode.{RawOpcode}
use Rattle.clif_insts.specs.declared.raw.RawInst.{RawInst}
use Rattle.clif_insts.specs.declared.raw.RawOperands.{RawOperands}
use Rattle.clif_insts.specs.declared.raw.RawOperands.TheVariants as operands
use Rattle.clif_words.specs.Terminals.{◌then◌, signed, value, comma, condition, slot, sig, callee, iconst, binary}
use Rattle.clif_words.specs.Terminals.{unary, icmp, select, convert, binary_imm, icmp_imm, load, load_wide, store}
use Rattle.clif_words.specs.Terminals.{stack_load, stack_store, func_addr, nullary, jump, brif, br_table, return_word}
use Rattle.clif_words.specs.Terminals.{trap, trap_if, call, try_call, call_indirect, try_call_indirect}
use Rattle.token_reader.specs.Grammar.{number, suffix, suffix_i64}
use Rattle.clif_insts.specs.Grammar.{any_trap, flags, target, normal_target, table, args}
use Rattle.clif_insts.specs.Grammar.{target_list, instruction, inst, return_values, whole_inst}
use Rattle.token_reader.specs.Reading.{name, opcode}
use Rattle.token_reader.specs.Values.{◌otherwise◌, perhaps, never, commas_value, suffix_value, opt_suffix_value}
use Rattle.token_reader.specs.Values.{number_value, offset_value}
use Rattle.clif_insts.specs.Values.{condition_value, trap_value, args_value, flags_value}
use Rattle.clif_insts.specs.Values.{branch_value, normal_value, target_list_value, table_value}

abbrev pub raw : RawOpcode → Option Ty → RawOperands → RawInst
raw opcode suffix operands = record { opcode = opcode; suffix = suffix; operands = operands }

abbrev pub iconst_value : Tree (iconst then suffix then number) → RawInst
iconst_value v = raw (opcode v.0) (Some (suffix_value v.1.0)) (operands.Number (number_value v.1.1))

abbrev pub binary_value : Tree (binary then Opt suffix then value then comma then value) → RawInst
binary_value v = raw (opcode v.0) (opt_suffix_value v.1.0) (operands.Binary (name v.1.1.0) (name v.1.1.1.1))

abbrev pub unary_value : Tree (unary then Opt suffix then value) → RawInst
unary_value v = raw (opcode v.0) (opt_suffix_value v.1.0) (operands.Unary (name v.1.1))

abbrev pub icmp_value : Tree (icmp then Opt suffix then condition then value then comma then value) → RawInst
icmp_value v =
    raw (opcode v.0) (opt_suffix_value v.1.0)
    (operands.Compare (condition_value v.1.1.0) (name v.1.1.1.0) (name v.1.1.1.1.1))

abbrev pub select_value : Tree (select then Opt suffix then value then comma then value then comma then value) → RawInst
select_value v =
    raw (opcode v.0) (opt_suffix_value v.1.0) (operands.Ternary (name v.1.1.0) (name v.1.1.1.1.0) (name v.1.1.1.1.1.1))

abbrev pub convert_value : Tree (convert then suffix then value) → RawInst
convert_value v = raw (opcode v.0) (Some (suffix_value v.1.0)) (operands.Unary (name v.1.1))

abbrev pub binary_imm_value : Tree (binary_imm then Opt suffix then value then comma then number) → RawInst
binary_imm_value v =
    raw (opcode v.0) (opt_suffix_value v.1.0) (operands.BinaryImm (name v.1.1.0) (number_value v.1.1.1.1))

abbrev pub icmp_imm_value : Tree (icmp_imm then Opt suffix then condition then value then comma then number) → RawInst
icmp_imm_value v =
    raw (opcode v.0) (opt_suffix_value v.1.0)
    (operands.CompareImm (condition_value v.1.1.0) (name v.1.1.1.0) (number_value v.1.1.1.1.1))

abbrev pub load_value : Tree (load then suffix then flags then value then Opt signed) → RawInst
load_value v =
    raw (opcode v.0) (Some (suffix_value v.1.0))
    (operands.Load (flags_value v.1.1.0) (name v.1.1.1.0) (offset_value v.1.1.1.1))

abbrev pub load_wide_value : Tree (load_wide then Opt suffix then flags then value then Opt signed) → RawInst
load_wide_value v =
    raw (opcode v.0) (opt_suffix_value v.1.0)
    (operands.Load (flags_value v.1.1.0) (name v.1.1.1.0) (offset_value v.1.1.1.1))

abbrev pub store_value : Tree (store then Opt suffix then flags then value then comma then value then Opt signed)
    → RawInst
store_value v =
    raw (opcode v.0) (opt_suffix_value v.1.0)
    (operands.Store (flags_value v.1.1.0) (name v.1.1.1.0) (name v.1.1.1.1.1.0) (offset_value v.1.1.1.1.1.1))

abbrev pub stack_load_value : Tree (stack_load then suffix then slot then Opt signed) → RawInst
stack_load_value v =
    raw (opcode v.0) (Some (suffix_value v.1.0)) (operands.StackLoad (name v.1.1.0) (offset_value v.1.1.1))

abbrev pub stack_store_value : Tree (stack_store then Opt suffix then value then comma then slot then Opt signed)
    → RawInst
stack_store_value v =
    raw (opcode v.0) (opt_suffix_value v.1.0)
    (operands.StackStore (name v.1.1.0) (name v.1.1.1.1.0) (offset_value v.1.1.1.1.1))

abbrev pub func_addr_value : Tree (func_addr then suffix_i64 then callee) → RawInst
func_addr_value v = raw (opcode v.0) None (operands.FuncAddr (name v.1.1))

abbrev pub nullary_value : Tree nullary → RawInst
nullary_value v = raw (opcode v) None operands.Nullary

abbrev pub jump_value : Tree (jump then target) → RawInst
jump_value v = raw (opcode v.0) None (operands.Jump (branch_value v.1))

abbrev pub brif_value : Tree (brif then Opt suffix then value then comma then target then comma then target) → RawInst
brif_value v =
    raw (opcode v.0) (opt_suffix_value v.1.0)
    (operands.Brif (name v.1.1.0) (branch_value v.1.1.1.1.0) (branch_value v.1.1.1.1.1.1))

abbrev pub br_table_value : Tree (br_table then value then comma then target then comma then target_list) → RawInst
br_table_value v =
    raw (opcode v.0) None (operands.BrTable (name v.1.0) (branch_value v.1.1.1.0) (target_list_value v.1.1.1.1.1))

abbrev pub return_inst_value : Tree return_word → RawInst
return_inst_value v = raw (opcode v) None (operands.Return [])

abbrev pub trap_inst_value : Tree (trap then any_trap) → RawInst
trap_inst_value v = raw (opcode v.0) None (operands.Trap (trap_value v.1))

abbrev pub trap_if_value : Tree (trap_if then Opt suffix then value then comma then any_trap) → RawInst
trap_if_value v = raw (opcode v.0) (opt_suffix_value v.1.0) (operands.TrapIf (name v.1.1.0) (trap_value v.1.1.1.1))

abbrev pub call_value : Tree (call then callee then args) → RawInst
call_value v = raw (opcode v.0) None (operands.Call (name v.1.0) (args_value v.1.1))

abbrev pub try_call_value : Tree
    (try_call then callee then args then comma then sig then comma then normal_target then comma then table) → RawInst
try_call_value v =
    raw (opcode v.0) None
    (operands.TryCall (name v.1.0) (args_value v.1.1.0) (name v.1.1.1.1.0) (normal_value v.1.1.1.1.1.1.0)
    (table_value v.1.1.1.1.1.1.1.1))

abbrev pub call_indirect_value : Tree (call_indirect then Opt suffix_i64 then sig then comma then value then args)
    → RawInst
call_indirect_value v =
    raw (opcode v.0) None (operands.CallIndirect (name v.1.1.0) (name v.1.1.1.1.0) (args_value v.1.1.1.1.1))

abbrev pub try_call_indirect_value : Tree
    (try_call_indirect then Opt suffix_i64 then value then args then comma then sig then comma then normal_target
    then comma then table) → RawInst
try_call_indirect_value v =
    raw (opcode v.0) None
    (operands.TryCallIndirect (name v.1.1.0) (args_value v.1.1.1.0) (name v.1.1.1.1.1.0)
    (normal_value v.1.1.1.1.1.1.1.0) (table_value v.1.1.1.1.1.1.1.1.1))

-- an instruction, with this meaning of a `return`
abbrev pub instruction_value : (returned : Rule) (excepted : List Class) → (Tree returned → RawInst)
    → Tree (instruction returned excepted) → RawInst
instruction_value returned excepted returned_value =
    iconst_value otherwise
    binary_value otherwise
    unary_value otherwise
    icmp_value otherwise
    select_value otherwise
    convert_value otherwise
    binary_imm_value otherwise
    icmp_imm_value otherwise
    load_value otherwise
    load_wide_value otherwise
    store_value otherwise
    stack_load_value otherwise
    stack_store_value otherwise
    func_addr_value otherwise
    nullary_value otherwise
    jump_value otherwise
    brif_value otherwise
    br_table_value otherwise
    returned_value otherwise
    trap_inst_value otherwise
    trap_if_value otherwise
    call_value otherwise
    try_call_value otherwise
    call_indirect_value otherwise
    try_call_indirect_value otherwise
    never otherwise never

abbrev pub inst_value : (excepted : List Class) → Tree (inst excepted) → RawInst
inst_value excepted = instruction_value return_word excepted return_inst_value

-- `return` with its values
abbrev pub return_values_value : Tree return_values → RawInst
return_values_value v = raw (opcode v.0) None (operands.Return (perhaps [] (commas_value value name) v.1))

abbrev pub whole_value : Tree whole_inst → RawInst
whole_value = instruction_value return_values [] return_values_value
