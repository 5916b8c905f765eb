-- Instructions, read from left to right, one definition a form.
use Rattle.std.specs.Prelude.{if◌then◌else◌, List, [], ◌∷◌, Some, None, Ok, Err}
use Rattle.grammar.specs.Rules.{Lexeme, UnknownOpcode, Unsupported, Out, read, ◌>>=◌}
use Rattle.clif_words.specs.declared.class.Class.TheVariants as classes
use Rattle.clif_insts.specs.declared.opening.Opening.{Opening}
use Rattle.clif_insts.specs.declared.opening.Opening.TheVariants.{AfterResults}
use Rattle.clif_insts.specs.declared.targets.TargetRole.TheVariants as roles
use Rattle.token_reader.specs.declared.raw.RawName.{RawName}
use Rattle.clif_insts.specs.declared.raw.RawInst.{RawInst}
use Rattle.clif_insts.specs.declared.raw.RawOperands.TheVariants as operands
use Rattle.clif_words.specs.Terminals as words
use Rattle.clif_insts.specs.Grammar.{any_trap, excepted, words_but}
use Rattle.token_reader.specs.Reading.{next_is, name_at, opcode_at, refuse_codes}
use Rattle.token_reader.specs.Types.{suffix_at, opt_suffix_at, suffix_i64_at, opt_suffix_i64_at}
use Rattle.token_reader.specs.Values.{seen}
use Rattle.clif_insts.specs.Values.{condition_value, trap_value}
use Rattle.clif_insts.specs.Arguments.{more_values_at, values_at, args_at}
use Rattle.clif_insts.specs.Targets.{target_at, target_list_at}
use Rattle.clif_insts.specs.Tables.{table_at}
use Rattle.token_reader.specs.Numbers.{number_at, offset_at}
use Rattle.clif_insts.specs.Flags.{flags_at}

unfoldable pub iconst_at : List Lexeme → Out RawInst
iconst_at ts = do
  opcode ← opcode_at classes.Iconst ts
  suffix ← suffix_at opcode.1
  number ← number_at suffix.1
  Ok (record { opcode = opcode.0; suffix = Some suffix.0; operands = operands.Number number.0 }, number.1)

unfoldable pub binary_at : List Lexeme → Out RawInst
binary_at ts = do
  opcode ← opcode_at classes.Binary ts
  suffix ← opt_suffix_at opcode.1
  x ← name_at classes.Value suffix.1
  s2 ← name_at classes.Comma x.1
  y ← name_at classes.Value s2.1
  Ok (record { opcode = opcode.0; suffix = suffix.0; operands = operands.Binary x.0 y.0 }, y.1)

unfoldable pub unary_at : List Lexeme → Out RawInst
unary_at ts = do
  opcode ← opcode_at classes.Unary ts
  suffix ← opt_suffix_at opcode.1
  x ← name_at classes.Value suffix.1
  Ok (record { opcode = opcode.0; suffix = suffix.0; operands = operands.Unary x.0 }, x.1)

unfoldable pub icmp_at : List Lexeme → Out RawInst
icmp_at ts = do
  opcode ← opcode_at classes.Icmp ts
  suffix ← opt_suffix_at opcode.1
  condition ← seen condition_value (read words.condition suffix.1)
  x ← name_at classes.Value condition.1
  s3 ← name_at classes.Comma x.1
  y ← name_at classes.Value s3.1
  Ok (record { opcode = opcode.0; suffix = suffix.0; operands = operands.Compare condition.0 x.0 y.0 }, y.1)

unfoldable pub select_at : List Lexeme → Out RawInst
select_at ts = do
  opcode ← opcode_at classes.Select ts
  suffix ← opt_suffix_at opcode.1
  x ← name_at classes.Value suffix.1
  s2 ← name_at classes.Comma x.1
  y ← name_at classes.Value s2.1
  s4 ← name_at classes.Comma y.1
  z ← name_at classes.Value s4.1
  Ok (record { opcode = opcode.0; suffix = suffix.0; operands = operands.Ternary x.0 y.0 z.0 }, z.1)

unfoldable pub convert_at : List Lexeme → Out RawInst
convert_at ts = do
  opcode ← opcode_at classes.Convert ts
  suffix ← suffix_at opcode.1
  x ← name_at classes.Value suffix.1
  Ok (record { opcode = opcode.0; suffix = Some suffix.0; operands = operands.Unary x.0 }, x.1)

unfoldable pub binary_imm_at : List Lexeme → Out RawInst
binary_imm_at ts = do
  opcode ← opcode_at classes.BinaryImm ts
  suffix ← opt_suffix_at opcode.1
  x ← name_at classes.Value suffix.1
  s2 ← name_at classes.Comma x.1
  number ← number_at s2.1
  Ok (record { opcode = opcode.0; suffix = suffix.0; operands = operands.BinaryImm x.0 number.0 }, number.1)

unfoldable pub icmp_imm_at : List Lexeme → Out RawInst
icmp_imm_at ts = do
  opcode ← opcode_at classes.IcmpImm ts
  suffix ← opt_suffix_at opcode.1
  condition ← seen condition_value (read words.condition suffix.1)
  x ← name_at classes.Value condition.1
  s3 ← name_at classes.Comma x.1
  number ← number_at s3.1
  Ok (
    record { opcode = opcode.0; suffix = suffix.0; operands = operands.CompareImm condition.0 x.0 number.0 },
    number.1,
  )

unfoldable pub load_at : List Lexeme → Out RawInst
load_at ts = do
  opcode ← opcode_at classes.Load ts
  suffix ← suffix_at opcode.1
  flags ← flags_at suffix.1
  address ← name_at classes.Value flags.1
  offset ← offset_at address.1
  Ok (
    record { opcode = opcode.0; suffix = Some suffix.0; operands = operands.Load flags.0 address.0 offset.0 },
    offset.1,
  )

unfoldable pub load_wide_at : List Lexeme → Out RawInst
load_wide_at ts = do
  opcode ← opcode_at classes.LoadWide ts
  suffix ← opt_suffix_at opcode.1
  flags ← flags_at suffix.1
  address ← name_at classes.Value flags.1
  offset ← offset_at address.1
  Ok (record { opcode = opcode.0; suffix = suffix.0; operands = operands.Load flags.0 address.0 offset.0 }, offset.1)

unfoldable pub store_at : List Lexeme → Out RawInst
store_at ts = do
  opcode ← opcode_at classes.Store ts
  suffix ← opt_suffix_at opcode.1
  flags ← flags_at suffix.1
  value ← name_at classes.Value flags.1
  s3 ← name_at classes.Comma value.1
  address ← name_at classes.Value s3.1
  offset ← offset_at address.1
  Ok (
    record { opcode = opcode.0; suffix = suffix.0; operands = operands.Store flags.0 value.0 address.0 offset.0 },
    offset.1,
  )

unfoldable pub stack_load_at : List Lexeme → Out RawInst
stack_load_at ts = do
  opcode ← opcode_at classes.StackLoad ts
  suffix ← suffix_at opcode.1
  slot ← name_at classes.Slot suffix.1
  offset ← offset_at slot.1
  Ok (record { opcode = opcode.0; suffix = Some suffix.0; operands = operands.StackLoad slot.0 offset.0 }, offset.1)

unfoldable pub stack_store_at : List Lexeme → Out RawInst
stack_store_at ts = do
  opcode ← opcode_at classes.StackStore ts
  suffix ← opt_suffix_at opcode.1
  value ← name_at classes.Value suffix.1
  s2 ← name_at classes.Comma value.1
  slot ← name_at classes.Slot s2.1
  offset ← offset_at slot.1
  Ok (record { opcode = opcode.0; suffix = suffix.0; operands = operands.StackStore value.0 slot.0 offset.0 }, offset.1)

unfoldable pub func_addr_at : List Lexeme → Out RawInst
func_addr_at ts = do
  opcode ← opcode_at classes.FuncAddr ts
  s0 ← suffix_i64_at opcode.1
  callee ← name_at classes.Callee s0.1
  Ok (record { opcode = opcode.0; suffix = None; operands = operands.FuncAddr callee.0 }, callee.1)

unfoldable pub nullary_at : List Lexeme → Out RawInst
nullary_at ts = do
  opcode ← opcode_at classes.Nullary ts
  Ok (record { opcode = opcode.0; suffix = None; operands = operands.Nullary }, opcode.1)

unfoldable pub jump_at : List Lexeme → Out RawInst
jump_at ts = do
  opcode ← opcode_at classes.Jump ts
  target ← target_at roles.Branch opcode.1
  Ok (record { opcode = opcode.0; suffix = None; operands = operands.Jump target.0 }, target.1)

unfoldable pub brif_at : List Lexeme → Out RawInst
brif_at ts = do
  opcode ← opcode_at classes.Brif ts
  suffix ← opt_suffix_at opcode.1
  cond ← name_at classes.Value suffix.1
  s2 ← name_at classes.Comma cond.1
  then_target ← target_at roles.Branch s2.1
  s4 ← name_at classes.Comma then_target.1
  else_target ← target_at roles.Branch s4.1
  Ok (
    record { opcode = opcode.0; suffix = suffix.0; operands = operands.Brif cond.0 then_target.0 else_target.0 },
    else_target.1,
  )

unfoldable pub br_table_at : List Lexeme → Out RawInst
br_table_at ts = do
  opcode ← opcode_at classes.BrTable ts
  index ← name_at classes.Value opcode.1
  s1 ← name_at classes.Comma index.1
  default ← target_at roles.Branch s1.1
  s3 ← name_at classes.Comma default.1
  entries ← target_list_at s3.1
  Ok (record { opcode = opcode.0; suffix = None; operands = operands.BrTable index.0 default.0 entries.0 }, entries.1)

unfoldable pub return_inst_at : List Lexeme → Out RawInst
return_inst_at ts = do
  opcode ← opcode_at classes.Return ts
  Ok (record { opcode = opcode.0; suffix = None; operands = operands.Return [] }, opcode.1)

unfoldable pub trap_inst_at : List Lexeme → Out RawInst
trap_inst_at ts = do
  opcode ← opcode_at classes.Trap ts
  code ← seen trap_value (read any_trap opcode.1)
  Ok (record { opcode = opcode.0; suffix = None; operands = operands.Trap code.0 }, code.1)

unfoldable pub trap_if_at : List Lexeme → Out RawInst
trap_if_at ts = do
  opcode ← opcode_at classes.TrapIf ts
  suffix ← opt_suffix_at opcode.1
  x ← name_at classes.Value suffix.1
  s2 ← name_at classes.Comma x.1
  code ← seen trap_value (read any_trap s2.1)
  Ok (record { opcode = opcode.0; suffix = suffix.0; operands = operands.TrapIf x.0 code.0 }, code.1)

unfoldable pub call_at : List Lexeme → Out RawInst
call_at ts = do
  opcode ← opcode_at classes.Call ts
  callee ← name_at classes.Callee opcode.1
  args ← args_at callee.1
  Ok (record { opcode = opcode.0; suffix = None; operands = operands.Call callee.0 args.0 }, args.1)

unfoldable pub try_call_at : List Lexeme → Out RawInst
try_call_at ts = do
  opcode ← opcode_at classes.TryCall ts
  callee ← name_at classes.Callee opcode.1
  args ← args_at callee.1
  s2 ← name_at classes.Comma args.1
  sig ← name_at classes.Sig s2.1
  s4 ← name_at classes.Comma sig.1
  normal ← target_at roles.Normal s4.1
  s6 ← name_at classes.Comma normal.1
  table ← table_at s6.1
  Ok (
    record { opcode = opcode.0; suffix = None; operands = operands.TryCall callee.0 args.0 sig.0 normal.0 table.0 },
    table.1,
  )

unfoldable pub call_indirect_at : List Lexeme → Out RawInst
call_indirect_at ts = do
  opcode ← opcode_at classes.CallIndirect ts
  s0 ← opt_suffix_i64_at opcode.1
  sig ← name_at classes.Sig s0.1
  s2 ← name_at classes.Comma sig.1
  address ← name_at classes.Value s2.1
  args ← args_at address.1
  Ok (record { opcode = opcode.0; suffix = None; operands = operands.CallIndirect sig.0 address.0 args.0 }, args.1)

unfoldable pub try_call_indirect_at : List Lexeme → Out RawInst
try_call_indirect_at ts = do
  opcode ← opcode_at classes.TryCallIndirect ts
  s0 ← opt_suffix_i64_at opcode.1
  address ← name_at classes.Value s0.1
  args ← args_at address.1
  s3 ← name_at classes.Comma args.1
  sig ← name_at classes.Sig s3.1
  s5 ← name_at classes.Comma sig.1
  normal ← target_at roles.Normal s5.1
  s7 ← name_at classes.Comma normal.1
  table ← table_at s7.1
  Ok (
    record {
      opcode = opcode.0;
      suffix = None;
      operands = operands.TryCallIndirect address.0 args.0 sig.0 normal.0 table.0;
    },
    table.1,
  )

-- an instruction behind what stands before it, where a `return` is read in this way
abbrev pub inst_by : Opening → (List Lexeme → Out RawInst) → List Lexeme → Out RawInst
inst_by opening returned_at ts =
    if next_is classes.Iconst ts then iconst_at ts
    else if next_is classes.Binary ts then binary_at ts
    else if next_is classes.Unary ts then unary_at ts
    else if next_is classes.Icmp ts then icmp_at ts
    else if next_is classes.Select ts then select_at ts
    else if next_is classes.Convert ts then convert_at ts
    else if next_is classes.BinaryImm ts then binary_imm_at ts
    else if next_is classes.IcmpImm ts then icmp_imm_at ts
    else if next_is classes.Load ts then load_at ts
    else if next_is classes.LoadWide ts then load_wide_at ts
    else if next_is classes.Store ts then store_at ts
    else if next_is classes.StackLoad ts then stack_load_at ts
    else if next_is classes.StackStore ts then stack_store_at ts
    else if next_is classes.FuncAddr ts then func_addr_at ts
    else if next_is classes.Nullary ts then nullary_at ts
    else if next_is classes.Jump ts then jump_at ts
    else if next_is classes.Brif ts then brif_at ts
    else if next_is classes.BrTable ts then br_table_at ts
    else if next_is classes.Return ts then returned_at ts
    else if next_is classes.Trap ts then trap_inst_at ts
    else if next_is classes.TrapIf ts then trap_if_at ts
    else if next_is classes.Call ts then call_at ts
    else if next_is classes.TryCall ts then try_call_at ts
    else if next_is classes.CallIndirect ts then call_indirect_at ts
    else if next_is classes.TryCallIndirect ts then try_call_indirect_at ts
    else if next_is classes.RefusedOpcode ts then Err (Unsupported, ts)
    else refuse_codes (words_but (excepted opening)) UnknownOpcode ts

-- An instruction. The values of a `return` stand behind it.
unfoldable pub inst_at : Opening → List Lexeme → Out RawInst
inst_at opening ts = inst_by opening return_inst_at ts

-- the values of a `return`, if there are any
unfoldable pub opt_values_at : List Lexeme → Out (List RawName)
opt_values_at ts = if next_is classes.Value ts then values_at ts else Ok ([], ts)

-- `return v, ..`
unfoldable pub return_values_at : List Lexeme → Out RawInst
return_values_at ts = do
  opcode ← opcode_at classes.Return ts
  values ← opt_values_at opcode.1
  Ok (record { opcode = opcode.0; suffix = None; operands = operands.Return values.0 }, values.1)

-- an instruction, with the values of a `return`
unfoldable pub whole_at : List Lexeme → Out RawInst
whole_at ts = inst_by AfterResults return_values_at ts

-- The values of a `return`, but none where they would be the results of the next line, or its alias.
unfoldable pub own_values_at : List Lexeme → Out (List RawName)
own_values_at ts =
    if next_is classes.Value ts then (name_at classes.Value ts >>= λ v.
    if next_is classes.Arrow v.1 then Ok ([], ts)
    else (more_values_at (v.0 ∷ []) v.1 >>= λ vs. if next_is classes.Equals vs.1 then Ok ([], ts) else Ok vs))
    else Ok ([], ts)

unfoldable pub return_line_at : List Lexeme → Out RawInst
return_line_at ts = do
  opcode ← opcode_at classes.Return ts
  values ← own_values_at opcode.1
  Ok (record { opcode = opcode.0; suffix = None; operands = operands.Return values.0 }, values.1)

-- one instruction of a block, with the values of a `return` that are its own
unfoldable pub one_at : List Lexeme → Out RawInst
one_at ts = if next_is classes.Return ts then return_line_at ts else inst_at AfterResults ts
