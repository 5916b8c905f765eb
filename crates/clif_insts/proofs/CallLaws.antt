-- Each form is read as its rule of the grammar says.
use Rattle.std.proofs.Common.{[], None, Ok}
use Rattle.grammar.specs.Rules.{Opt, read, ◌>>=◌}
use Rattle.clif_words.specs.declared.class.Class.TheVariants as classes
use Rattle.clif_insts.specs.declared.targets.TargetRole.TheVariants as roles
use Rattle.clif_insts.specs.declared.raw.RawOperands.TheVariants as operands
use Rattle.clif_words.specs.Terminals.{◌then◌, value, comma, sig, callee, br_table, return_word, trap, trap_if, call, try_call, call_indirect, try_call_indirect}
use Rattle.token_reader.specs.Grammar.{suffix, suffix_i64}
use Rattle.clif_insts.specs.Grammar.{any_trap, target, normal_target, table, args, target_list}
use Rattle.token_reader.specs.Reading.{name, name_at}
use Rattle.token_reader.specs.Types.{opt_suffix_at, opt_suffix_i64_at}
use Rattle.clif_insts.specs.Arguments.{args_at}
use Rattle.clif_insts.specs.Targets.{target_at, target_list_at}
use Rattle.clif_insts.specs.Tables.{table_at}
use Rattle.token_reader.specs.Values.{seen, opt_suffix_value}
use Rattle.clif_insts.specs.Values.{trap_value, args_value, branch_value, normal_value, target_list_value, table_value}
use Rattle.clif_insts.specs.InstValues.{raw, br_table_value, return_inst_value, trap_inst_value, trap_if_value, call_value, try_call_value, call_indirect_value, try_call_indirect_value}
use Rattle.clif_insts.specs.Forms.{br_table_at, return_inst_at, trap_inst_at, trap_if_at, call_at, try_call_at, call_indirect_at, try_call_indirect_at}
use Rattle.token_reader.proofs.Seen.{Is, rule_is, then_is, map_is, name_is, opcode_is}
use Rattle.token_reader.proofs.TypeLaws.{opt_suffix_is, opt_suffix_i64_is}
use Rattle.clif_insts.proofs.PartLaws.{args_is, branch_is, normal_is, target_list_is, table_is}

pub br_table_is : Is (br_table then value then comma then target then comma then target_list) br_table_value br_table_at
unfolding br_table_at
br_table_is =
    then_is (opcode_is classes.BrTable) (value then comma then target then comma then target_list) (λ opcode v. raw opcode None (operands.BrTable (name v.0) (branch_value v.1.1.0) (target_list_value v.1.1.1.1)))
    (λ opcode ts. name_at classes.Value ts >>= λ index. name_at classes.Comma index.1 >>= λ s1. target_at roles.Branch s1.1 >>= λ default. name_at classes.Comma default.1 >>= λ s3. target_list_at s3.1 >>= λ entries. Ok (raw opcode None (operands.BrTable index.0 default.0 entries.0), entries.1))
    (λ opcode. then_is (name_is classes.Value) (comma then target then comma then target_list) (λ index v. raw opcode None (operands.BrTable index (branch_value v.1.0) (target_list_value v.1.1.1)))
    (λ index ts. name_at classes.Comma ts >>= λ s1. target_at roles.Branch s1.1 >>= λ default. name_at classes.Comma default.1 >>= λ s3. target_list_at s3.1 >>= λ entries. Ok (raw opcode None (operands.BrTable index default.0 entries.0), entries.1))
    (λ index. then_is (name_is classes.Comma) (target then comma then target_list) (λ s1 v. raw opcode None (operands.BrTable index (branch_value v.0) (target_list_value v.1.1)))
    (λ s1 ts. target_at roles.Branch ts >>= λ default. name_at classes.Comma default.1 >>= λ s3. target_list_at s3.1 >>= λ entries. Ok (raw opcode None (operands.BrTable index default.0 entries.0), entries.1))
    (λ s1. then_is (branch_is) (comma then target_list) (λ default v. raw opcode None (operands.BrTable index default (target_list_value v.1)))
    (λ default ts. name_at classes.Comma ts >>= λ s3. target_list_at s3.1 >>= λ entries. Ok (raw opcode None (operands.BrTable index default entries.0), entries.1))
    (λ default. then_is (name_is classes.Comma) target_list (λ s3 v. raw opcode None (operands.BrTable index default (target_list_value v)))
    (λ s3 ts. target_list_at ts >>= λ entries. Ok (raw opcode None (operands.BrTable index default entries.0), entries.1))
    (λ s3. map_is (target_list_is) (λ entries. raw opcode None (operands.BrTable index default entries)))))))

pub return_inst_is : Is return_word return_inst_value return_inst_at
unfolding return_inst_at
return_inst_is =
    map_is (opcode_is classes.Return) (λ opcode. raw opcode None (operands.Return []))

pub trap_inst_is : Is (trap then any_trap) trap_inst_value trap_inst_at
unfolding trap_inst_at
trap_inst_is =
    then_is (opcode_is classes.Trap) any_trap (λ opcode v. raw opcode None (operands.Trap (trap_value v)))
    (λ opcode ts. seen trap_value (read any_trap ts) >>= λ code. Ok (raw opcode None (operands.Trap code.0), code.1))
    (λ opcode. map_is (rule_is any_trap trap_value) (λ code. raw opcode None (operands.Trap code)))

pub trap_if_is : Is (trap_if then Opt suffix then value then comma then any_trap) trap_if_value trap_if_at
unfolding trap_if_at
trap_if_is =
    then_is (opcode_is classes.TrapIf) (Opt suffix then value then comma then any_trap) (λ opcode v. raw opcode (opt_suffix_value v.0) (operands.TrapIf (name v.1.0) (trap_value v.1.1.1)))
    (λ opcode ts. opt_suffix_at ts >>= λ the_suffix. name_at classes.Value the_suffix.1 >>= λ x. name_at classes.Comma x.1 >>= λ s2. seen trap_value (read any_trap s2.1) >>= λ code. Ok (raw opcode the_suffix.0 (operands.TrapIf x.0 code.0), code.1))
    (λ opcode. then_is (opt_suffix_is) (value then comma then any_trap) (λ the_suffix v. raw opcode the_suffix (operands.TrapIf (name v.0) (trap_value v.1.1)))
    (λ the_suffix ts. name_at classes.Value ts >>= λ x. name_at classes.Comma x.1 >>= λ s2. seen trap_value (read any_trap s2.1) >>= λ code. Ok (raw opcode the_suffix (operands.TrapIf x.0 code.0), code.1))
    (λ the_suffix. then_is (name_is classes.Value) (comma then any_trap) (λ x v. raw opcode the_suffix (operands.TrapIf x (trap_value v.1)))
    (λ x ts. name_at classes.Comma ts >>= λ s2. seen trap_value (read any_trap s2.1) >>= λ code. Ok (raw opcode the_suffix (operands.TrapIf x code.0), code.1))
    (λ x. then_is (name_is classes.Comma) any_trap (λ s2 v. raw opcode the_suffix (operands.TrapIf x (trap_value v)))
    (λ s2 ts. seen trap_value (read any_trap ts) >>= λ code. Ok (raw opcode the_suffix (operands.TrapIf x code.0), code.1))
    (λ s2. map_is (rule_is any_trap trap_value) (λ code. raw opcode the_suffix (operands.TrapIf x code))))))

pub call_is : Is (call then callee then args) call_value call_at
unfolding call_at
call_is =
    then_is (opcode_is classes.Call) (callee then args) (λ opcode v. raw opcode None (operands.Call (name v.0) (args_value v.1)))
    (λ opcode ts. name_at classes.Callee ts >>= λ the_callee. args_at the_callee.1 >>= λ the_args. Ok (raw opcode None (operands.Call the_callee.0 the_args.0), the_args.1))
    (λ opcode. then_is (name_is classes.Callee) args (λ the_callee v. raw opcode None (operands.Call the_callee (args_value v)))
    (λ the_callee ts. args_at ts >>= λ the_args. Ok (raw opcode None (operands.Call the_callee the_args.0), the_args.1))
    (λ the_callee. map_is (args_is) (λ the_args. raw opcode None (operands.Call the_callee the_args))))

pub try_call_is : Is (try_call then callee then args then comma then sig then comma then normal_target then comma then table) try_call_value try_call_at
unfolding try_call_at
try_call_is =
    then_is (opcode_is classes.TryCall) (callee then args then comma then sig then comma then normal_target then comma then table) (λ opcode v. raw opcode None (operands.TryCall (name v.0) (args_value v.1.0) (name v.1.1.1.0) (normal_value v.1.1.1.1.1.0) (table_value v.1.1.1.1.1.1.1)))
    (λ opcode ts. name_at classes.Callee ts >>= λ the_callee. args_at the_callee.1 >>= λ the_args. name_at classes.Comma the_args.1 >>= λ s2. name_at classes.Sig s2.1 >>= λ the_sig. name_at classes.Comma the_sig.1 >>= λ s4. target_at roles.Normal s4.1 >>= λ normal. name_at classes.Comma normal.1 >>= λ s6. table_at s6.1 >>= λ the_table. Ok (raw opcode None (operands.TryCall the_callee.0 the_args.0 the_sig.0 normal.0 the_table.0), the_table.1))
    (λ opcode. then_is (name_is classes.Callee) (args then comma then sig then comma then normal_target then comma then table) (λ the_callee v. raw opcode None (operands.TryCall the_callee (args_value v.0) (name v.1.1.0) (normal_value v.1.1.1.1.0) (table_value v.1.1.1.1.1.1)))
    (λ the_callee ts. args_at ts >>= λ the_args. name_at classes.Comma the_args.1 >>= λ s2. name_at classes.Sig s2.1 >>= λ the_sig. name_at classes.Comma the_sig.1 >>= λ s4. target_at roles.Normal s4.1 >>= λ normal. name_at classes.Comma normal.1 >>= λ s6. table_at s6.1 >>= λ the_table. Ok (raw opcode None (operands.TryCall the_callee the_args.0 the_sig.0 normal.0 the_table.0), the_table.1))
    (λ the_callee. then_is (args_is) (comma then sig then comma then normal_target then comma then table) (λ the_args v. raw opcode None (operands.TryCall the_callee the_args (name v.1.0) (normal_value v.1.1.1.0) (table_value v.1.1.1.1.1)))
    (λ the_args ts. name_at classes.Comma ts >>= λ s2. name_at classes.Sig s2.1 >>= λ the_sig. name_at classes.Comma the_sig.1 >>= λ s4. target_at roles.Normal s4.1 >>= λ normal. name_at classes.Comma normal.1 >>= λ s6. table_at s6.1 >>= λ the_table. Ok (raw opcode None (operands.TryCall the_callee the_args the_sig.0 normal.0 the_table.0), the_table.1))
    (λ the_args. then_is (name_is classes.Comma) (sig then comma then normal_target then comma then table) (λ s2 v. raw opcode None (operands.TryCall the_callee the_args (name v.0) (normal_value v.1.1.0) (table_value v.1.1.1.1)))
    (λ s2 ts. name_at classes.Sig ts >>= λ the_sig. name_at classes.Comma the_sig.1 >>= λ s4. target_at roles.Normal s4.1 >>= λ normal. name_at classes.Comma normal.1 >>= λ s6. table_at s6.1 >>= λ the_table. Ok (raw opcode None (operands.TryCall the_callee the_args the_sig.0 normal.0 the_table.0), the_table.1))
    (λ s2. then_is (name_is classes.Sig) (comma then normal_target then comma then table) (λ the_sig v. raw opcode None (operands.TryCall the_callee the_args the_sig (normal_value v.1.0) (table_value v.1.1.1)))
    (λ the_sig ts. name_at classes.Comma ts >>= λ s4. target_at roles.Normal s4.1 >>= λ normal. name_at classes.Comma normal.1 >>= λ s6. table_at s6.1 >>= λ the_table. Ok (raw opcode None (operands.TryCall the_callee the_args the_sig normal.0 the_table.0), the_table.1))
    (λ the_sig. then_is (name_is classes.Comma) (normal_target then comma then table) (λ s4 v. raw opcode None (operands.TryCall the_callee the_args the_sig (normal_value v.0) (table_value v.1.1)))
    (λ s4 ts. target_at roles.Normal ts >>= λ normal. name_at classes.Comma normal.1 >>= λ s6. table_at s6.1 >>= λ the_table. Ok (raw opcode None (operands.TryCall the_callee the_args the_sig normal.0 the_table.0), the_table.1))
    (λ s4. then_is (normal_is) (comma then table) (λ normal v. raw opcode None (operands.TryCall the_callee the_args the_sig normal (table_value v.1)))
    (λ normal ts. name_at classes.Comma ts >>= λ s6. table_at s6.1 >>= λ the_table. Ok (raw opcode None (operands.TryCall the_callee the_args the_sig normal the_table.0), the_table.1))
    (λ normal. then_is (name_is classes.Comma) table (λ s6 v. raw opcode None (operands.TryCall the_callee the_args the_sig normal (table_value v)))
    (λ s6 ts. table_at ts >>= λ the_table. Ok (raw opcode None (operands.TryCall the_callee the_args the_sig normal the_table.0), the_table.1))
    (λ s6. map_is (table_is) (λ the_table. raw opcode None (operands.TryCall the_callee the_args the_sig normal the_table))))))))))

pub call_indirect_is : Is (call_indirect then Opt suffix_i64 then sig then comma then value then args) call_indirect_value call_indirect_at
unfolding call_indirect_at
call_indirect_is =
    then_is (opcode_is classes.CallIndirect) (Opt suffix_i64 then sig then comma then value then args) (λ opcode v. raw opcode None (operands.CallIndirect (name v.1.0) (name v.1.1.1.0) (args_value v.1.1.1.1)))
    (λ opcode ts. opt_suffix_i64_at ts >>= λ s0. name_at classes.Sig s0.1 >>= λ the_sig. name_at classes.Comma the_sig.1 >>= λ s2. name_at classes.Value s2.1 >>= λ address. args_at address.1 >>= λ the_args. Ok (raw opcode None (operands.CallIndirect the_sig.0 address.0 the_args.0), the_args.1))
    (λ opcode. then_is (opt_suffix_i64_is) (sig then comma then value then args) (λ s0 v. raw opcode None (operands.CallIndirect (name v.0) (name v.1.1.0) (args_value v.1.1.1)))
    (λ s0 ts. name_at classes.Sig ts >>= λ the_sig. name_at classes.Comma the_sig.1 >>= λ s2. name_at classes.Value s2.1 >>= λ address. args_at address.1 >>= λ the_args. Ok (raw opcode None (operands.CallIndirect the_sig.0 address.0 the_args.0), the_args.1))
    (λ s0. then_is (name_is classes.Sig) (comma then value then args) (λ the_sig v. raw opcode None (operands.CallIndirect the_sig (name v.1.0) (args_value v.1.1)))
    (λ the_sig ts. name_at classes.Comma ts >>= λ s2. name_at classes.Value s2.1 >>= λ address. args_at address.1 >>= λ the_args. Ok (raw opcode None (operands.CallIndirect the_sig address.0 the_args.0), the_args.1))
    (λ the_sig. then_is (name_is classes.Comma) (value then args) (λ s2 v. raw opcode None (operands.CallIndirect the_sig (name v.0) (args_value v.1)))
    (λ s2 ts. name_at classes.Value ts >>= λ address. args_at address.1 >>= λ the_args. Ok (raw opcode None (operands.CallIndirect the_sig address.0 the_args.0), the_args.1))
    (λ s2. then_is (name_is classes.Value) args (λ address v. raw opcode None (operands.CallIndirect the_sig address (args_value v)))
    (λ address ts. args_at ts >>= λ the_args. Ok (raw opcode None (operands.CallIndirect the_sig address the_args.0), the_args.1))
    (λ address. map_is (args_is) (λ the_args. raw opcode None (operands.CallIndirect the_sig address the_args)))))))

pub try_call_indirect_is : Is (try_call_indirect then Opt suffix_i64 then value then args then comma then sig then comma then normal_target then comma then table) try_call_indirect_value try_call_indirect_at
unfolding try_call_indirect_at
try_call_indirect_is =
    then_is (opcode_is classes.TryCallIndirect) (Opt suffix_i64 then value then args then comma then sig then comma then normal_target then comma then table) (λ opcode v. raw opcode None (operands.TryCallIndirect (name v.1.0) (args_value v.1.1.0) (name v.1.1.1.1.0) (normal_value v.1.1.1.1.1.1.0) (table_value v.1.1.1.1.1.1.1.1)))
    (λ opcode ts. opt_suffix_i64_at ts >>= λ s0. name_at classes.Value s0.1 >>= λ address. args_at address.1 >>= λ the_args. name_at classes.Comma the_args.1 >>= λ s3. name_at classes.Sig s3.1 >>= λ the_sig. name_at classes.Comma the_sig.1 >>= λ s5. target_at roles.Normal s5.1 >>= λ normal. name_at classes.Comma normal.1 >>= λ s7. table_at s7.1 >>= λ the_table. Ok (raw opcode None (operands.TryCallIndirect address.0 the_args.0 the_sig.0 normal.0 the_table.0), the_table.1))
    (λ opcode. then_is (opt_suffix_i64_is) (value then args then comma then sig then comma then normal_target then comma then table) (λ s0 v. raw opcode None (operands.TryCallIndirect (name v.0) (args_value v.1.0) (name v.1.1.1.0) (normal_value v.1.1.1.1.1.0) (table_value v.1.1.1.1.1.1.1)))
    (λ s0 ts. name_at classes.Value ts >>= λ address. args_at address.1 >>= λ the_args. name_at classes.Comma the_args.1 >>= λ s3. name_at classes.Sig s3.1 >>= λ the_sig. name_at classes.Comma the_sig.1 >>= λ s5. target_at roles.Normal s5.1 >>= λ normal. name_at classes.Comma normal.1 >>= λ s7. table_at s7.1 >>= λ the_table. Ok (raw opcode None (operands.TryCallIndirect address.0 the_args.0 the_sig.0 normal.0 the_table.0), the_table.1))
    (λ s0. then_is (name_is classes.Value) (args then comma then sig then comma then normal_target then comma then table) (λ address v. raw opcode None (operands.TryCallIndirect address (args_value v.0) (name v.1.1.0) (normal_value v.1.1.1.1.0) (table_value v.1.1.1.1.1.1)))
    (λ address ts. args_at ts >>= λ the_args. name_at classes.Comma the_args.1 >>= λ s3. name_at classes.Sig s3.1 >>= λ the_sig. name_at classes.Comma the_sig.1 >>= λ s5. target_at roles.Normal s5.1 >>= λ normal. name_at classes.Comma normal.1 >>= λ s7. table_at s7.1 >>= λ the_table. Ok (raw opcode None (operands.TryCallIndirect address the_args.0 the_sig.0 normal.0 the_table.0), the_table.1))
    (λ address. then_is (args_is) (comma then sig then comma then normal_target then comma then table) (λ the_args v. raw opcode None (operands.TryCallIndirect address the_args (name v.1.0) (normal_value v.1.1.1.0) (table_value v.1.1.1.1.1)))
    (λ the_args ts. name_at classes.Comma ts >>= λ s3. name_at classes.Sig s3.1 >>= λ the_sig. name_at classes.Comma the_sig.1 >>= λ s5. target_at roles.Normal s5.1 >>= λ normal. name_at classes.Comma normal.1 >>= λ s7. table_at s7.1 >>= λ the_table. Ok (raw opcode None (operands.TryCallIndirect address the_args the_sig.0 normal.0 the_table.0), the_table.1))
    (λ the_args. then_is (name_is classes.Comma) (sig then comma then normal_target then comma then table) (λ s3 v. raw opcode None (operands.TryCallIndirect address the_args (name v.0) (normal_value v.1.1.0) (table_value v.1.1.1.1)))
    (λ s3 ts. name_at classes.Sig ts >>= λ the_sig. name_at classes.Comma the_sig.1 >>= λ s5. target_at roles.Normal s5.1 >>= λ normal. name_at classes.Comma normal.1 >>= λ s7. table_at s7.1 >>= λ the_table. Ok (raw opcode None (operands.TryCallIndirect address the_args the_sig.0 normal.0 the_table.0), the_table.1))
    (λ s3. then_is (name_is classes.Sig) (comma then normal_target then comma then table) (λ the_sig v. raw opcode None (operands.TryCallIndirect address the_args the_sig (normal_value v.1.0) (table_value v.1.1.1)))
    (λ the_sig ts. name_at classes.Comma ts >>= λ s5. target_at roles.Normal s5.1 >>= λ normal. name_at classes.Comma normal.1 >>= λ s7. table_at s7.1 >>= λ the_table. Ok (raw opcode None (operands.TryCallIndirect address the_args the_sig normal.0 the_table.0), the_table.1))
    (λ the_sig. then_is (name_is classes.Comma) (normal_target then comma then table) (λ s5 v. raw opcode None (operands.TryCallIndirect address the_args the_sig (normal_value v.0) (table_value v.1.1)))
    (λ s5 ts. target_at roles.Normal ts >>= λ normal. name_at classes.Comma normal.1 >>= λ s7. table_at s7.1 >>= λ the_table. Ok (raw opcode None (operands.TryCallIndirect address the_args the_sig normal.0 the_table.0), the_table.1))
    (λ s5. then_is (normal_is) (comma then table) (λ normal v. raw opcode None (operands.TryCallIndirect address the_args the_sig normal (table_value v.1)))
    (λ normal ts. name_at classes.Comma ts >>= λ s7. table_at s7.1 >>= λ the_table. Ok (raw opcode None (operands.TryCallIndirect address the_args the_sig normal the_table.0), the_table.1))
    (λ normal. then_is (name_is classes.Comma) table (λ s7 v. raw opcode None (operands.TryCallIndirect address the_args the_sig normal (table_value v)))
    (λ s7 ts. table_at ts >>= λ the_table. Ok (raw opcode None (operands.TryCallIndirect address the_args the_sig normal the_table.0), the_table.1))
    (λ s7. map_is (table_is) (λ the_table. raw opcode None (operands.TryCallIndirect address the_args the_sig normal the_table)))))))))))
