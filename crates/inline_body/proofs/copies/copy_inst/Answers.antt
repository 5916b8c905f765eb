use Rattle.std.proofs.Common.{◌∷◌, [], subst}
use Rattle.ir_core.specs.Uses.{arg_values_used, targets_used, table_targets, values_used}
use Rattle.ir_core.specs.Lists.{Each}
use Rattle.ir_core.specs.Viewed.{instruction_of}
use Rattle.ir_core.proofs.Members.{each_left, each_right}
use Rattle.inline_body.specs.Named.{Moves}
use Rattle.inline_body.proofs.copies.copy_inst.Goals as goal

pub copy_brif-requires-clause-no : goal.copy_brif-requires-clause-no
copy_brif-requires-clause-no c =
    let P = Moves c.args.names.now.values in
    each_left P (arg_values_used c.in-Brif.no.args) [] (each_right P (arg_values_used c.in-Brif.yes.args) (targets_used (c.in-Brif.no ∷ [])) (subst (λ z. Each (Moves c.args.names.now.values) (values_used (instruction_of z))) c.in-Brif.is c.requires.values).1)

pub copy_br_table-requires-clause-default : goal.copy_br_table-requires-clause-default
copy_br_table-requires-clause-default c = each_left (Moves c.args.names.now.values) (arg_values_used c.in-BrTable.default.args) (targets_used c.in-BrTable.entries) (subst (λ z. Each (Moves c.args.names.now.values) (values_used (instruction_of z))) c.in-BrTable.is c.requires.values).1

pub copy_br_table-requires-clause-entries : goal.copy_br_table-requires-clause-entries
copy_br_table-requires-clause-entries c =
    (each_right (Moves c.args.names.now.values) (arg_values_used c.in-BrTable.default.args) (targets_used c.in-BrTable.entries) (subst (λ z. Each (Moves c.args.names.now.values) (values_used (instruction_of z))) c.in-BrTable.is c.requires.values).1)

pub copy_try_call-requires-clause-args : goal.copy_try_call-requires-clause-args
copy_try_call-requires-clause-args c = each_left (Moves c.args.names.now.values) c.in-TryCall.args (targets_used (c.in-TryCall.normal ∷ table_targets c.in-TryCall.table)) (subst (λ z. Each (Moves c.args.names.now.values) (values_used (instruction_of z))) c.in-TryCall.is c.requires.values)

pub copy_try_call-requires-clause-normal : goal.copy_try_call-requires-clause-normal
copy_try_call-requires-clause-normal c =
    let P = Moves c.args.names.now.values in
    each_left P (arg_values_used c.in-TryCall.normal.args) (targets_used (table_targets c.in-TryCall.table)) (each_right P c.in-TryCall.args (targets_used (c.in-TryCall.normal ∷ table_targets c.in-TryCall.table)) (subst (λ z. Each (Moves c.args.names.now.values) (values_used (instruction_of z))) c.in-TryCall.is c.requires.values))

pub copy_try_call-requires-clause-table : goal.copy_try_call-requires-clause-table
copy_try_call-requires-clause-table c =
    let P = Moves c.args.names.now.values in
    each_right P (arg_values_used c.in-TryCall.normal.args) (targets_used (table_targets c.in-TryCall.table)) (each_right P c.in-TryCall.args (targets_used (c.in-TryCall.normal ∷ table_targets c.in-TryCall.table)) (subst (λ z. Each (Moves c.args.names.now.values) (values_used (instruction_of z))) c.in-TryCall.is c.requires.values))

pub copy_try_call_indirect-requires-clause-args : goal.copy_try_call_indirect-requires-clause-args
copy_try_call_indirect-requires-clause-args c = each_left (Moves c.args.names.now.values) c.in-TryCallIndirect.args (targets_used (c.in-TryCallIndirect.normal ∷ table_targets c.in-TryCallIndirect.table)) (subst (λ z. Each (Moves c.args.names.now.values) (values_used (instruction_of z))) c.in-TryCallIndirect.is c.requires.values).1

pub copy_try_call_indirect-requires-clause-normal : goal.copy_try_call_indirect-requires-clause-normal
copy_try_call_indirect-requires-clause-normal c =
    let P = Moves c.args.names.now.values in
    each_left P (arg_values_used c.in-TryCallIndirect.normal.args) (targets_used (table_targets c.in-TryCallIndirect.table)) (each_right P c.in-TryCallIndirect.args (targets_used (c.in-TryCallIndirect.normal ∷ table_targets c.in-TryCallIndirect.table)) (subst (λ z. Each (Moves c.args.names.now.values) (values_used (instruction_of z))) c.in-TryCallIndirect.is c.requires.values).1)

pub copy_try_call_indirect-requires-clause-table : goal.copy_try_call_indirect-requires-clause-table
copy_try_call_indirect-requires-clause-table c =
    let P = Moves c.args.names.now.values in
    each_right P (arg_values_used c.in-TryCallIndirect.normal.args) (targets_used (table_targets c.in-TryCallIndirect.table)) (each_right P c.in-TryCallIndirect.args (targets_used (c.in-TryCallIndirect.normal ∷ table_targets c.in-TryCallIndirect.table)) (subst (λ z. Each (Moves c.args.names.now.values) (values_used (instruction_of z))) c.in-TryCallIndirect.is c.requires.values).1)
