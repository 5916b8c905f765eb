use Rattle.std.proofs.Common.{◌∷◌, subst}
use Rattle.ir_core.specs.Uses.{arg_values_used, targets_used, table_targets, values_used}
use Rattle.ir_core.specs.Lists.{Each}
use Rattle.ir_core.specs.Viewed.{instruction_of}
use Rattle.ir_core.proofs.Members.{each_left, each_right}
use Rattle.inline_body.specs.Named.{Moves}
use Rattle.inline_ends.proofs.trying.join_table.Goals as goal

pub boxed-requires-clause-values : goal.boxed-requires-clause-values
boxed-requires-clause-values c =
    let P = Moves c.args.names.now.values in
    each_left P (arg_values_used c.in-TryCall.normal.args) (targets_used (table_targets c.in-TryCall.table)) (each_right P c.in-TryCall.args (targets_used (c.in-TryCall.normal ∷ table_targets c.in-TryCall.table)) (subst (λ z. Each (Moves c.args.names.now.values) (values_used (instruction_of z))) c.in-TryCall.is c.requires.reached.values))

pub joined_table-requires-clause-values : goal.joined_table-requires-clause-values
joined_table-requires-clause-values c =
    let P = Moves c.args.names.now.values in
    rw c.get.ensures (each_right P (arg_values_used c.in-TryCall.normal.args) (targets_used (table_targets c.in-TryCall.table)) (each_right P c.in-TryCall.args (targets_used (c.in-TryCall.normal ∷ table_targets c.in-TryCall.table)) (subst (λ z. Each (Moves c.args.names.now.values) (values_used (instruction_of z))) c.in-TryCall.is c.requires.reached.values)))

pub of_values-requires-in-TryCallIndirect : goal.of_values-requires-in-TryCallIndirect
of_values-requires-in-TryCallIndirect c = each_left (Moves c.args.names.now.values) c.in-TryCallIndirect.args (targets_used (c.in-TryCallIndirect.normal ∷ table_targets c.in-TryCallIndirect.table)) (subst (λ z. Each (Moves c.args.names.now.values) (values_used (instruction_of z))) c.in-TryCallIndirect.is c.requires.reached.values).1

pub boxed-requires-in-TryCallIndirect-clause-values : goal.boxed-requires-in-TryCallIndirect-clause-values
boxed-requires-in-TryCallIndirect-clause-values c =
    let P = Moves c.args.names.now.values in
    each_left P (arg_values_used c.in-TryCallIndirect.normal.args) (targets_used (table_targets c.in-TryCallIndirect.table)) (each_right P c.in-TryCallIndirect.args (targets_used (c.in-TryCallIndirect.normal ∷ table_targets c.in-TryCallIndirect.table)) (subst (λ z. Each (Moves c.args.names.now.values) (values_used (instruction_of z))) c.in-TryCallIndirect.is c.requires.reached.values).1)

pub joined_table-requires-in-TryCallIndirect-clause-values : goal.joined_table-requires-in-TryCallIndirect-clause-values
joined_table-requires-in-TryCallIndirect-clause-values c =
    let P = Moves c.args.names.now.values in
    rw c.get-in-TryCallIndirect.ensures (each_right P (arg_values_used c.in-TryCallIndirect.normal.args) (targets_used (table_targets c.in-TryCallIndirect.table)) (each_right P c.in-TryCallIndirect.args (targets_used (c.in-TryCallIndirect.normal ∷ table_targets c.in-TryCallIndirect.table)) (subst (λ z. Each (Moves c.args.names.now.values) (values_used (instruction_of z))) c.in-TryCallIndirect.is c.requires.reached.values).1))
