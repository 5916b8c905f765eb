use Rattle.std.proofs.Common.{ℕ, List, length, sym, ap, subst}
use Rattle.std.specs.Prelude.{slice_get}
use Rattle.ir_core.specs.Lists.{Below}
use Rattle.ir_core.specs.Uses.{arg_values_used, operands, targets}
use Rattle.ir_core.specs.Viewed.{instruction_of}
use Rattle.ir_core.specs.declared.instructions.BlockCall.{BlockCall}
use Rattle.used_values.proofs.Ranged.{target_args_below, operands_below}
use Rattle.ir_check.proofs.typing.keeps_types.Goals as goal

pub try_has_types-requires-clause-args : goal.try_has_types-requires-clause-args
try_has_types-requires-clause-args c =
    subst (λ (t : BlockCall). Below (length c.args.func.now.function.types) (arg_values_used t.args)) (sym c.get.ensures)
    (target_args_below (length c.args.func.now.function.types) (instruction_of c.args.added.now.inst) 0 c.in-TryCall.normal c.requires.line.values (ap (λ i. slice_get (targets (instruction_of i)) 0) c.in-TryCall.is))

pub passes_types-requires-then-is-4 : goal.passes_types-requires-then-is-4
passes_types-requires-then-is-4 c =
    let all = subst (λ i. Below (length c.args.func.now.function.types) (operands (instruction_of i))) c.in-TryCallIndirect.is (operands_below (length c.args.func.now.function.types) (instruction_of c.args.added.now.inst) c.requires.line.values) in
    record { inside = subst (λ (vs : List ℕ). Below (length c.args.func.now.function.types) vs) (sym c.as_slice-then-is-4.ensures) all.1 }

pub try_has_types-requires-then-passes_types-2-clause-args : goal.try_has_types-requires-then-passes_types-2-clause-args
try_has_types-requires-then-passes_types-2-clause-args c =
    subst (λ (t : BlockCall). Below (length c.args.func.now.function.types) (arg_values_used t.args)) (sym c.get-then-passes_types-2.ensures)
    (target_args_below (length c.args.func.now.function.types) (instruction_of c.args.added.now.inst) 0 c.in-TryCallIndirect.normal c.requires.line.values (ap (λ i. slice_get (targets (instruction_of i)) 0) c.in-TryCallIndirect.is))
