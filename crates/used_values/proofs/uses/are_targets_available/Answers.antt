use Rattle.std.proofs.Common.{List, ◌+◌, length, drop, ap, sym, subst, ◌∙◌, ◌↔◌}
use Rattle.std.specs.Option.{option_copied}
use Rattle.std.specs.Prelude.{IsTrue}
use Rattle.ir_core.specs.declared.instructions.Arg.{Arg}
use Rattle.ir_core.specs.Lists.{Below, Each}
use Rattle.ir_core.specs.Uses.{arg_values_used, targets_used, targets}
use Rattle.ir_core.specs.Viewed.{instruction_of}
use Rattle.ir_semantics.specs.Available.{Available}
use Rattle.avail_flow.proofs.Listing.{left_past}
use Rattle.used_values.proofs.Walks.{fewer}
use Rattle.used_values.proofs.Ranged.{target_args_below}
use Rattle.used_values.proofs.Using.{refuses, goes_on, holds, targets_split}
use Rattle.used_values.proofs.uses.are_targets_available.Goals as goal

pub loop-target-smaller : goal.loop-target-smaller
loop-target-smaller c = fewer (targets (instruction_of c.args.inst.now)) c.loop-target.i c.in-Some.target.now (sym c.in-Some.ensures.value)

pub returns : goal.returns
returns c =
    holds (Available c.args.avail.now c.args.block c.args.index) (targets_used (targets (instruction_of c.args.inst.now))) (targets_used (drop c.loop-target.i (targets (instruction_of c.args.inst.now))))
    (ap targets_used (left_past (targets (instruction_of c.args.inst.now)) c.loop-target.i (sym c.target_at.ensures.value ∙ ap option_copied c.in_default.is))) c.loop-target.invariant

pub are_args_available-requires-clause-inside : goal.are_args_available-requires-clause-inside
are_args_available-requires-clause-inside c =
    subst (λ (z : List Arg). Below (length c.args.avail.now.types) (arg_values_used z)) (sym c.as_slice.ensures)
    (target_args_below (length c.args.avail.now.types) (instruction_of c.args.inst.now) c.loop-target.i c.in-Some.target.now c.requires.inside (sym c.in-Some.ensures.value))

pub returns-then-not-are_args_available : goal.returns-then-not-are_args_available
returns-then-not-are_args_available c =
    refuses (Available c.args.avail.now c.args.block c.args.index) (targets_used (targets (instruction_of c.args.inst.now))) (targets_used (drop c.loop-target.i (targets (instruction_of c.args.inst.now)))) (arg_values_used c.in-Some.target.now.args) (targets_used (drop (c.loop-target.i + 1) (targets (instruction_of c.args.inst.now)))) c.are_args_available.result
    (targets_split (targets (instruction_of c.args.inst.now)) c.loop-target.i c.in-Some.target.now (sym c.in-Some.ensures.value)) (subst (λ (z : List Arg). IsTrue c.are_args_available.result ↔ Each (Available c.args.avail.now c.args.block c.args.index) (arg_values_used z)) c.as_slice.ensures c.are_args_available.ensures) c.if-not-are_args_available.true c.loop-target.invariant

pub loop-target-preserved : goal.loop-target-preserved
loop-target-preserved c =
    goes_on (Available c.args.avail.now c.args.block c.args.index) (targets_used (targets (instruction_of c.args.inst.now))) (targets_used (drop c.loop-target.i (targets (instruction_of c.args.inst.now)))) (arg_values_used c.in-Some.target.now.args) (targets_used (drop (c.loop-target.i + 1) (targets (instruction_of c.args.inst.now)))) c.are_args_available.result
    (targets_split (targets (instruction_of c.args.inst.now)) c.loop-target.i c.in-Some.target.now (sym c.in-Some.ensures.value)) (subst (λ (z : List Arg). IsTrue c.are_args_available.result ↔ Each (Available c.args.avail.now c.args.block c.args.index) (arg_values_used z)) c.as_slice.ensures c.are_args_available.ensures) c.if-not-are_args_available.false c.loop-target.invariant
