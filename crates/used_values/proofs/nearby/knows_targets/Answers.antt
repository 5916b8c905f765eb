use Rattle.std.proofs.Common.{List, sym, ap, ◌∙◌}
use Rattle.std.specs.List.{list_all}
use Rattle.std.specs.Option.{option_copied}
use Rattle.ir_core.specs.declared.instructions.Arg.{Arg}
use Rattle.ir_core.specs.Uses.{targets}
use Rattle.ir_core.specs.Viewed.{instruction_of}
use Rattle.used_values.specs.Nearby.{knows_arg, knows_target}
use Rattle.used_values.proofs.Walks.{all_more, all_fails, all_done, fewer}
use Rattle.used_values.proofs.nearby.knows_targets.Goals as goal

pub returns-then-not-knows_arguments : goal.returns-then-not-knows_arguments
returns-then-not-knows_arguments c =
    all_fails (knows_target c.args.known) (targets (instruction_of c.args.inst.now)) c.loop-target.i c.in-Some.target.now (list_all (knows_target c.args.known) (targets (instruction_of c.args.inst.now))) (sym c.in-Some.ensures.value)
    (ap (λ (z : List Arg). list_all (knows_arg c.args.known) z) (sym c.as_slice.ensures) ∙ (sym c.knows_arguments.ensures ∙ c.if-not-knows_arguments.true)) c.loop-target.invariant

pub loop-target-smaller : goal.loop-target-smaller
loop-target-smaller c = fewer (targets (instruction_of c.args.inst.now)) c.loop-target.i c.in-Some.target.now (sym c.in-Some.ensures.value)

pub loop-target-preserved : goal.loop-target-preserved
loop-target-preserved c =
    all_more (knows_target c.args.known) (targets (instruction_of c.args.inst.now)) c.loop-target.i c.in-Some.target.now (list_all (knows_target c.args.known) (targets (instruction_of c.args.inst.now))) (sym c.in-Some.ensures.value)
    (ap (λ (z : List Arg). list_all (knows_arg c.args.known) z) (sym c.as_slice.ensures) ∙ (sym c.knows_arguments.ensures ∙ c.if-not-knows_arguments.false)) c.loop-target.invariant

pub returns : goal.returns
returns c = all_done (knows_target c.args.known) (targets (instruction_of c.args.inst.now)) c.loop-target.i (list_all (knows_target c.args.known) (targets (instruction_of c.args.inst.now))) (sym c.target_at.ensures.value ∙ ap option_copied c.in_default.is) c.loop-target.invariant
