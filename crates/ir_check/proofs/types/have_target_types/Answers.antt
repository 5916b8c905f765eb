use Rattle.std.proofs.Common.{sym, ap, ◌∙◌, [], drop}
use Rattle.std.specs.List.{list_all}
use Rattle.std.specs.Option.{option_copied}
use Rattle.ir_core.specs.Uses.{targets}
use Rattle.ir_core.specs.Viewed.{instruction_of}
use Rattle.used_values.proofs.Walks.{all_more, all_fails, all_done, fewer}
use Rattle.used_values.proofs.Ranged.{target_args_below}
use Rattle.ir_check.specs.Twins.{target_types}
use Rattle.ir_check.proofs.Targets.{target_below}
use Rattle.ir_check.proofs.types.have_target_types.Goals as goal

pub returns-then-not-has_target_types : goal.returns-then-not-has_target_types
returns-then-not-has_target_types c = all_fails (target_types c.args.func.now.function [] c.args.payloads.now) (targets (instruction_of c.args.inst.now)) c.loop-target.i c.in-Some.target.now (list_all (target_types c.args.func.now.function [] c.args.payloads.now) (drop c.args.from (targets (instruction_of c.args.inst.now)))) (sym c.in-Some.ensures.value) (sym c.has_target_types.ensures ∙ c.if-not-has_target_types.true) c.loop-target.invariant

pub loop-target-smaller : goal.loop-target-smaller
loop-target-smaller c = fewer (targets (instruction_of c.args.inst.now)) c.loop-target.i c.in-Some.target.now (sym c.in-Some.ensures.value)

pub loop-target-preserved : goal.loop-target-preserved
loop-target-preserved c = all_more (target_types c.args.func.now.function [] c.args.payloads.now) (targets (instruction_of c.args.inst.now)) c.loop-target.i c.in-Some.target.now (list_all (target_types c.args.func.now.function [] c.args.payloads.now) (drop c.args.from (targets (instruction_of c.args.inst.now)))) (sym c.in-Some.ensures.value) (sym c.has_target_types.ensures ∙ c.if-not-has_target_types.false) c.loop-target.invariant

pub returns : goal.returns
returns c = all_done (target_types c.args.func.now.function [] c.args.payloads.now) (targets (instruction_of c.args.inst.now)) c.loop-target.i (list_all (target_types c.args.func.now.function [] c.args.payloads.now) (drop c.args.from (targets (instruction_of c.args.inst.now)))) (sym c.target_at.ensures.value ∙ ap option_copied c.in_default.is) c.loop-target.invariant

pub has_target_types-requires-clause-there : goal.has_target_types-requires-clause-there
has_target_types-requires-clause-there c = target_below _ (instruction_of c.args.inst.now) c.loop-target.i c.in-Some.target.now c.requires.blocks (sym c.in-Some.ensures.value)

pub has_target_types-requires-clause-args : goal.has_target_types-requires-clause-args
has_target_types-requires-clause-args c = target_args_below _ (instruction_of c.args.inst.now) c.loop-target.i c.in-Some.target.now c.requires.values (sym c.in-Some.ensures.value)
