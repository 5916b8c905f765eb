use Rattle.std.proofs.Common.{sym, ap, ◌∙◌}
use Rattle.std.specs.List.{list_all}
use Rattle.std.specs.Option.{option_copied}
use Rattle.ir_core.specs.Uses.{targets}
use Rattle.ir_core.specs.Viewed.{instruction_of}
use Rattle.used_values.proofs.Walks.{all_more, all_fails, all_done, fewer}
use Rattle.ir_check.specs.Twins.{target_counts}
use Rattle.ir_check.proofs.Targets.{target_below}
use Rattle.ir_check.proofs.counts.counts_targets.Goals as goal

pub returns-then-not-counts_target : goal.returns-then-not-counts_target
returns-then-not-counts_target c = all_fails (target_counts c.args.func.now.function c.args.results) (targets (instruction_of c.args.inst.now)) c.loop-target.i c.in-Some.target.now (list_all (target_counts c.args.func.now.function c.args.results) (targets (instruction_of c.args.inst.now))) (sym c.in-Some.ensures.value) (sym c.counts_target.ensures ∙ c.if-not-counts_target.true) c.loop-target.invariant

pub loop-target-smaller : goal.loop-target-smaller
loop-target-smaller c = fewer (targets (instruction_of c.args.inst.now)) c.loop-target.i c.in-Some.target.now (sym c.in-Some.ensures.value)

pub loop-target-preserved : goal.loop-target-preserved
loop-target-preserved c = all_more (target_counts c.args.func.now.function c.args.results) (targets (instruction_of c.args.inst.now)) c.loop-target.i c.in-Some.target.now (list_all (target_counts c.args.func.now.function c.args.results) (targets (instruction_of c.args.inst.now))) (sym c.in-Some.ensures.value) (sym c.counts_target.ensures ∙ c.if-not-counts_target.false) c.loop-target.invariant

pub returns : goal.returns
returns c = all_done (target_counts c.args.func.now.function c.args.results) (targets (instruction_of c.args.inst.now)) c.loop-target.i (list_all (target_counts c.args.func.now.function c.args.results) (targets (instruction_of c.args.inst.now))) (sym c.target_at.ensures.value ∙ ap option_copied c.in_default.is) c.loop-target.invariant

pub counts_target-requires-clause-there : goal.counts_target-requires-clause-there
counts_target-requires-clause-there c = target_below _ (instruction_of c.args.inst.now) c.loop-target.i c.in-Some.target.now c.requires.there (sym c.in-Some.ensures.value)
