use Rattle.std.proofs.Common.{sym, ap, ◌∙◌}
use Rattle.std.specs.List.{list_all}
use Rattle.std.specs.Option.{option_copied}
use Rattle.ir_core.specs.Uses.{targets}
use Rattle.ir_core.specs.Viewed.{instruction_of}
use Rattle.used_values.proofs.Walks.{all_more, all_fails, all_done, fewer}
use Rattle.ir_check.specs.Twins.{leaves}
use Rattle.ir_check.proofs.Targets.{not_left, left}
use Rattle.ir_check.proofs.rules.leaves_entry.Goals as goal

pub returns-then-number : goal.returns-then-number
returns-then-number c = all_fails (leaves c.args.first) (targets (instruction_of c.args.inst.now)) c.loop-target.i c.in-Some.target.now (list_all (leaves c.args.first) (targets (instruction_of c.args.inst.now))) (sym c.in-Some.ensures.value) (not_left c.args.first c.in-Some.target.now (sym c.number.ensures ∙ (c.if-number.true ∙ c.number-in-Some.ensures))) c.loop-target.invariant

pub loop-target-smaller : goal.loop-target-smaller
loop-target-smaller c = fewer (targets (instruction_of c.args.inst.now)) c.loop-target.i c.in-Some.target.now (sym c.in-Some.ensures.value)

pub loop-target-preserved : goal.loop-target-preserved
loop-target-preserved c = all_more (leaves c.args.first) (targets (instruction_of c.args.inst.now)) c.loop-target.i c.in-Some.target.now (list_all (leaves c.args.first) (targets (instruction_of c.args.inst.now))) (sym c.in-Some.ensures.value) (left c.args.first c.in-Some.target.now (λ e. c.if-number.false (c.number.ensures ∙ (e ∙ sym c.number-in-Some.ensures)))) c.loop-target.invariant

pub returns : goal.returns
returns c = all_done (leaves c.args.first) (targets (instruction_of c.args.inst.now)) c.loop-target.i (list_all (leaves c.args.first) (targets (instruction_of c.args.inst.now))) (sym c.target_at.ensures.value ∙ ap option_copied c.in_default.is) c.loop-target.invariant
