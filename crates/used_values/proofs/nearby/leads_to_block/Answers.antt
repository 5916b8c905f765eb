use Rattle.std.proofs.Common.{sym, ap, ◌∙◌, eq-eqb, ne_eqb}
use Rattle.std.specs.List.{list_all}
use Rattle.std.specs.Option.{option_copied}
use Rattle.ir_core.specs.Uses.{targets}
use Rattle.ir_core.specs.Viewed.{instruction_of}
use Rattle.used_values.specs.Nearby.{leads_to}
use Rattle.used_values.proofs.Walks.{all_more, all_fails, all_done, fewer}
use Rattle.used_values.proofs.nearby.leads_to_block.Goals as goal

pub returns-then-number : goal.returns-then-number
returns-then-number c =
    all_fails (leads_to c.args.block) (targets (instruction_of c.args.inst.now)) c.loop-target.i c.in-Some.target.now (list_all (leads_to c.args.block) (targets (instruction_of c.args.inst.now))) (sym c.in-Some.ensures.value)
    (ne_eqb c.in-Some.target.now.block c.args.block (λ e. c.if-number.true (c.number.ensures ∙ (e ∙ sym c.number-in-Some.ensures)))) c.loop-target.invariant

pub loop-target-smaller : goal.loop-target-smaller
loop-target-smaller c = fewer (targets (instruction_of c.args.inst.now)) c.loop-target.i c.in-Some.target.now (sym c.in-Some.ensures.value)

pub loop-target-preserved : goal.loop-target-preserved
loop-target-preserved c =
    all_more (leads_to c.args.block) (targets (instruction_of c.args.inst.now)) c.loop-target.i c.in-Some.target.now (list_all (leads_to c.args.block) (targets (instruction_of c.args.inst.now))) (sym c.in-Some.ensures.value)
    (eq-eqb c.in-Some.target.now.block c.args.block (sym c.number.ensures ∙ (c.if-number.false ∙ c.number-in-Some.ensures))) c.loop-target.invariant

pub returns : goal.returns
returns c = all_done (leads_to c.args.block) (targets (instruction_of c.args.inst.now)) c.loop-target.i (list_all (leads_to c.args.block) (targets (instruction_of c.args.inst.now))) (sym c.target_at.ensures.value ∙ ap option_copied c.in_default.is) c.loop-target.invariant
