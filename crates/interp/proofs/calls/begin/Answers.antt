use Rattle.std.proofs.Common.{◌∙◌, ◌<◌, length, ap, true, false, map, rules, Some}
use Rattle.clk_num.specs.Views.{data_of_all}
use Rattle.ir_core.specs.Viewed.{line_of}
use Rattle.interp.specs.State.{env_of, function_at}
use Rattle.interp.proofs.Entering.{begin_past, begun, entered, first_there}
use Rattle.interp.proofs.calls.begin.Goals as goal

pub returns-then-at-len : goal.returns-then-at-len
returns-then-at-len c = begin_past c.args.program.now.module.now c.args.at (data_of_all c.args.args.now) c.args.extra.items (search rules)

pub returns-then-not-branch : goal.returns-then-not-branch
returns-then-not-branch c =
    begun c.args.program.now.module.now c.args.at c.in-Some.first c.func-func.result.now.function c.params-params.result.now (map line_of c.inst_slice-rest.result.now) (data_of_all c.args.args.now) c.args.extra.items c.in_ok-bind.field-0 false (env_of c.bind.new.values) c.new-values.result
    c.func-func.ensures.at c.in-Some.ensures c.params-params.ensures c.inst_slice-rest.ensures c.if-not-branch.true c.new-values.ensures c.in_ok-bind.ensures

pub returns : goal.returns
returns c =
    ap (λ sl. Some (record { func = function_at c.args.program.now.module.now c.args.at; rest = map line_of c.inst_slice-rest.result.now; env = env_of c.bind.new.values; slots = sl; extra = c.args.extra.items })) c.new-slots.ensures
    ∙ begun c.args.program.now.module.now c.args.at c.in-Some.first c.func-func.result.now.function c.params-params.result.now (map line_of c.inst_slice-rest.result.now) (data_of_all c.args.args.now) c.args.extra.items c.in_ok-bind.field-0 true (env_of c.bind.new.values) c.new-values.result
    c.func-func.ensures.at c.in-Some.ensures c.params-params.ensures c.inst_slice-rest.ensures c.if-not-branch.false c.new-values.ensures c.in_ok-bind.ensures

pub invariant_of-result : goal.invariant_of-result
invariant_of-result c =
    let lt : c.args.at < length c.args.program.now.module.now = search rules in
    record { fit = c.requires.linked.fit c.args.at c.in-Some.first (record { number = c.in-Some.first; params = c.params-params.result.now; lines = map line_of c.inst_slice-rest.result.now }) lt (entered c.args.program.now.module.now c.args.at c.in-Some.first c.func-func.result.now.function c.params-params.result.now c.inst_slice-rest.result.now c.func-func.ensures.at (first_there c.args.program.now.module.now c.args.at c.in-Some.first c.func-func.result.now.function c.func-func.ensures.at c.in-Some.ensures) c.params-params.ensures c.inst_slice-rest.ensures) }
