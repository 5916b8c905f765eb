use Rattle.std.proofs.Common.{◌≡◌, ◌∙◌, ap, rules, length, get_or, pos, to_z, of_z}
use Rattle.std.specs.Int.{w128}
use Rattle.clk_num.specs.Views.{data_of_all}
use Rattle.ir_core.specs.declared.signatures.Param.{Param}
use Rattle.ir_core.specs.declared.signatures.Ty.TheVariants.{I8}
use Rattle.ir_core.specs.declared.signatures.Ext.TheVariants.{No}
use Rattle.ir_core.specs.declared.signatures.Purpose.TheVariants.{Normal}
use Rattle.ir_semantics.specs.Values.{value_for}
use Rattle.interp.proofs.Hosting.{values_apart, values_stop, values_end}
use Rattle.interp.proofs.hosts.fit_values.Goals as goal

pub returns-then-params-numbers : goal.returns-then-params-numbers
returns-then-params-numbers c = values_apart c.args.params.now c.args.numbers.now c.if-params-numbers.true

pub returns-in-None : goal.returns-in-None
returns-in-None c =
    let none : Param = record { ty = I8; ext = No; purpose = Normal } in
    let z : to_z w128 (of_z w128 (get_or c.args.numbers.now c.params.i (pos 0))) ≡ get_or c.args.numbers.now c.params.i (pos 0) = search rules in
    values_stop c.args.params.now c.args.numbers.now c.params.i none (pos 0) (data_of_all c.params.out.items) c.params-test.true c.if-params-numbers.false (c.in-None.ensures ∙ ap (value_for (get_or c.args.params.now c.params.i none).ty) z) ∙ c.params.invariant

pub returns : goal.returns
returns c =
    let e : c.params.i ≡ length c.args.params.now = search rules in
    values_end c.args.params.now c.args.numbers.now c.params.i (data_of_all c.params.out.items) e c.if-params-numbers.false ∙ c.params.invariant
