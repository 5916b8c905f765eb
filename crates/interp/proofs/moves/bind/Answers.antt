use Rattle.std.proofs.Common.{sym, ◌∙◌, ap, drop, ◌+◌}
use Rattle.clk_num.specs.Views.{data_of_all}
use Rattle.ir_semantics.specs.Values.{bind}
use Rattle.interp.specs.State.{env_of}
use Rattle.interp.proofs.Reading.{bind_apart, bind_next}
use Rattle.interp.proofs.moves.bind.Goals as goal

pub returns-then-names-xs : goal.returns-then-names-xs
returns-then-names-xs c = sym (bind_apart c.args.names.now c.args.xs.now (env_of c.args.values.now) c.if-names-xs.true)

pub names-preserved : goal.names-preserved
names-preserved c =
    ap (λ e. bind (drop (c.names.i + 1) c.args.names.now) (data_of_all (drop (c.names.i + 1) c.args.xs.now)) e) c.in_ok-put.ensures
    ∙ (bind_next c.args.names.now c.args.xs.now c.names.i c.number.result c.index-names-i.result c.index-xs-i.result c.index-xs-i.result (env_of c.names.values) c.names-test.true c.if-names-xs.false (c.number.ensures ∙ c.index-names-i.is) c.index-xs-i.is ∙ c.names.invariant)
