use Rattle.ir_check.proofs.Targets.{block_stands, counts_equal, counts_differ}
use Rattle.ir_check.proofs.counts.counts_target.Goals as goal

pub params-requires : goal.params-requires
params-requires c = block_stands c.args.func.now.function c.requires.sound c.args.target.now.block c.requires.there

pub returns-then-args-params : goal.returns-then-args-params
returns-then-args-params c =
    counts_equal c.args.func.now.function c.requires.sound c.args.results c.args.target.now c.requires.there c.as_slice-args.result.now c.params.result.now c.as_slice-args.ensures c.params.ensures c.if-args-params.true c.counts_args.result c.counts_args.ensures

pub returns-else-args-params : goal.returns-else-args-params
returns-else-args-params c =
    counts_differ c.args.func.now.function c.requires.sound c.args.results c.args.target.now c.requires.there c.as_slice-args.result.now c.params.result.now c.as_slice-args.ensures c.params.ensures c.if-args-params.false
