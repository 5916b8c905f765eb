use Rattle.std.proofs.Common.{◌∙◌}
use Rattle.ir_core.specs.Lookup.{param_types}
use Rattle.ir_check.proofs.Targets.{block_stands, block_params_below, target_typed}
use Rattle.ir_check.proofs.types.has_target_types.Goals as goal

pub params-requires : goal.params-requires
params-requires c = block_stands c.args.func.now.function c.requires.sound c.args.target.now.block c.requires.there

pub have_arg_types-requires-clause-params : goal.have_arg_types-requires-clause-params
have_arg_types-requires-clause-params c = block_params_below c.args.func.now.function c.requires.sound c.args.target.now.block c.requires.there c.params.result.now c.params.ensures

pub returns : goal.returns
returns c =
    c.have_arg_types.ensures
    ∙ target_typed c.args.func.now.function c.requires.sound (param_types c.args.results.now) c.args.payloads.now c.args.target.now c.requires.there c.as_slice.result.now c.params.result.now c.as_slice.ensures c.params.ensures
