use Rattle.std.proofs.Common.{◌≡◌, rules}
use Rattle.ir_core.specs.Lookup.{block_numbers}
use Rattle.ir_core.proofs.ByNumber.{first_in, rest_in}
use Rattle.core_tests.proofs.reading.all_told.Goals as goal

pub loop-block-init : goal.loop-block-init
loop-block-init c =
    let it : c.into_iter-block-iterator.result ≡ block_numbers c.args.func.now.function.blocks = search rules in
    λ n h. rw it at h

pub told-requires : goal.told-requires
told-requires c = first_in _ _ _ _ c.in-Some.ensures.steps c.loop-block.invariant

pub loop-block-preserved : goal.loop-block-preserved
loop-block-preserved c = rest_in _ _ _ _ c.in-Some.ensures.steps c.loop-block.invariant
