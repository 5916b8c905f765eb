use Rattle.std.proofs.Common.{◌≡◌, ◌∙◌, ap, length, arith, rules}
use Rattle.ir_core.specs.Lookup.{block_numbers}
use Rattle.ir_core.proofs.Counting.{defined_bound}
use Rattle.ir_core.proofs.ByNumber.{first_in, rest_in}
use Rattle.clif_numbers.proofs.Blocks.{begun, listed, next_fits}
use Rattle.clif_numbers.proofs.numbers.definitions.Goals as goal

pub loop-block-init : goal.loop-block-init
loop-block-init c =
    let it : c.into_iter-block-iterator.result ≡ block_numbers c.args.func.now.function.blocks = search rules in
    record {
      left = begun c.args.func.now.function.blocks c.reserve.new.self.items c.into_iter-block-iterator.result (c.reserve.ensures.items ∙ c.requires) it c.blocks-block-items.ensures.sound.blocks_differ;
      there = λ n h. rw it at h;
      room = omega (arith, defined_bound c.args.func.now.function c.values.ensures.sound, c.values.ensures.count, c.in_ok-reserve.ensures.ok);
      kept = c.reserve.ensures.capacity;
    }

pub params-requires : goal.params-requires
params-requires c = first_in _ _ _ _ c.in-Some.ensures.steps c.loop-block.invariant.there

pub append_values-requires : goal.append_values-requires
append_values-requires c =
    omega (arith, next_fits c.args.func.now.function.blocks c.loop-block.order.items c.loop-block.block-iterator c.next.new.self c.in-Some.block c.in-Some.ensures.steps c.loop-block.invariant.left, ap length c.params.ensures, c.loop-block.invariant.room, c.loop-block.order.ok.0)

pub inst_slice-requires : goal.inst_slice-requires
inst_slice-requires c = first_in _ _ _ _ c.in-Some.ensures.steps c.loop-block.invariant.there

pub loop-block-preserved : goal.loop-block-preserved
loop-block-preserved c =
    record {
      left = listed c.args.func.now.function.blocks c.loop-block.order.items c.append_results.new.order.items c.loop-block.block-iterator c.next.new.self c.in-Some.block c.in-Some.ensures.steps (rw (c.append_results.ensures.items, c.append_values.ensures.items, c.params.ensures, c.inst_slice.ensures)) c.loop-block.invariant.left;
      there = rest_in _ _ _ _ c.in-Some.ensures.steps c.loop-block.invariant.there;
      room = omega (arith, c.loop-block.invariant.room, c.append_values.ensures.capacity, c.append_results.ensures.capacity);
      kept = omega (arith, c.loop-block.invariant.kept, c.append_values.ensures.capacity, c.append_results.ensures.capacity);
    }
