use Rattle.std.proofs.Common.{◌≡◌, map, ap, ap₂, ◌∙◌, rules}
use Rattle.ir_core.specs.declared.declarations.Callee.{Callee}
use Rattle.ir_core.specs.Lookup.{block_numbers}
use Rattle.ir_core.proofs.ByNumber.{first_in, rest_in}
use Rattle.call_graph.specs.Calls.{number_of, each_once}
use Rattle.call_graph.specs.Marks.{targets_in}
use Rattle.call_graph.proofs.Marking.{begun, none_marked, targets_in_range, block_more}
use Rattle.call_graph.proofs.making.find_calls.Goals as goal

pub loop-block-init : goal.loop-block-init
loop-block-init c =
    let it : c.into_iter-block-iterator.result ≡ block_numbers c.args.func.now.function.blocks = search rules in
    record {
      left = begun c.args.module.now c.args.func.now.function c.in_ok-calls.calls.items c.into_iter-block-iterator.result c.in_ok-calls.ensures.items it c.blocks-block-items.ensures.sound.blocks_differ;
      there = λ n h. rw it at h;
      marked = none_marked c.args.stamp c.args.seen.now.items c.in_ok-calls.calls.items c.in_ok-calls.ensures.items c.requires.fresh;
      long = c.requires.long;
    }

pub inst_slice-requires : goal.inst_slice-requires
inst_slice-requires c = first_in _ _ _ _ c.in-Some.ensures.steps c.loop-block.invariant.there

pub add_calls-requires-clause-below : goal.add_calls-requires-clause-below
add_calls-requires-clause-below c =
    targets_in_range c.args.module.now c.args.func.now.function.callees c.as_slice.result.now _ (c.as_slice.ensures ∙ (c.in_ok-numbers.ensures ∙ ap (map (λ (d : Callee). number_of c.args.module.now d.name)) c.callees.ensures)) c.loop-block.invariant.long

pub loop-block-preserved : goal.loop-block-preserved
loop-block-preserved c =
    record {
      left =
          block_more c.args.module.now c.args.func.now.function c.loop-block.calls.items c.add_calls.new.calls.items c.loop-block.block-iterator c.next.new.self c.in-Some.block c.in-Some.ensures.steps
          (c.in_ok-add_calls.ensures.calls
          ∙ ap₂ (λ ns ls. each_once c.loop-block.calls.items (targets_in ns ls)) (c.as_slice.ensures ∙ (c.in_ok-numbers.ensures ∙ ap (map (λ (d : Callee). number_of c.args.module.now d.name)) c.callees.ensures)) c.inst_slice.ensures)
          c.loop-block.invariant.left;
      there = rest_in _ _ _ _ c.in-Some.ensures.steps c.loop-block.invariant.there;
      marked = c.in_ok-add_calls.ensures.marked;
      long = c.in_ok-add_calls.ensures.long ∙ c.loop-block.invariant.long;
    }
