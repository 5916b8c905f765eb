use Rattle.std.proofs.Common.{◌≡◌, ◌≤◌, ◌-◌, length, replicate, false, arith, rules}
use Rattle.call_graph.proofs.Filling.{fresh_as}
use Rattle.call_graph.proofs.Taking.{fill_on}
use Rattle.call_graph.proofs.turns.filled.Goals as goal

pub functions-preserved : goal.functions-preserved
functions-preserved c =
    let i = c.functions.invariant in
    record {
      within = omega (arith, i.within);
      filled =
          fill_on c.args.graph.now c.args.piece.now c.requires c.functions.rest c.functions.members.items c.functions.callees.items c.functions.woken c.wake_least.new.woken i.filled
          c.functions-test.true i.within c.push.new.self c.index_mut.result.now c.index_mut.ensures.value c.in_ok-push.ensures c.add_callees.new.callees c.index_mut-in-functions.result.now
          c.calls.result.now c.index_mut-in-functions.ensures.value c.calls.ensures.calls c.in_ok-add_callees.ensures c.in_ok-wake_least.ensures;
    }

pub returns : goal.returns
returns c =
    let i = c.functions.invariant in
    let placed : c.in_ok-vec.field-0.items ≡ replicate (length c.args.piece.now) false = search rules in
    fresh_as c.args.graph.now c.args.piece.now c.functions.members.items c.functions.callees.items c.functions.woken c.functions.rest i.filled c.functions-test.false c.in_ok-stacks.field-0.items
    c.in_ok-vec.field-0.items c.new.result c.in_ok-list.list.items c.in_ok-stacks.ensures placed c.new.ensures c.in_ok-list.ensures.items
