use Rattle.std.proofs.Common.{rules, ◌<◌, refl, arith}
use Rattle.publish_table.specs.declared.view.View.{View}
use Rattle.worker_driver.proofs.Views.{cost_of_more, count_bound, none_left, rose_more, rose_refused, rose_same}
use Rattle.worker_driver.proofs.workers.work.Goals as goal

pub overflow_add-count-in-Filled : goal.overflow_add-count-in-Filled
overflow_add-count-in-Filled g c = let t = c.in-Filled.ensures.tells in
    let v : View = c.loop.seat.place.me.0 in let w : View = c.turn.new.seat.place.me.0 in
    let fits : c.in-Filled.inlined < 18446744073709551616 = search rules in
    let b = count_bound c.args.«module».now c.args.board.now.count v w c.turn.new.ahead.items c.loop.count c.in-Filled.inlined c.in-Filled.field-0 c.in-Filled.ensures.done.0 (c.in-Filled.ensures.once c.loop.invariant.once) t.0 c.loop.invariant.bound fits in
    let more = b.0 in let few = b.1 in let n = c.requires.board.0.2 in let sized = c.args.board.now.sized.2 in omega arith

pub loop-preserved-in-Filled : goal.loop-preserved-in-Filled
loop-preserved-in-Filled g c = let t = c.in-Filled.ensures.tells in
    let v : View = c.loop.seat.place.me.0 in let w : View = c.turn.new.seat.place.me.0 in
    let once = c.in-Filled.ensures.once c.loop.invariant.once in
    let fits : c.in-Filled.inlined < 18446744073709551616 = search rules in record {
      seat = search rules;
      done = c.in-Filled.ensures.done.0;
      noted = c.in-Filled.ensures.done.1;
      once = once;
      count = cost_of_more c.args.policy c.args.«module».now c.loop.count _ _ c.in-Filled.field-0 c.in-Filled.inlined v.bodies w.bodies c.loop.invariant.count t.0 t.2 refl;
      steps = rose_more v w c.loop.count _ _ _ c.in-Filled.inlined _ c.loop.invariant.steps t.1 refl t.3;
      bound = (count_bound c.args.«module».now c.args.board.now.count v w c.turn.new.ahead.items c.loop.count c.in-Filled.inlined c.in-Filled.field-0 c.in-Filled.ensures.done.0 once t.0 c.loop.invariant.bound fits).0;
    }

pub loop-init : goal.loop-init
loop-init g c = record {
  seat = search rules;
  done = none_left c.args.board.now.count c.args.seat.now.place.me.0 c.none_ahead-ahead.result.items c.none_ahead-ahead.ensures c.requires.done.0;
  noted = c.requires.done.1;
  once = c.requires.once;
  count = omega arith;
  steps = (omega arith, λ none. omega arith);
  bound = omega arith;
}

pub loop-preserved : goal.loop-preserved
loop-preserved g c = let t = c.in-Refused.ensures.tells in
    let v : View = c.loop.seat.place.me.0 in let w : View = c.turn.new.seat.place.me.0 in record {
      seat = search rules;
      done = c.in-Refused.ensures.done.0;
      noted = c.in-Refused.ensures.done.1;
      once = c.in-Refused.ensures.once c.loop.invariant.once;
      count = search rules;
      steps = rose_refused v w c.in-Refused.field-0 c.loop.count _ _ _ c.loop.invariant.steps t.1 t.2;
      bound = search rules;
    }

pub returns-in-Ended-clause-steps : goal.returns-in-Ended-clause-steps
returns-in-Ended-clause-steps g c = let t = c.in-Ended.ensures.tells in
    rose_same c.loop.seat.place.me.0 c.turn.new.seat.place.me.0 c.loop.count _ _ _ c.loop.invariant.steps t.2 t.3
