use Rattle.std.proofs.Common.{◌+◌, ◌-◌, ◌≤◌, length, arith}
use Rattle.print_workers.proofs.PartsLemmas.{no_cuts, one_more}
use Rattle.print_workers.proofs.cuts.even_cuts.Goals as goal

pub loop-i-init : goal.loop-i-init
loop-i-init g c = record { are = rw (c.in_ok-push.ensures.items, c.new-cuts.ensures.items) no_cuts; within = omega arith }

pub loop-i-preserved : goal.loop-i-preserved
loop-i-preserved g c = record {
  are = rw c.in_ok-push-2.ensures.items (one_more c.loop-i.reached.func (c.loop-i.i - 1) c.go_on-reached.result.func (c.loop-i.i + 1 - 1) c.loop-i.cuts.items (omega (arith, c.loop-i.auto.i)) c.loop-i.invariant.are c.go_on-reached.ensures.later);
  within = c.go_on-reached.ensures.within;
}

pub returns : goal.returns
returns g c =
    let end : c.loop-i.i ≤ c.args.parts = c.loop-i.auto.i-end (omega (arith, c.requires)) in
    rw (c.in_ok-push-3.ensures.items, c.len.ensures)
    (one_more c.loop-i.reached.func (c.loop-i.i - 1) (length (g.F.Functions.functions c.args.functions.now)) c.args.parts c.loop-i.cuts.items (omega (arith, end, c.loop-i-test.false, c.loop-i.auto.i)) c.loop-i.invariant.are (omega (arith, c.loop-i.invariant.within)))
