use Rattle.std.proofs.Common.{◌≡◌, ℕ, ◌+◌, List, length, get_or, [], Some, refl, ap, ◌∙◌, arith}
use Rattle.std.specs.Prelude.{slice_get}
use Rattle.std.proofs.lemmas.Option.{slice_get-get_or, get_or_from_slice_get}
use Rattle.call_graph.specs.Numbers.{called}
use Rattle.publish_table.specs.declared.view.View.{View}
use Rattle.worker_driver.specs.declared.plan.Plan.{Plan}
use Rattle.worker_driver.proofs.Views.{only_read_both}
use Rattle.worker_driver.proofs.ReadBodies.{read_more}
use Rattle.worker_driver.proofs.taking.read_callees.Goals as goal

pub loop-callee-preserved : goal.loop-callee-preserved
loop-callee-preserved g c =
    let plan : Plan = c.args.plan.now in let calls : List ℕ = c.calls-calls.result.now in let n : ℕ = c.loop-callee.callee-index in
    let u : View = c.args.seat.now.place.me.0 in let v : View = c.loop-callee.seat.place.me.0 in let w : View = c.read_apart.new.seat.place.me.0 in
    let i = c.loop-callee.invariant in let e = c.if-not-read_apart.ensures in
    let are : called plan.graph c.args.func ≡ calls = get_or_from_slice_get plan.graph c.args.func calls [] c.calls-calls.ensures.calls in
    let k : ℕ = get_or calls n 0 in
    let at : slice_get calls n ≡ Some k = slice_get-get_or calls n 0 c.loop-callee-test.true in record {
      seat = (e.seat.0, e.seat.1 ∙ i.seat.1);
      view = only_read_both u v w i.view e.view;
      kind = let a = e.kind refl in (a.0 ∙ i.kind.0, a.1 ∙ i.kind.1);
      read = read_more plan c.args.func n (n + 1) k c.loop-callee.callees c.read_apart.new.callees v w i.read
          (ap (λ (l : List ℕ). slice_get l n) are ∙ at) refl e.view.5 (e.read refl);
    }

pub returns-clause-read : goal.returns-clause-read
returns-clause-read g c =
    let plan : Plan = c.args.plan.now in let calls : List ℕ = c.calls-calls.result.now in
    let are : called plan.graph c.args.func ≡ calls = get_or_from_slice_get plan.graph c.args.func calls [] c.calls-calls.ensures.calls in
    let long = ap length are in
    λ i k l. c.loop-callee.invariant.read i k (omega (arith, l, long, c.loop-callee-test.false))
