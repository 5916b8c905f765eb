use Rattle.std.proofs.Common.{arith, sym, ◌∙◌}
use Rattle.used_values.proofs.Passing.{count_more}
use Rattle.used_values.proofs.nearby.count_on.Goals as goal
use Rattle.used_values.proofs.nearby.count_on.Goals.{then-number-end, else-number-end}

pub loop-value-preserved : goal.loop-value-preserved
loop-value-preserved c =
    elim c.if-number-end.branch [
      | then-number-end w ↦
          (λ v from to. count_more c.args.values.now c.args.next c.loop-value.end c.loop-value.value-index c.value-item.result c.loop-value-test.true c.value-item.is (sym c.number.ensures ∙ w.if-number-end.true) c.loop-value.invariant v from (let e = w.end-is in omega arith))
      | else-number-end w ↦ (λ v from to. c.loop-value.invariant v from (let e = w.end-is in omega arith))
    ]
