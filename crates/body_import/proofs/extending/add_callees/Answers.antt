use Rattle.std.proofs.Common.{ℕ, List, sym, subst, append-nil, arith, ap, ◌∙◌}
use Rattle.body_import.specs.Keys.{Knows}
use Rattle.body_import.specs.CalleeKeys.{callee_key, own_key}
use Rattle.body_import.proofs.Extended.{more_known}
use Rattle.body_import.proofs.extending.add_callees.Goals as goal

pub loop-callee-init : goal.loop-callee-init
loop-callee-init c = (λ keys knows count. subst (λ (z : List (List ℕ)). Knows 0 z c.args.places.now) (sym (append-nil keys)) knows, omega arith)

pub loop-callee-preserved : goal.loop-callee-preserved
loop-callee-preserved c = (
  λ keys knows count.
      more_known own_key keys c.args.callees.now c.loop-callee.callee-index c.callee-item.result c.in_ok-key.key.items c.args.count c.loop-callee.place c.loop-callee.places c.put.new.self c.loop-callee-test.true c.callee-item.is (c.in_ok-key.ensures ∙ ap (λ (n : ℕ). callee_key n c.callee-item.result) c.number.ensures) count c.loop-callee.invariant.1 c.in_ok-put.ensures (c.loop-callee.invariant.0 keys knows count),
  let q = c.loop-callee.invariant.1 in omega (arith, q),
)
