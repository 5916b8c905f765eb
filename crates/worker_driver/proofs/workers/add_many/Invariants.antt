use Rattle.std.proofs.Common.{◌≡◌, ◌+◌}
use Rattle.worker_driver.proofs.workers.add_many.Given as goal

abbrev pub invariant-loop-left : goal.invariant-loop-left
invariant-loop-left g l = l.steps + l.left ≡ l.initial.steps + l.fn.amount

abbrev pub decreases-loop-left : goal.decreases-loop-left
decreases-loop-left g l = l.left
