use Rattle.std.proofs.Common.{ℕ, ◌<◌, ◌≤◌}
use Rattle.ir_core.specs.Lists.{In}
use Rattle.used_values.proofs.nearby.count_on.Given as goal

abbrev pub invariant-loop-value : goal.invariant-loop-value
invariant-loop-value l = (v : ℕ) → l.next ≤ v → v < l.end → In v l.values
