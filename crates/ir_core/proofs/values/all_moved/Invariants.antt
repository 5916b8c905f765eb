use Rattle.std.proofs.Common.{◌≡◌, ◌+◌, ◌<◌, ◌^◌, ◌++◌, drop, map}
use Rattle.ir_core.specs.Lists.{Each}
use Rattle.ir_core.proofs.values.all_moved.Given as goal

abbrev pub invariant-loop-value : goal.invariant-loop-value
invariant-loop-value l = (l.list.items ++ map (λ v. l.by + v) (drop l.value-index l.values) ≡ map (λ v. l.by + v) l.values) × Each (λ v. l.by + v < 2 ^ 32) (drop l.value-index l.values)
