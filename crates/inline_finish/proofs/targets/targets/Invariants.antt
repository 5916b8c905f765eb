use Rattle.std.proofs.Common.{◌≡◌, map, take}
use Rattle.inline_finish.specs.Targets.{target_of}
use Rattle.inline_finish.proofs.targets.targets.Given as goal

abbrev pub invariant-loop-callee : goal.invariant-loop-callee
invariant-loop-callee l = l.targets.items ≡ map (λ c. target_of l.module l.own.function.name c.name) (take l.callee-index l.callee-items)
