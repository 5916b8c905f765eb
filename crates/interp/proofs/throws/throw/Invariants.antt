use Rattle.std.proofs.Common.{◌≡◌, ◌≤◌, ◌+◌, ◌*◌, vec_len}
use Rattle.ir_semantics.specs.Step as step
use Rattle.interp.specs.State.{waits_of, world_of}
use Rattle.interp.proofs.throws.throw.Given as goal

abbrev pub invariant-waits : goal.invariant-waits
invariant-waits l = record { few : l.rank + vec_len l.below * 18446744073709551615 ≤ vec_len l.fn.below * 18446744073709551615; is : step.throw l.tag l.p0 l.p1 (waits_of l.program.module.now l.below.items) l.rank (world_of l.world) ≡ step.throw l.tag l.p0 l.p1 (waits_of l.program.module.now l.fn.below.items) 0 (world_of l.fn.world) }

abbrev pub decreases-waits : goal.decreases-waits
decreases-waits l = vec_len l.below
