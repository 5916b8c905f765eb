use Rattle.std.proofs.Common.{◌≡◌, drop, true, length}
use Rattle.ir_semantics.specs.Step as step
use Rattle.interp.proofs.hosts.apply_writes.Given as goal

abbrev pub invariant-writes : goal.invariant-writes
invariant-writes l = record { inside : step.writes_fit (drop l.write-index l.writes) (length l.memory) ≡ true; is : step.written (drop l.write-index l.writes) l.memory ≡ step.written l.writes l.fn.memory }
