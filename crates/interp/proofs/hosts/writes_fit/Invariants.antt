use Rattle.std.proofs.Common.{◌≡◌, drop}
use Rattle.ir_semantics.specs.Step as step
use Rattle.interp.proofs.hosts.writes_fit.Given as goal

abbrev pub invariant-writes : goal.invariant-writes
invariant-writes l = step.writes_fit (drop l.write-index l.writes) l.len ≡ step.writes_fit l.writes l.len
