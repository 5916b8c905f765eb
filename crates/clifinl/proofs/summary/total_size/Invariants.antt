use Rattle.std.proofs.Common.{◌≡◌, ◌≤◌, ◌*◌, take}
use Rattle.ir_core.specs.Size.{size_of, total}
use Rattle.clifinl.proofs.summary.total_size.Given as goal

abbrev pub invariant-loop-i : goal.invariant-loop-i
invariant-loop-i l = record {
  sum : l.size ≡ total size_of (take l.i l.«module»);
  bound : l.size ≤ 262144 * l.i;
}
