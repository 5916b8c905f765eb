use Rattle.std.proofs.Common.{◌≡◌, ◌≤◌, ◌*◌, take}
use Rattle.ir_core.specs.Size.{total}
use Rattle.clifinl.specs.GenCommand.{function_sites}
use Rattle.clifinl.proofs.summary.count_sites.Given as goal

abbrev pub invariant-loop-i : goal.invariant-loop-i
invariant-loop-i l = record {
  sum : l.sites ≡ total (function_sites l.«module») (take l.i l.«module»);
  bound : l.sites ≤ 262144 * l.i;
}
