use Rattle.std.proofs.Common.{◌≡◌, ◌≤◌, take}
use Rattle.std.specs.Prelude.{count_by}
use Rattle.ir_core.specs.Viewed.{line_of}
use Rattle.clifinl.specs.GenCommand.{calls_within}
use Rattle.clifinl.proofs.summary.count_line_sites.Given as goal

abbrev pub invariant-loop-line : goal.invariant-loop-line
invariant-loop-line l = record {
  count : l.sites ≡ count_by (λ x. calls_within l.«module» l.func.function (line_of x)) (take l.line-index l.lines);
  few : l.sites ≤ l.line-index;
}
