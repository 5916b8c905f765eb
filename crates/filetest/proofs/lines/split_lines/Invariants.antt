use Rattle.std.proofs.Common.{◌≡◌, ◌≤◌, ◌++◌, drop, slice_range}
use Rattle.filetest.specs.LineTests.{lines_after}
use Rattle.filetest.specs.LineTests as defined
use Rattle.filetest.specs.Views.{seen_lines}
use Rattle.filetest.proofs.lines.split_lines.Given as goal

abbrev pub invariant-loop-i : goal.invariant-loop-i
invariant-loop-i l = record {
  start : l.start ≤ l.i;
  lines : seen_lines l.lines.items ++ lines_after (slice_range l.text l.start l.i) (drop l.i l.text) ≡ defined.split_lines l.text;
}
