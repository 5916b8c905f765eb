use Rattle.std.proofs.Common.{◌≡◌, ◌≤◌, [], length, drop, map, slice_range}
use Rattle.test_directives.specs.Views.{line_test_of}
use Rattle.filetest.specs.LineTests.{failure}
use Rattle.filetest.specs.Views.{seen_lines, texts_of}
use Rattle.filetest.proofs.line_checks.lines_failure.Given as goal

abbrev pub invariant-loop-i : goal.invariant-loop-i
invariant-loop-i l = record {
  judged : l.judged ≤ l.i;
  short : length l.left ≤ length l.fn.lines;
  same : failure (texts_of (slice_range l.tests l.judged l.i)) (seen_lines l.left) (map line_test_of (drop l.i l.tests))
      ≡ failure [] (seen_lines l.fn.lines) (map line_test_of l.tests);
}
