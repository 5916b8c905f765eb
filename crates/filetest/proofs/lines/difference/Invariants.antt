use Rattle.std.proofs.Common.{◌≡◌, drop}
use Rattle.filetest.specs.Views.{seen_lines}
use Rattle.filetest.specs.LineTests.{difference}
use Rattle.filetest.proofs.lines.difference.Given as goal

abbrev pub invariant-loop-i : goal.invariant-loop-i
invariant-loop-i l = difference (drop l.i l.expected) (drop l.i (seen_lines l.got)) ≡ difference l.expected (seen_lines l.got)
