use Rattle.std.proofs.Common.{◌≡◌, drop}
use Rattle.filetest.specs.LineTests.{found_any}
use Rattle.filetest.specs.Views.{seen_lines, texts_of}
use Rattle.filetest.proofs.line_checks.found_any.Given as goal

abbrev pub invariant-loop-i : goal.invariant-loop-i
invariant-loop-i l = found_any (drop l.i (texts_of l.nots)) (seen_lines l.range) ≡ found_any (texts_of l.nots) (seen_lines l.range)
