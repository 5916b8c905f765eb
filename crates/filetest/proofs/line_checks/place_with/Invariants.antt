use Rattle.filetest.specs.Taking.{NoneHas}
use Rattle.filetest.specs.Views.{seen_lines}
use Rattle.filetest.proofs.line_checks.place_with.Given as goal

abbrev pub invariant-loop-i : goal.invariant-loop-i
invariant-loop-i l = NoneHas l.text (seen_lines l.lines) l.i
