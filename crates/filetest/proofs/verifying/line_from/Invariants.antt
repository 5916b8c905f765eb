use Rattle.std.proofs.Common.{◌≡◌}
use Rattle.clif_lex.specs.Places.{line_at}
use Rattle.filetest.proofs.verifying.line_from.Given as goal

abbrev pub invariant-loop-i : goal.invariant-loop-i
invariant-loop-i l = l.line ≡ line_at l.text l.i
