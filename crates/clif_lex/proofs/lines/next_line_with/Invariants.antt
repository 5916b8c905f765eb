use Rattle.std.proofs.Common.{◌-◌, ◌≤◌, length}
use Rattle.clif_lex.proofs.LineStarts.{NoLine}
use Rattle.clif_lex.proofs.lines.next_line_with.Given as goal

abbrev pub invariant-words : goal.invariant-words
invariant-words l = record {
  behind : l.fn.from ≤ l.at;
  within : l.at ≤ length l.fn.text;
  none : NoLine l.fn.text l.fn.word l.fn.from l.at;
}

abbrev pub decreases-words : goal.decreases-words
decreases-words l = length l.fn.text - l.at
