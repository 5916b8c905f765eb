use Rattle.std.proofs.Common.{◌≡◌, ◌+◌, ◌-◌, ◌≤◌, length, drop}
use Rattle.std.specs.List.{prefix_len}
use Rattle.clif_lex.specs.Bytes.{is_word_byte}
use Rattle.clif_lex.proofs.lexing.word_end.Given as goal

abbrev pub invariant-bytes : goal.invariant-bytes
invariant-bytes l = (l.end ≤ length l.text) × (l.end + prefix_len is_word_byte (drop l.end l.text) ≡ l.at + prefix_len is_word_byte (drop l.at l.text))

abbrev pub decreases-bytes : goal.decreases-bytes
decreases-bytes l = length l.text - l.end
