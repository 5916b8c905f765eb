use Rattle.std.proofs.Common.{◌≡◌, map, drop}
use Rattle.clif_words.specs.Seen.{word_row}
use Rattle.clif_words.specs.Words.{look_up}
use Rattle.clif_words.proofs.items.look_up.Given as goal

abbrev pub invariant-loop-row : goal.invariant-loop-row
invariant-loop-row l = look_up (map word_row (drop l.row-index l.table)) l.word ≡ look_up (map word_row l.table) l.word
