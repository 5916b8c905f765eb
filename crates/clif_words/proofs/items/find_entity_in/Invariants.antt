use Rattle.std.proofs.Common.{◌≡◌, map, drop}
use Rattle.clif_words.specs.Seen.{stem_row}
use Rattle.clif_words.specs.Words.{look_up}
use Rattle.clif_words.proofs.items.find_entity_in.Given as goal

abbrev pub invariant-loop-row : goal.invariant-loop-row
invariant-loop-row l = look_up (map stem_row (drop l.row-index l.table)) l.stem ≡ look_up (map stem_row l.table) l.stem
