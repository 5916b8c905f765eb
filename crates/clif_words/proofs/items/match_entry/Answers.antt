use Rattle.std.proofs.Common.{◌∙◌}
use Rattle.clif_words.specs.Seen.{word_row}
use Rattle.clif_words.proofs.Places.{look_up-row}
use Rattle.clif_words.proofs.items.match_entry.Goals as goal

pub returns : goal.returns
returns c = c.match_row.ensures ∙ look_up-row word_row c.args.entries.now c.args.place _ c.args.word.now c.requires
