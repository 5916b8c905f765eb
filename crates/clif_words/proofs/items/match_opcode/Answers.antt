use Rattle.std.proofs.Common.{◌∙◌}
use Rattle.clif_words.specs.Seen.{opcode_row}
use Rattle.clif_words.proofs.Places.{look_up-row}
use Rattle.clif_words.proofs.items.match_opcode.Goals as goal

pub returns : goal.returns
returns c = c.match_opcode_row.ensures ∙ look_up-row opcode_row c.args.opcodes.now c.args.place _ c.args.word.now c.requires
