use Rattle.std.proofs.Common.{ap, ◌∙◌}
use Rattle.clif_words.specs.Opcodes.{with_immediate}
use Rattle.clif_words.proofs.OpcodesOf.{row_of_immediate}
use Rattle.clif_words.proofs.opcodes.Opcode.of_immediate.Goals as goal

pub returns : goal.returns
returns c = c.row.ensures.immediate ∙ ap with_immediate c.of.ensures ∙ row_of_immediate c.args.op
