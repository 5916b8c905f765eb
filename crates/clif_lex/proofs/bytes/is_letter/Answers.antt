use Rattle.std.proofs.Common.{◌∙◌, arith}
use Rattle.clif_lex.proofs.Classes.{letter_class}
use Rattle.clif_lex.proofs.bytes.is_letter.Goals as goal

pub returns : goal.returns
returns c = c.is_in.ensures ∙ letter_class c.args.c (omega arith)
