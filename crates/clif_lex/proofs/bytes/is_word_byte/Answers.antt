use Rattle.std.proofs.Common.{◌∙◌, arith}
use Rattle.clif_lex.proofs.Classes.{word_class}
use Rattle.clif_lex.proofs.bytes.is_word_byte.Goals as goal

pub returns : goal.returns
returns c = c.is_in.ensures ∙ word_class c.args.c (omega arith)
