use Rattle.std.proofs.Common.{◌∙◌, arith}
use Rattle.clif_lex.proofs.Classes.{blank_class}
use Rattle.clif_lex.proofs.bytes.is_blank.Goals as goal

pub returns : goal.returns
returns c = c.is_in.ensures ∙ blank_class c.args.c (omega arith)
