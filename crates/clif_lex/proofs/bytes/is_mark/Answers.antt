use Rattle.std.proofs.Common.{◌∙◌, arith}
use Rattle.clif_lex.proofs.Classes.{mark_class}
use Rattle.clif_lex.proofs.bytes.is_mark.Goals as goal

pub returns : goal.returns
returns c = c.is_in.ensures ∙ mark_class c.args.c (omega arith)
