use Rattle.std.proofs.Common.{[], ◌∙◌, arith}
use Rattle.text_output.proofs.Sinkless.{no_sink}
use Rattle.clif_print.proofs.text.text_len.Goals as goal

pub returns : goal.returns
returns c = let put = c.put_module.ensures.puts no_sink [] (omega (arith, c.new-out.ensures)) in c.len.ensures ∙ put
