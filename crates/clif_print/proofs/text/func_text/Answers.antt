use Rattle.std.proofs.Common.{[], ◌∙◌}
use Rattle.std.proofs.lemmas.Result.{IfOk-weaker}
use Rattle.text_output.proofs.Sinkless.{no_sink}
use Rattle.clif_print.proofs.text.func_text.Goals as goal

pub returns : goal.returns
returns c =
    let put = c.put_function.ensures.puts no_sink [] (λ _. c.new-out.ensures) in
    IfOk-weaker c.finish.result _ _ (λ v h. rw c.func.ensures.at (h.1 ∙ put h.0)) c.finish.ensures
