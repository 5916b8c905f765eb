use Rattle.std.proofs.Common.{[], ◌∙◌}
use Rattle.std.proofs.lemmas.Result.{IfOk-weaker}
use Rattle.text_output.proofs.Sinkless.{no_sink}
use Rattle.program_run.proofs.text.event_line.Goals as goal

pub returns : goal.returns
returns c =
    let put = c.put_event.ensures.puts no_sink [] (λ _. c.new-out.ensures) in
    IfOk-weaker c.finish.result _ _ (λ v h. h.1 ∙ put h.0) c.finish.ensures
