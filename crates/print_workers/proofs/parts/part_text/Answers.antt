use Rattle.std.proofs.Common.{◌≡◌, [], ◌∙◌}
use Rattle.std.proofs.lemmas.Result.{IfOk-weaker}
use Rattle.text_output.proofs.Sinkless.{no_sink}
use Rattle.print_workers.proofs.parts.part_text.Goals as goal

pub returns : goal.returns
returns g c =
    let part = c.put_part.ensures in
    let put = part.puts.puts no_sink [] (λ _. c.new-out.ensures) in
    IfOk-weaker c.finish.result _ _ (λ v h. let same : v.items ≡ part.part = h.1 ∙ put h.0 in rw same part.is) c.finish.ensures
