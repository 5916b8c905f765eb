use Rattle.std.proofs.Common.{length}
use Rattle.print_workers.specs.Parts.{AreCuts}
use Rattle.print_workers.proofs.PartsLemmas.{whole_text}
use Rattle.std.proofs.lemmas.Result.{IfOk-weaker}
use Rattle.print_workers.proofs.parts.part_texts.Goals as goal

pub returns : goal.returns
returns g c =
    let are : AreCuts (length (g.F.Functions.functions c.args.functions.now)) c.min-parts.result c.as_slice.result.now = rw c.as_slice.ensures.value c.in_ok-cuts.ensures in
    IfOk-weaker c.all_texts.result _ _
    (λ texts is. whole_text (λ text. text.items) (g.F.Functions.functions c.args.functions.now) c.min-parts.result c.as_slice.result.now c.in_ok-answers.answers.items texts.items are is c.in_ok-answers.ensures.number c.in_ok-answers.ensures.each) c.all_texts.ensures
