use Rattle.std.proofs.Common.{◌≡◌, [], sym, subst, ◌∙◌, rules}
use Rattle.text_output.proofs.Sinkless.{no_sink}
use Rattle.canonical_text.specs.Printed.{ArePrinted}
use Rattle.canonical_text.proofs.stretches.print_all_meant.Goals as goal

pub returns-in-Ok : goal.returns-in-Ok
returns-in-Ok c =
    let put = c.in_ok-heads.ensures in
    let whole = put.puts.puts no_sink [] (λ _. c.new-out.ensures) in
    let trimmed : c.shrink_to_fit.new.self.items ≡ c.in-Ok.text.items = search rules in
    subst (ArePrinted c.args.raws.now c.in_ok-heads.heads.items) (sym (trimmed ∙ (c.in-Ok.ensures.1 ∙ whole c.in-Ok.ensures.0))) put.printed
