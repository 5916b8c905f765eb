use Rattle.std.proofs.Common.{◌≡◌, [], ◌∙◌}
use Rattle.std.proofs.lemmas.List.{append-nil}
use Rattle.ir_text.specs.TextTree.{spelled}
use Rattle.ir_text.specs.Text.{more_functions}
use Rattle.text_output.proofs.Sinkless.{no_sink}
use Rattle.canonical_text.proofs.PrintedLaws.{but_first}
use Rattle.canonical_text.proofs.making.print_module.Goals as goal

pub returns : goal.returns
returns c =
    let put = c.in_ok-put_module.ensures.puts no_sink [] (λ _. c.new-out.ensures) in
    let text : c.in_ok-text.text.items ≡ spelled (more_functions c.args.module.now) = c.in_ok-text.ensures.1 ∙ put c.in_ok-text.ensures.0 in
    rw (c.of_texts.ensures, c.in_ok-push.ensures.items, c.new-texts.ensures.items, append-nil c.in_ok-text.text.items, text) (but_first c.args.module.now)
