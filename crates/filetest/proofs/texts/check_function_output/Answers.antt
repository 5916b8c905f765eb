use Rattle.std.proofs.Common.{◌≡◌, ◌∙◌, [], ◌∷◌, ap, subst}
use Rattle.std.proofs.lemmas.Option.{IfSome_then}
use Rattle.ir_text.specs.Text.{function_text_of}
use Rattle.test_directives.specs.Views.{command_of}
use Rattle.filetest.specs.LineTests.{difference}
use Rattle.filetest.specs.Checks.{output_lines}
use Rattle.filetest.specs.Telling.{Tells}
use Rattle.filetest.specs.Views.{failure_of}
use Rattle.filetest.proofs.texts.check_function_output.Goals as goal

pub returns : goal.returns
returns c =
    let t = c.args.tests.now in
    IfSome_then _ c.in_ok-failure.ensures (λ f h.
    let e : failure_of c.in_ok-failure.failure ≡ difference t.expected.items (output_lines c.args.sites t.name (function_text_of f)) =
    h ∙ (ap (λ z. difference z (output_lines c.args.sites c.as_slice-name.result.now (function_text_of f))) c.as_slice.ensures.value
    ∙ ap (λ z. difference t.expected.items (output_lines c.args.sites z (function_text_of f))) c.as_slice-name.ensures) in
    subst (λ x. Tells c.args.out.now c.check.new.self (command_of c.args.command.now) (record { name = t.name; line = t.line; failure = x } ∷ [])) e
    (subst (λ n. Tells c.args.out.now c.check.new.self (command_of c.args.command.now) (record { name = n; line = t.line; failure = failure_of c.in_ok-failure.failure } ∷ [])) c.as_slice-name.ensures c.in_ok-check.ensures))
