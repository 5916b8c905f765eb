use Rattle.std.proofs.Common.{ap}
use Rattle.clap.specs.Words.{App}
use Rattle.std.proofs.lemmas.Result.{IfOk-weaker}
use Rattle.settings.proofs.Builders.{Makes, adds_option}
use Rattle.settings.proofs.command_table.run_command.Goals as goal

pub returns : goal.returns
returns c = IfOk-weaker c.arg-5.result _ _ (λ r added.
    let made = adds_option added (adds_option c.in_ok-arg-4.ensures (adds_option c.in_ok-arg-3.ensures (adds_option c.in_ok-arg-2.ensures
    (adds_option c.in_ok-arg.ensures (record { app = c.new_command.ensures.0; plain = c.new_command.ensures.1 }) c.required_option.ensures)
    c.text_option.ensures) c.text_option-2.ensures) c.number_option.ensures) c.number_option-2.ensures in
    (ap (λ (a : App). a.top) made.app, made.plain)) c.arg-5.ensures
