use Rattle.std.proofs.Common.{ap}
use Rattle.clap.specs.Words.{App}
use Rattle.std.proofs.lemmas.Result.{IfOk-weaker}
use Rattle.settings.proofs.Builders.{adds_option}
use Rattle.settings.proofs.command_table.inline_command.Goals as goal

pub returns : goal.returns
returns c = IfOk-weaker c.arg-3.result _ _ (λ r added.
    let made = adds_option added (adds_option c.in_ok-arg-2.ensures (adds_option c.in_ok-arg.ensures (record { app = c.new_command.ensures.0; plain = c.new_command.ensures.1 })
    c.callee_size_option.ensures) c.caller_size_option.ensures) c.workers_option.ensures in
    (ap (λ (a : App). a.top) made.app, made.plain)) c.arg-3.ensures
