use Rattle.std.proofs.Common.{ap}
use Rattle.clap.specs.Words.{App}
use Rattle.std.proofs.lemmas.Result.{IfOk-weaker}
use Rattle.settings.proofs.Builders.{Makes, adds_option}
use Rattle.settings.proofs.command_table.gen_command.Goals as goal

pub returns : goal.returns
returns c = IfOk-weaker c.arg-6.result _ _ (λ r added.
    let made = adds_option added (adds_option c.in_ok-arg-5.ensures (adds_option c.in_ok-arg-4.ensures (adds_option c.in_ok-arg-3.ensures
    (adds_option c.in_ok-arg-2.ensures (adds_option c.in_ok-arg.ensures (record { app = c.new_command.ensures.0; plain = c.new_command.ensures.1 })
    c.number_option.ensures) c.required_number_option.ensures) c.flag_option.ensures) c.callee_size_option.ensures) c.caller_size_option.ensures) c.workers_option.ensures in
    (ap (λ (a : App). a.top) made.app, made.plain)) c.arg-6.ensures
