use Rattle.std.proofs.Common.{◌∙◌, ap, codes}
use Rattle.std.proofs.lemmas.Result.{IfOk-weaker}
use Rattle.clap.specs.Words.{new_app}
use Rattle.clap.specs.Simple.{app_of_fields}
use Rattle.clap.specs.declared.builder.command.Command.{Command}
use Rattle.clap.specs.declared.builder.command.Command.TheOpen.{Command-F}
use Rattle.settings.proofs.Builders.{Makes, adds_command, wants_subcommand}
use Rattle.settings.proofs.command_table.command_table.Goals as goal

pub returns : goal.returns
returns c =
    let program : Makes c.subcommand_required.result (wants_subcommand (new_app (codes "clifinl"))) = record {
      app = ap app_of_fields c.subcommand_required.ensures ∙ ap wants_subcommand c.new_command.ensures.0;
      plain = ap (λ (f : Command-F Command). f.has_globals) c.subcommand_required.ensures ∙ c.new_command.ensures.1;
    } in
    IfOk-weaker c.subcommand-6.result _ _ (λ r added. (adds_command added (adds_command c.in_ok-subcommand-5.ensures (adds_command c.in_ok-subcommand-4.ensures (adds_command c.in_ok-subcommand-3.ensures (adds_command c.in_ok-subcommand-2.ensures
    (adds_command c.in_ok-subcommand.ensures program c.plain_command.ensures) c.plain_command-2.ensures) c.in_ok-inline_command.ensures) c.in_ok-run_command.ensures) c.in_ok-gen_command.ensures) c.plain_command-3.ensures).app) c.subcommand-6.ensures
