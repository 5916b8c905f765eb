-- What a chain of `arg` or `subcommand` makes, a step at a time.
use Rattle.std.proofs.Common.{◌≡◌, ◌∙◌, ◌||◌, false, true, ap₂}
use Rattle.clap.specs.Words.{AddsArg, AddsSubcommand, App, Rule, Shape, app_of, shape_of, rule_of, with_rule, with_subcommand}
use Rattle.clap.specs.declared.builder.arg.Arg.{Arg}
use Rattle.clap.specs.declared.builder.command.Command.{Command}
use Rattle.clap.specs.declared.builder.command.Command.TheViews.{out-Command}

-- the command is this one, and has no global option
pub record Makes (c : Command) (a : App) : Type 0 where
  pub app : app_of c ≡ a
  pub plain : (out-Command c).has_globals ≡ false

pub adds_option : {old new : Command} {o : Arg} {a : App} {r : Rule} → AddsArg old o new → Makes old a → (rule_of o ≡ r) × (o.global ≡ false)
    → Makes new (with_rule a r)
adds_option added before option = record {
  app = added.shape option.1 ∙ ap₂ with_rule before.app option.0;
  plain = added.globals ∙ ap₂ (λ x y. x || y) before.plain option.1;
}

pub adds_command : {old sub new : Command} {a : App} {s : Shape} → AddsSubcommand old sub new → Makes old a
    → (shape_of sub ≡ s) × ((out-Command sub).has_globals ≡ false) → Makes new (with_subcommand a s)
adds_command added before below = record {
  app = added.shape below.1 ∙ ap₂ with_subcommand before.app below.0;
  plain = added.globals ∙ ap₂ (λ x y. x || y) before.plain below.1;
}

-- one of the subcommands has to be named
abbrev pub wants_subcommand : App → App
wants_subcommand a = record a { top = record a.top { subcommand_required = true } }
