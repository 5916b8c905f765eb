-- The command lines of the laws, computed.
use Rattle.std.proofs.Common.{refl}
use Rattle.clap.proofs.OnLiterals.{clap_on_literals}
use Rattle.settings.specs.Options.{number_of}
use Rattle.settings.specs.Laws.{SomeAreRefused, SomeHaveSettings, TableIsSimple}

pub some_are_refused : SomeAreRefused
unfolding clap_on_literals number_of
some_are_refused = record {
  no_word = refl;
  help = refl;
  help_of_a_command = refl;
  no_command = refl;
  option_of_test = refl;
  two_commands = refl;
  no_entry = refl;
  no_worker = refl;
  many_workers = refl;
  large_callee = refl;
  no_count = refl;
  no_function = refl;
  many_functions = refl;
  repeated = refl;
}

pub some_have_settings : SomeHaveSettings
unfolding clap_on_literals number_of
some_have_settings = record { check = refl; print = refl; inline = refl; run = refl; gen = refl; gen_text = refl; test = refl }

pub table_is_simple : TableIsSimple
unfolding clap_on_literals
table_is_simple = refl
