-- The options and the settings that the code's types show.
use Rattle.std.specs.Prelude.{string_bytes}
use Rattle.settings.specs.Options.{Number}
use Rattle.settings.specs.Settings as spec
use Rattle.settings.specs.declared.options.NumberOption.{NumberOption}
use Rattle.settings.specs.declared.requests.Settings.{Settings}
use Rattle.settings.specs.declared.requests.Settings.TheVariants.{Check, Print, Inline, Run, Gen, Test}
use Rattle.settings.specs.declared.requests.InlineSettings.{InlineSettings}
use Rattle.settings.specs.declared.requests.RunSettings.{RunSettings}
use Rattle.settings.specs.declared.requests.GenSettings.{GenSettings}

abbrev pub number_shown : NumberOption → Number
number_shown o = record { name = o.name.now; least = o.least; most = o.most }

abbrev pub inline_shown : InlineSettings → spec.InlineSettings
inline_shown s = record { callee_size = s.callee_size; caller_size = s.caller_size; workers = s.workers }

abbrev pub run_shown : RunSettings → spec.RunSettings
run_shown s = record {
  entry = string_bytes s.entry;
  args = string_bytes s.args;
  script = string_bytes s.script;
  memory = s.memory;
  steps = s.steps;
}

abbrev pub gen_shown : GenSettings → spec.GenSettings
gen_shown s = record { number = s.number; functions = s.functions; text = s.text; pass = inline_shown s.pass }

abbrev pub shown : Settings → spec.Settings
shown Check = spec.Check
shown Print = spec.Print
shown (Inline s) = spec.Inline (inline_shown s)
shown (Run s) = spec.Run (run_shown s)
shown (Gen s) = spec.Gen (gen_shown s)
shown Test = spec.Test
