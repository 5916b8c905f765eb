-- What the table says of some command lines, without the program's name.
use Rattle.std.specs.Prelude.{◌≡◌, List, [], ◌∷◌, Some, None, codes, false, true}
use Rattle.clap.specs.Words.{Text, is_simple_and_free}
use Rattle.settings.specs.Settings.{Settings, Check, Print, Inline, Run, Gen, Test, InlineSettings}
use Rattle.settings.specs.Table.{table}
use Rattle.settings.specs.Meaning.{settings_of}

abbrev pub AreRefused : List Text → Type 0
AreRefused words = settings_of (codes "clifinl" ∷ words) ≡ None

abbrev pub Have : Settings → List Text → Type 0
Have settings words = settings_of (codes "clifinl" ∷ words) ≡ Some settings

pub record SomeAreRefused : Type 0 where
  pub no_word : AreRefused []
  pub help : AreRefused (codes "--help" ∷ [])
  pub help_of_a_command : AreRefused (codes "run" ∷ codes "--help" ∷ [])
  pub no_command : AreRefused (codes "optimise" ∷ [])
  pub option_of_test : AreRefused (codes "test" ∷ codes "--workers" ∷ codes "4" ∷ [])
  pub two_commands : AreRefused (codes "check" ∷ codes "check" ∷ [])
  pub no_entry : AreRefused (codes "run" ∷ [])
  pub no_worker : AreRefused (codes "inline" ∷ codes "--workers" ∷ codes "0" ∷ [])
  pub many_workers : AreRefused (codes "inline" ∷ codes "--workers" ∷ codes "65" ∷ [])
  pub large_callee : AreRefused (codes "inline" ∷ codes "--callee-size" ∷ codes "262145" ∷ [])
  pub no_count : AreRefused (codes "gen" ∷ codes "--number" ∷ codes "1" ∷ [])
  pub no_function : AreRefused (codes "gen" ∷ codes "--functions" ∷ codes "0" ∷ [])
  pub many_functions : AreRefused (codes "gen" ∷ codes "--functions" ∷ codes "20001" ∷ [])
  pub repeated : AreRefused (codes "inline" ∷ codes "--workers" ∷ codes "1" ∷ codes "--workers" ∷ codes "2" ∷ [])

-- the options of the pass where the words say nothing of them
abbrev pub usual : InlineSettings
usual = record { callee_size = 64; caller_size = 4096; workers = 4 }

pub record SomeHaveSettings : Type 0 where
  pub check : Have Check (codes "check" ∷ [])
  pub print : Have Print (codes "print" ∷ [])
  pub inline : Have (Inline usual) (codes "inline" ∷ [])
  pub run : Have (Run (record { entry = codes "%f"; args = codes "-5"; script = []; memory = 65536; steps = 1000000 }))
      (codes "run" ∷ codes "--entry" ∷ codes "%f" ∷ codes "--args=-5" ∷ [])
  pub gen : Have (Gen (record { number = 0; functions = 9; text = false; pass = usual }))
      (codes "gen" ∷ codes "--functions" ∷ codes "9" ∷ [])
  pub gen_text : Have (Gen (record { number = 18446744073709551615; functions = 20000; text = true; pass = usual }))
      (codes "gen" ∷ codes "--text" ∷ codes "--functions" ∷ codes "20000" ∷ codes "--number"
      ∷ codes "18446744073709551615" ∷ [])
  pub test : Have Test (codes "test" ∷ [])

-- `clap`'s clauses speak of this table
abbrev pub TableIsSimple : Type 0
TableIsSimple = is_simple_and_free table ≡ true
