-- What `run_tests` answers: the report of a text, or why it has none.
use Rattle.std.specs.Prelude.{◌≡◌, ℕ, ◌⊎◌, ⊤, Bool, true, false, List, [], Ok, Option, Some, None}
use Rattle.std.specs.List.{list_any}
use Rattle.clif_lex.specs.declared.faults.TextKind.{TextKind}
use Rattle.clif_lex.specs.declared.faults.TextErr.TheVariants as text_err
use Rattle.clif_lex.specs.declared.spans.Token.{Token}
use Rattle.clif_lex.specs.Lexing.{tokens_of}
use Rattle.clif_read.specs.declared.raw.RawModule.{RawModule}
use Rattle.clif_read.specs.Texts.{IsFirstFault}
use Rattle.clif_read.specs.Texts.{IsModule}
use Rattle.clif_words.specs.Lexemes.{lexemes}
use Rattle.clif_check.specs.Faults.{FirstOfRaw, IsAcceptedRaw}
use Rattle.ir_core.specs.Module.{Module}
use Rattle.test_directives.specs.Commands as command
use Rattle.test_directives.specs.Commands.{Command, needs_accepted}
use Rattle.test_directives.specs.Tests.{all_tests, bad_line, commands, headers}
use Rattle.filetest.specs.declared.report.Report.{Report}
use Rattle.filetest.specs.declared.testing.TestErr.{TestErr}
use Rattle.filetest.specs.declared.testing.TestErr.TheVariants as err
use Rattle.filetest.specs.Checks.{report_text, passed, failed, skipped}
use Rattle.filetest.specs.FaultLines.{AreFaultLines}

-- the text has these tokens, and they are this raw module
pub record IsRaw (text : List ℕ) (ts : List Token) (raw : RawModule) : Type 0 where
  pub tokens : tokens_of text ≡ Ok ts
  pub read : IsModule (lexemes text ts) raw

-- what the header lines of a text ask for
abbrev pub asked : List ℕ → List Token → List Command
asked text ts = commands (headers text ts)

-- whether a command is carried out that needs the text to be accepted
abbrev pub needs_module : List Command → Bool
needs_module cs = list_any needs_accepted cs

-- the module over which the commands go: that of the text where one of them needs it, and else the empty one
abbrev pub IsTestedModule : Bool → RawModule → Module → Type 0
IsTestedModule true raw m = IsAcceptedRaw raw m
IsTestedModule false raw m = m ≡ []

abbrev pub is_verifier : Command → Bool
is_verifier command.Verifier = true
is_verifier command.Cat = false
is_verifier command.Interpret = false
is_verifier command.Run = false
is_verifier (command.Inline words) = false
is_verifier (command.Other word) = false

-- the lines of the first faults, which count where `verifier` is a command
abbrev pub HasFaultLines : Bool → List ℕ → RawModule → List (Option ℕ) → Type 0
HasFaultLines true text raw lines = AreFaultLines text raw lines
HasFaultLines false text raw lines = ⊤

-- the report of a text: it has no bad directive, and is accepted where a command needs it
pub record IsReport (text : List ℕ) (report : Report) : Type 0 where
  pub tokens : List Token
  pub raw : RawModule
  pub read : IsRaw text tokens raw
  pub good : bad_line text tokens raw ≡ None
  pub tested : Module
  pub is_tested : IsTestedModule (needs_module (asked text tokens)) raw tested
  pub faults : List (Option ℕ)
  pub are_faults : HasFaultLines (list_any is_verifier (asked text tokens)) text raw faults
  pub text_is : report.text ≡ report_text tested (all_tests text tokens raw.functions) faults (asked text tokens)
  pub passed_is : report.passed ≡ passed tested (all_tests text tokens raw.functions) faults (asked text tokens)
  pub failed_is : report.failed ≡ failed tested (all_tests text tokens raw.functions) faults (asked text tokens)
  pub skipped_is : report.skipped ≡ skipped (asked text tokens)

-- the first bad directive stands on this line of a text that is a raw module
abbrev pub HasBadLine : List ℕ → ℕ → Type 0
HasBadLine text line =
    (ts : List Token) × (raw : RawModule) × IsRaw text ts raw × (bad_line text ts raw ≡ Some line)

-- the text is a raw module without bad directives, a command needs it accepted, and this is its first fault
abbrev pub HasLaterFault : List ℕ → TextKind → ℕ → Type 0
HasLaterFault text k spot =
    (ts : List Token) × (raw : RawModule) × IsRaw text ts raw × (bad_line text ts raw ≡ None)
    × (needs_module (asked text ts) ≡ true) × FirstOfRaw raw k spot

-- why a text has no report: the first fault of its tokens or its grammar, then the first bad directive, then the first
-- fault of its names and rules; memory may run out at any time
abbrev pub IsRefusal : List ℕ → TestErr → Type 0
IsRefusal text (err.BadDirective line) = HasBadLine text line
IsRefusal text (err.Text k spot) =
    IsFirstFault text (tokens_of text) (text_err.Fault k spot) ⊎ HasLaterFault text k spot
IsRefusal text err.NoMemory = ⊤
