-- What the code keeps, as the definitions see it.
use Rattle.std.specs.Prelude.{◌≡◌, ℕ, ⊤, List, [], map, slice_get, Option, Some, None, All, Vec}
use Rattle.clif_lex.specs.declared.spans.Token.{Token}
use Rattle.clif_read.specs.declared.raw.RawFunction.{RawFunction}
use Rattle.clif_read.specs.declared.raw.RawModule.{RawModule}
use Rattle.host_script.specs.Script.{replies_of}
use Rattle.test_directives.specs.Commands as commands
use Rattle.test_directives.specs.Directives as directives
use Rattle.test_directives.specs.Tests as tests
use Rattle.test_directives.specs.declared.commands.Command.{Command}
use Rattle.test_directives.specs.declared.commands.Command.TheVariants as command
use Rattle.test_directives.specs.declared.commands.InlineWords.{InlineWords}
use Rattle.test_directives.specs.declared.comments.Comment.{Comment}
use Rattle.test_directives.specs.declared.comments.Comment.TheVariants as comment
use Rattle.test_directives.specs.declared.directives.Directive.{Directive}
use Rattle.test_directives.specs.declared.directives.Directive.TheVariants as directive
use Rattle.test_directives.specs.declared.directives.Expectation.{Expectation}
use Rattle.test_directives.specs.declared.directives.Expectation.TheVariants as expectation
use Rattle.test_directives.specs.declared.directives.Wanted.{Wanted}
use Rattle.test_directives.specs.declared.directives.Wanted.TheVariants as wanted
use Rattle.test_directives.specs.declared.directives.LineCheck.{LineCheck}
use Rattle.test_directives.specs.declared.directives.LineCheck.TheVariants as line_check
use Rattle.test_directives.specs.declared.directives.LineTest.{LineTest}
use Rattle.test_directives.specs.declared.tests.DirectiveErr.{DirectiveErr}
use Rattle.test_directives.specs.declared.tests.DirectiveErr.TheVariants as err
use Rattle.test_directives.specs.declared.tests.FunctionTests.{FunctionTests}
use Rattle.test_directives.specs.declared.tests.RunTest.{RunTest}
use Rattle.test_directives.specs.declared.tests.TestFile.{TestFile}

abbrev pub command_of : Command → commands.Command
command_of command.Cat = commands.Cat
command_of command.Verifier = commands.Verifier
command_of command.Interpret = commands.Interpret
command_of command.Run = commands.Run
command_of (command.Inline precise callee_size caller_size) =
    commands.Inline (record { precise = precise; callee_size = callee_size; caller_size = caller_size })
command_of (command.Other word) = commands.Other word

abbrev pub words_of : InlineWords → commands.InlineWords
words_of w = record { precise = w.precise; callee_size = w.callee_size; caller_size = w.caller_size }

abbrev pub expectation_of : Expectation → directives.Expectation
expectation_of (expectation.Values numbers) = directives.Values numbers
expectation_of (expectation.Trap code) = directives.Trap code
expectation_of (expectation.Throw tag p0 p1) = directives.Throw tag p0 p1

abbrev pub wanted_of : Wanted → directives.Wanted
wanted_of wanted.Return = directives.Return
wanted_of (wanted.Equal e) = directives.Equal (expectation_of e)
wanted_of (wanted.Unequal e) = directives.Unequal (expectation_of e)

abbrev pub line_test_by : LineCheck → List ℕ → directives.LineTest
line_test_by line_check.Check text = directives.Check text
line_test_by line_check.Nextln text = directives.Nextln text
line_test_by line_check.Not text = directives.Not text

abbrev pub line_test_of : LineTest → directives.LineTest
line_test_of t = line_test_by t.check t.text

abbrev pub directive_of : Directive → directives.Directive
directive_of (directive.Run name numbers wanted) =
    directives.Run (record { name = name; numbers = numbers; wanted = wanted_of wanted })
directive_of (directive.Host script) = directives.Host (replies_of script)
directive_of (directive.Trace line) = directives.Trace line
directive_of (directive.Line test) = directives.Lines (line_test_of test)
directive_of directive.Error = directives.Error

abbrev pub comment_of : Comment → directives.Comment
comment_of comment.Plain = directives.Plain
comment_of (comment.Asks asked) = directives.Asks (directive_of asked)
comment_of comment.Bad = directives.Bad

abbrev pub events : {A : Type 0} → Option (Vec (List ℕ) A) → List (List ℕ)
events None = []
events (Some lines) = lines.items

abbrev pub run_of : RunTest → tests.RunTest
run_of t = record {
  line = t.line;
  call = record { name = t.name; numbers = t.numbers; wanted = wanted_of t.wanted };
  script = replies_of t.script;
  trace = events t.trace;
}

abbrev pub function_of : FunctionTests → tests.FunctionTests
function_of t = record {
  name = t.name;
  line = t.line;
  runs = map run_of t.runs.items;
  lines = map line_test_of t.lines.items;
  error = t.error;
  expected = t.expected.items;
}

-- the function that the code names is the first with the run's name
abbrev pub IsPlaced : List RawFunction → RunTest → Type 0
IsPlaced fs t = slice_get fs t.func ≡ tests.first_named t.name fs

-- what a text asks for, by its tokens and its raw module: it has no bad directive
pub record IsFile (text : List ℕ) (ts : List Token) (raw : RawModule) (file : TestFile) : Type 0 where
  pub good : tests.bad_line text ts raw ≡ None
  pub commands : map command_of file.commands.items ≡ tests.commands (tests.headers text ts)
  pub functions : map function_of file.functions.items ≡ tests.all_tests text ts raw.functions
  pub placed : All (λ t. All (IsPlaced raw.functions) t.runs.items) file.functions.items

-- why it asks for nothing; memory may run out at any time
abbrev pub IsBad : List ℕ → List Token → RawModule → DirectiveErr → Type 0
IsBad text ts raw (err.BadDirective line) = tests.bad_line text ts raw ≡ Some line
IsBad text ts raw err.NoMemory = ⊤
