-- What is known of a function when the first of its comments were read, and what the next comment changes.
use Rattle.std.specs.Prelude.{◌≡◌, ℕ, ⊤, Bool, true, false, ◌||◌, if◌then◌else◌, nat_lt, List, [], ◌∷◌}
use Rattle.std.specs.Prelude.{◌++◌, map, ℤ, Option, Some, None, All, Vec}
use Rattle.clif_lex.specs.declared.spans.Token.{Token}
use Rattle.clif_read.specs.declared.raw.RawFunction.{RawFunction}
use Rattle.ir_semantics.specs.Machine.{Reply}
use Rattle.test_directives.specs.declared.commands.Command.{Command}
use Rattle.test_directives.specs.declared.tests.DirectiveErr.{DirectiveErr}
use Rattle.test_directives.specs.declared.tests.DirectiveErr.TheVariants.{BadDirective, NoMemory}
use Rattle.test_directives.specs.declared.tests.FunctionTests.{FunctionTests as ReadTests}
use Rattle.test_directives.specs.Placing.{between}
use Rattle.test_directives.specs.Directives.{Wanted, Directive, Run, Host, Trace, Lines, Error, Comment, Plain, Asks}
use Rattle.test_directives.specs.Directives.{Bad, comment_of, spelled_name}
use Rattle.test_directives.specs.Tests.{Placed, RunTest, FunctionTests, Said, traces, runs_with, said, line_tests}
use Rattle.test_directives.specs.Tests.{error_line, expected_line, expected_lines, is_check, or_else}
use Rattle.test_directives.specs.Tests.{is_misplaced, is_bad, first_bad, bad_header, commands, all_tests}
use Rattle.test_directives.specs.Tests.{tests_of, first_spot}
use Rattle.test_directives.specs.Views.{command_of, function_of, IsPlaced}

-- a function, what its comments asked for, and what the next ones go by
pub record Read : Type 0 where
  pub functions : List RawFunction
  pub end_spot : ℕ
  pub tests : FunctionTests
  pub script : List Reply
  pub has_check : Bool

abbrev pub unread : List RawFunction → RawFunction → ℕ → Read
unread fs f line = record {
  functions = fs;
  end_spot = f.end_spot;
  tests = record { name = spelled_name f.name; line = line; runs = []; lines = []; error = None; expected = [] };
  script = [];
  has_check = false;
}

abbrev pub run : List ℕ → List ℤ → Wanted → Directive
run name numbers wanted = Run (record { name = name; numbers = numbers; wanted = wanted })

abbrev pub has_run : List RunTest → Bool
has_run [] = false
has_run (r ∷ rs) = true

-- ---- the next directive

abbrev pub with_events : RunTest → List (List ℕ) → RunTest
with_events r events = record r { trace = r.trace ++ events }

-- the last of the runs has these events too
abbrev pub continued : List RunTest → List (List ℕ) → List RunTest
continued [] events = []
continued (r ∷ []) events = with_events r events ∷ []
continued (r ∷ s ∷ rs) events = r ∷ continued (s ∷ rs) events

abbrev pub with_tests : Read → FunctionTests → Read
with_tests r tests = record r { tests = tests }

abbrev pub after_directive : Read → ℕ → Directive → Read
after_directive r line (Run call) = record r {
  tests = record r.tests {
    runs = r.tests.runs ++ record { line = line; call = call; script = r.script; trace = [] } ∷ [];
  };
  script = [];
}
after_directive r line (Host replies) = record r { script = replies }
after_directive r line (Trace event) =
    with_tests r (record r.tests { runs = continued r.tests.runs (event ∷ []) })
after_directive r line (Lines test) = record r {
  tests = record r.tests { lines = r.tests.lines ++ test ∷ [] };
  has_check = r.has_check || is_check test;
}
after_directive r line Error = with_tests r (record r.tests { error = or_else r.tests.error (Some line) })

abbrev pub misplaces : Read → Directive → Bool
misplaces r directive = is_misplaced r.functions (has_run r.tests.runs) r.has_check directive

-- the directive is in its place, and changes this
abbrev pub Takes : Read → ℕ → Directive → Read → Type 0
Takes old line directive new = (misplaces old directive ≡ false) × (new ≡ after_directive old line directive)

-- why the directive is not taken
abbrev pub Misplaces : Read → ℕ → Directive → DirectiveErr → Type 0
Misplaces old line directive (BadDirective at) = (at ≡ line) × (misplaces old directive ≡ true)
Misplaces old line directive NoMemory = ⊤

-- ---- the next comment

abbrev pub after_comment : Read → Placed → Comment → Read
after_comment r c Plain =
    if nat_lt r.end_spot c.spot
    then with_tests r (record r.tests { expected = r.tests.expected ++ expected_line c.text ∷ [] }) else r
after_comment r c (Asks directive) = after_directive r c.line directive
after_comment r c Bad = r

abbrev pub stops : Read → Comment → Bool
stops r comment = is_bad r.functions (has_run r.tests.runs) r.has_check comment

abbrev pub Reads : Read → Placed → Read → Type 0
Reads old c new = (stops old (comment_of c.text) ≡ false) × (new ≡ after_comment old c (comment_of c.text))

abbrev pub Stops : Read → Placed → DirectiveErr → Type 0
Stops old c (BadDirective at) = (at ≡ c.line) × (stops old (comment_of c.text) ≡ true)
Stops old c NoMemory = ⊤

-- ---- all of the comments

-- what the function asks for, where these directives and plain comments follow
abbrev pub finished : Read → List Said → List (List ℕ) → FunctionTests
finished r ss plain = record r.tests {
  runs = continued r.tests.runs (traces ss) ++ runs_with r.script ss;
  lines = r.tests.lines ++ line_tests ss;
  error = or_else r.tests.error (error_line ss);
  expected = r.tests.expected ++ plain;
}

abbrev pub finished_by : Read → List Placed → FunctionTests
finished_by r cs = finished r (said cs) (expected_lines r.end_spot cs)

abbrev pub stopped_by : Read → List Placed → Option ℕ
stopped_by r cs = first_bad r.functions (has_run r.tests.runs) r.has_check cs

abbrev pub bad_comment : List RawFunction → List Placed → Option ℕ
bad_comment fs cs = first_bad fs false false cs

-- ---- what is returned

-- this is the line that is bad
abbrev pub IsFirst : Option ℕ → DirectiveErr → Type 0
IsFirst bad (BadDirective line) = bad ≡ Some line
IsFirst bad NoMemory = ⊤

pub record Commands {A : Type 0} (headers : List Placed) (list : Vec Command A) : Type 0 where
  pub good : bad_header headers ≡ None
  pub commands : map command_of list.items ≡ commands headers

pub record AreTests {A : Type 0} (text : List ℕ) (ts : List Token) (fs : List RawFunction)
    (list : Vec ReadTests A) : Type 0 where
  pub tests : map function_of list.items ≡ all_tests text ts fs
  pub placed : All (λ t. All (IsPlaced fs) t.runs.items) list.items

-- ---- by all comments of the text

-- of each function, in order, where these are the comments of the text
abbrev pub tests_by : List ℕ → List Placed → List RawFunction → List FunctionTests
tests_by text cs [] = []
tests_by text cs (f ∷ fs) = tests_of text f (between cs f.spot (first_spot text fs)) ∷ tests_by text cs fs

-- the line of the first bad directive of functions in order, where all are `every`
abbrev pub bad_by : List ℕ → List Placed → (every fs : List RawFunction) → Option ℕ
bad_by text cs every [] = None
bad_by text cs every (f ∷ fs) =
    or_else (first_bad every false false (between cs f.spot (first_spot text fs))) (bad_by text cs every fs)

pub record AreTestsBy {A : Type 0} (text : List ℕ) (cs : List Placed) (fs : List RawFunction)
    (list : Vec ReadTests A) : Type 0 where
  pub tests : map function_of list.items ≡ tests_by text cs fs
  pub placed : All (λ t. All (IsPlaced fs) t.runs.items) list.items
