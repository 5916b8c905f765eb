-- To which function a comment belongs, and what the comments of a function ask for together.
use Rattle.std.specs.Prelude.{ℕ, nat_lt, Bool, true, false, not, ◌&&◌, ◌||◌, if◌then◌else◌, List, []}
use Rattle.std.specs.Prelude.{◌∷◌, ◌++◌, length, map}
use Rattle.std.specs.Prelude.{flat_map, codes, ℤ, Option, Some, None, is_some}
use Rattle.std.specs.List.{filter}
use Rattle.std.specs.Str.{bytes_eq}
use Rattle.clif_lex.specs.declared.spans.Token.{Token}
use Rattle.clif_lex.specs.declared.spans.TokenKind.{TokenKind}
use Rattle.clif_lex.specs.declared.spans.TokenKind.TheVariants as kinds
use Rattle.clif_lex.specs.Places.{line_at}
use Rattle.clif_lex.specs.Spans.{spelling}
use Rattle.clif_words.specs.Lexemes.{is_comment}
use Rattle.clif_read.specs.declared.raw.RawFunction.{RawFunction}
use Rattle.clif_read.specs.declared.raw.RawModule.{RawModule}
use Rattle.clif_read.specs.declared.raw.RawParam.{RawParam}
use Rattle.ir_semantics.specs.Machine.{Reply}
use Rattle.ir_semantics.specs.Values.{values_for}
use Rattle.test_directives.specs.Blanks.{behind}
use Rattle.test_directives.specs.Commands.{Command, command_of}
use Rattle.test_directives.specs.Directives.{Call, Wanted, Return, Equal, Unequal, Expectation, Values, Trap, Throw}
use Rattle.test_directives.specs.Directives.{LineTest, Check, Nextln, Not, Directive, Run, Host, Trace, Lines, Error}
use Rattle.test_directives.specs.Directives.{Comment, Plain, Asks, Bad, comment_of, spelled_name}

-- ---- headers and comments with their places

-- a header line or a comment of a text
pub record Placed : Type 0 where
  pub spot : ℕ
  pub line : ℕ
  pub text : List ℕ

abbrev pub placed : List ℕ → Token → Placed
placed text t = record { spot = t.start; line = line_at text t.start; text = spelling text t }

abbrev pub is_header : TokenKind → Bool
is_header kinds.Header = true
is_header kind = false

abbrev pub headers : List ℕ → List Token → List Placed
headers text ts = map (placed text) (filter (λ t. is_header t.kind) ts)

abbrev pub comments : List ℕ → List Token → List Placed
comments text ts = map (placed text) (filter (λ t. is_comment t.kind) ts)

-- A comment belongs to the function whose word `function` stands last before it: to this one, where it stands behind
-- that word and before that of the next function, or the end.
abbrev pub comments_between : List ℕ → List Token → (from until : ℕ) → List Placed
comments_between text ts from until =
    map (placed text) (filter (λ t. is_comment t.kind && (nat_lt from t.start && nat_lt t.start until)) ts)

-- the spot of the first of the functions, or the end of the text
abbrev pub first_spot : List ℕ → List RawFunction → ℕ
first_spot text [] = length text
first_spot text (f ∷ fs) = f.spot

-- ---- what a function's comments ask for

-- a run and what is wanted of it; without `trace:` lines its events are not compared
pub record RunTest : Type 0 where
  pub line : ℕ
  pub call : Call
  pub script : List Reply
  pub trace : List (List ℕ)

-- a directive with its line
pub record Said : Type 0 where
  pub line : ℕ
  pub directive : Directive

abbrev pub said_by : ℕ → Comment → List Said
said_by line (Asks directive) = record { line = line; directive = directive } ∷ []
said_by line Plain = []
said_by line Bad = []

-- the directives among comments
abbrev pub said : List Placed → List Said
said cs = flat_map (λ c. said_by c.line (comment_of c.text)) cs

-- a `trace:` line before others; a `run:` ends those of the `run:` before it
abbrev pub with_trace : Directive → List (List ℕ) → List (List ℕ)
with_trace (Run call) rest = []
with_trace (Trace line) rest = line ∷ rest
with_trace directive rest = rest

-- the `trace:` lines up to the next `run:`
abbrev pub traces : List Said → List (List ℕ)
traces [] = []
traces (s ∷ ss) = with_trace s.directive (traces ss)

-- the script of the next `run:`
abbrev pub script_after : List Reply → Directive → List Reply
script_after script (Run call) = []
script_after script (Host replies) = replies
script_after script directive = script

abbrev pub run_by : List Reply → ℕ → List (List ℕ) → Directive → List RunTest
run_by script line trace (Run call) = record { line = line; call = call; script = script; trace = trace } ∷ []
run_by script line trace directive = []

-- each `run:`, where this is the script of the next one
abbrev pub runs_with : List Reply → List Said → List RunTest
runs_with script [] = []
runs_with script (s ∷ ss) =
    run_by script s.line (traces ss) s.directive ++ runs_with (script_after script s.directive) ss

abbrev pub line_test_in : Directive → List LineTest
line_test_in (Lines test) = test ∷ []
line_test_in directive = []

abbrev pub line_tests : List Said → List LineTest
line_tests ss = flat_map (λ s. line_test_in s.directive) ss

abbrev pub is_error : Directive → Bool
is_error Error = true
is_error directive = false

-- the line of the first `error:`
abbrev pub error_line : List Said → Option ℕ
error_line [] = None
error_line (s ∷ ss) = if is_error s.directive then Some s.line else error_line ss

-- without its `;` and one space behind it
abbrev pub expected_line : List ℕ → List ℕ
expected_line [] = []
expected_line (c ∷ rest) = elim (behind (codes " ") rest) [ Some text ↦ text | None ↦ rest ]

abbrev pub is_plain : Comment → Bool
is_plain Plain = true
is_plain (Asks directive) = false
is_plain Bad = false

-- the comments behind the function's `}` that are no directives
abbrev pub expected_lines : ℕ → List Placed → List (List ℕ)
expected_lines end_spot cs =
    map (λ c. expected_line c.text) (filter (λ c. nat_lt end_spot c.spot && is_plain (comment_of c.text)) cs)

pub record FunctionTests : Type 0 where
  pub name : List ℕ
  pub line : ℕ
  pub runs : List RunTest
  pub lines : List LineTest
  pub error : Option ℕ
  pub expected : List (List ℕ)

-- of a function with these comments, whose word `function` stands in this line
abbrev pub tests_in : ℕ → RawFunction → List Placed → FunctionTests
tests_in line f cs = record {
  name = spelled_name f.name;
  line = line;
  runs = runs_with [] (said cs);
  lines = line_tests (said cs);
  error = error_line (said cs);
  expected = expected_lines f.end_spot cs;
}

abbrev pub tests_of : List ℕ → RawFunction → List Placed → FunctionTests
tests_of text f cs = tests_in (line_at text f.spot) f cs

-- of each function, in order
abbrev pub all_tests : List ℕ → List Token → List RawFunction → List FunctionTests
all_tests text ts [] = []
all_tests text ts (f ∷ fs) =
    tests_of text f (comments_between text ts f.spot (first_spot text fs)) ∷ all_tests text ts fs

-- ---- bad directives

-- the first function that is spelled so
abbrev pub first_named : List ℕ → List RawFunction → Option RawFunction
first_named name [] = None
first_named name (f ∷ fs) = if bytes_eq name (spelled_name f.name) then Some f else first_named name fs

-- whether there are as many numbers as parameters or results, and each fits
abbrev pub are_values : List RawParam → List ℤ → Bool
are_values params numbers = is_some (values_for (map (λ p. p.ty) params) numbers)

abbrev pub may_end : RawFunction → Expectation → Bool
may_end f (Values numbers) = are_values f.signature.results numbers
may_end f (Trap code) = true
may_end f (Throw tag p0 p1) = true

abbrev pub may_be_wanted : RawFunction → Wanted → Bool
may_be_wanted f Return = true
may_be_wanted f (Equal e) = may_end f e
may_be_wanted f (Unequal e) = may_end f e

-- whether the call is one of a function of the text, by its written signature
abbrev pub is_call : List RawFunction → Call → Bool
is_call fs call = elim (first_named call.name fs) [
  | None ↦ false
  | Some f ↦ are_values f.signature.params call.numbers && may_be_wanted f call.wanted
]

abbrev pub is_check : LineTest → Bool
is_check (Check t) = true
is_check (Nextln t) = false
is_check (Not t) = false

-- whether a test of lines may stand where a `check:` stands before it, or none
abbrev pub may_stand : (has_check : Bool) → LineTest → Bool
may_stand has_check (Nextln t) = has_check
may_stand has_check (Check t) = true
may_stand has_check (Not t) = true

abbrev pub is_run : Directive → Bool
is_run (Run call) = true
is_run directive = false

abbrev pub has_check_in : Directive → Bool
has_check_in (Lines test) = is_check test
has_check_in directive = false

-- a `run:` of no function or with numbers that are not its values, a `trace:` before any `run:`, or a `nextln:` before
-- any `check:`
abbrev pub is_misplaced : List RawFunction → (has_run has_check : Bool) → Directive → Bool
is_misplaced fs has_run has_check (Run call) = not (is_call fs call)
is_misplaced fs has_run has_check (Trace line) = not has_run
is_misplaced fs has_run has_check (Lines test) = not (may_stand has_check test)
is_misplaced fs has_run has_check directive = false

-- one of these, or a directive without a reading
abbrev pub is_bad : List RawFunction → (has_run has_check : Bool) → Comment → Bool
is_bad fs has_run has_check Plain = false
is_bad fs has_run has_check Bad = true
is_bad fs has_run has_check (Asks directive) = is_misplaced fs has_run has_check directive

abbrev pub asks : (Directive → Bool) → Comment → Bool
asks p Plain = false
asks p Bad = false
asks p (Asks directive) = p directive

-- the line of the first bad directive of a function's comments
abbrev pub first_bad : List RawFunction → (has_run has_check : Bool) → List Placed → Option ℕ
first_bad fs has_run has_check [] = None
first_bad fs has_run has_check (c ∷ cs) =
    if is_bad fs has_run has_check (comment_of c.text) then Some c.line
    else first_bad fs (has_run || asks is_run (comment_of c.text)) (has_check || asks has_check_in (comment_of c.text))
    cs

abbrev pub or_else : {A : Type 0} → Option A → Option A → Option A
or_else (Some x) other = Some x
or_else None other = other

-- of the functions in order, where all are `every`
abbrev pub first_bad_of : List ℕ → List Token → (every fs : List RawFunction) → Option ℕ
first_bad_of text ts every [] = None
first_bad_of text ts every (f ∷ fs) =
    or_else (first_bad every false false (comments_between text ts f.spot (first_spot text fs)))
    (first_bad_of text ts every fs)

-- the line of the first `test` without a reading
abbrev pub bad_header : List Placed → Option ℕ
bad_header [] = None
bad_header (h ∷ hs) = elim (command_of h.text) [
  | None ↦ bad_header hs
  | Some reading ↦ elim reading [ None ↦ Some h.line | Some command ↦ bad_header hs ]
]

-- the first line of the text that has a bad directive: headers stand before all functions
abbrev pub bad_line : List ℕ → List Token → RawModule → Option ℕ
bad_line text ts raw = or_else (bad_header (headers text ts)) (first_bad_of text ts raw.functions raw.functions)

-- ---- the whole

-- what the header lines ask for, in order
abbrev pub commands : List Placed → List Command
commands [] = []
commands (h ∷ hs) = elim (command_of h.text) [
  | None ↦ commands hs
  | Some reading ↦ elim reading [ None ↦ commands hs | Some command ↦ command ∷ commands hs ]
]
