-- What each command checks, and the report of all of them.
use Rattle.std.specs.Prelude.{ℕ, ◌==◌, Bool, true, false, if◌then◌else◌, List, [], ◌∷◌, ◌++◌, length, map, flat_map}
use Rattle.std.specs.Prelude.{codes, decimal, Option, Some, None}
use Rattle.std.specs.List.{filter}
use Rattle.std.specs.Str.{bytes_eq}
use Rattle.ir_core.specs.Lookup.{and_then}
use Rattle.ir_core.specs.Module.{Function, Module}
use Rattle.ir_text.specs.Text.{function_text_of}
use Rattle.program_run.specs.EntryName.{spelling}
use Rattle.inline_pass.specs.Finished.{finished}
use Rattle.inline_pass.specs.Inlined.{inlined}
use Rattle.inline_pass.specs.Policy.{Policy}
use Rattle.test_directives.specs.Commands as command
use Rattle.test_directives.specs.Commands.{Command, InlineWords}
use Rattle.test_directives.specs.Tests.{FunctionTests, RunTest}
use Rattle.filetest.specs.LineTests.{Line, Pair, pair, failure, difference, split_lines}
use Rattle.filetest.specs.Ends.{run_failure, unless}
use Rattle.filetest.specs.Report as report
use Rattle.filetest.specs.Report.{Check, check_text, skip_text, last_line}

abbrev pub check_of : FunctionTests → Option Pair → Check
check_of t failure = record { name = t.name; line = t.line; failure = failure }

-- ---- canonical texts

-- of a function that has tests of lines, over its text
abbrev pub line_check : (Function → List ℕ) → Function → FunctionTests → List Check
line_check text_of f t =
    if length t.lines == 0 then [] else check_of t (failure [] (split_lines (text_of f)) t.lines) ∷ []

abbrev pub policy_of : InlineWords → Policy
policy_of w = record { callee_size = w.callee_size; caller_size = w.caller_size }

-- the text of a function after the pass
abbrev pub finished_text : Policy → Module → Function → List ℕ
finished_text p m f = function_text_of (finished p m f)

abbrev pub untouched_line : List ℕ → Line
untouched_line name = codes "(no functions inlined into " ++ name ++ codes ")"

-- the lines that are compared with the comments behind a function, where so many sites were inlined into it
abbrev pub output_lines : ℕ → List ℕ → List ℕ → List Line
output_lines sites name text = if sites == 0 then untouched_line name ∷ [] else split_lines text

abbrev pub output_check : (Function → ℕ) → (Function → List ℕ) → Function → FunctionTests → List Check
output_check sites_in text_of f t =
    check_of t (difference t.expected (output_lines (sites_in f) t.name (text_of f))) ∷ []

-- what is checked after the pass
abbrev pub inlined_check : (precise : Bool) → Policy → Module → Function → FunctionTests → List Check
inlined_check true p m = output_check (inlined p m) (finished_text p m)
inlined_check false p m = line_check (finished_text p m)

-- ---- runs

-- the function that is spelled so
abbrev pub function_spelled : List ℕ → Module → Option Function
function_spelled name [] = None
function_spelled name (f ∷ m) = if bytes_eq name (spelling f.name) then Some f else function_spelled name m

abbrev pub run_check : Module → RunTest → Check
run_check m test = record {
  name = test.call.name;
  line = test.line;
  failure = and_then (function_spelled test.call.name m) (λ f. run_failure m f test);
}

abbrev pub run_checks : Module → List FunctionTests → List Check
run_checks m ts = flat_map (λ t. map (run_check m) t.runs) ts

-- ---- faults

abbrev pub shown_fault : Option ℕ → List ℕ
shown_fault None = codes "accepted"
shown_fault (Some line) = codes "line " ++ decimal line

abbrev pub same_fault : Option ℕ → Option ℕ → Bool
same_fault None None = true
same_fault None (Some m) = false
same_fault (Some l) None = false
same_fault (Some l) (Some m) = l == m

-- of a function whose first fault stands on this line
abbrev pub fault_check : FunctionTests → Option ℕ → Check
fault_check t fault = check_of t (unless (same_fault t.error fault) (pair (shown_fault t.error) (shown_fault fault)))

abbrev pub fault_checks : List FunctionTests → List (Option ℕ) → List Check
fault_checks (t ∷ ts) (fault ∷ faults) = fault_check t fault ∷ fault_checks ts faults
fault_checks [] faults = []
fault_checks (t ∷ ts) [] = []

-- ---- commands

-- of each function of the module with its tests, in order
abbrev pub each : (Function → FunctionTests → List Check) → Module → List FunctionTests → List Check
each checks (f ∷ fs) (t ∷ ts) = checks f t ++ each checks fs ts
each checks [] ts = []
each checks (f ∷ fs) [] = []

-- the checks of a command over a module, the tests of its functions, and the lines of their first faults
abbrev pub checks_of : Module → List FunctionTests → List (Option ℕ) → Command → List Check
checks_of m ts faults command.Cat = each (line_check function_text_of) m ts
checks_of m ts faults command.Verifier = fault_checks ts faults
checks_of m ts faults command.Interpret = run_checks m ts
checks_of m ts faults command.Run = run_checks m ts
checks_of m ts faults (command.Inline w) = each (inlined_check w.precise (policy_of w) m) m ts
checks_of m ts faults (command.Other word) = []

-- ---- the report

-- a command that is not carried out is skipped
abbrev pub is_skipped : Command → Bool
is_skipped (command.Other word) = true
is_skipped command.Cat = false
is_skipped command.Verifier = false
is_skipped command.Interpret = false
is_skipped command.Run = false
is_skipped (command.Inline w) = false

abbrev pub skipped : List Command → ℕ
skipped cs = length (filter is_skipped cs)

module _ (m : Module) (ts : List FunctionTests) (faults : List (Option ℕ)) where
  abbrev pub command_text : Command → List ℕ
  command_text c = if is_skipped c then skip_text c else flat_map (check_text c) (checks_of m ts faults c)

  abbrev pub passed : List Command → ℕ
  passed cs = report.passed (flat_map (checks_of m ts faults) cs)

  abbrev pub failed : List Command → ℕ
  failed cs = report.failed (flat_map (checks_of m ts faults) cs)

  abbrev pub report_text : List Command → List ℕ
  report_text cs = flat_map command_text cs ++ last_line (passed cs) (failed cs) (skipped cs)
