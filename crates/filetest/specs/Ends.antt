-- Checks of runs.
use Rattle.std.specs.Prelude.{ℕ, Bool, true, false, not, ◌&&◌, if◌then◌else◌, List, [], ◌∷◌}
use Rattle.std.specs.Prelude.{◌++◌, map, replicate, codes}
use Rattle.std.specs.Prelude.{Option, Some, None}
use Rattle.std.specs.Str.{bytes_eq}
use Rattle.ir_core.specs.Lookup.{and_then, param_types}
use Rattle.ir_core.specs.Module.{Function, Module}
use Rattle.ir_core.specs.declared.signatures.Ty.{Ty}
use Rattle.ir_semantics.specs.Machine.{End, Going, Returned, Trapped, Threw, Unwritten, ScriptEnded, BadReply, Stuck}
use Rattle.ir_semantics.specs.Runs.{Outcome, outcome}
use Rattle.ir_semantics.specs.Values.{values_for}
use Rattle.ir_text.specs.TextTree.{spelled}
use Rattle.program_run.specs.RunText.{event_text, end_text}
use Rattle.test_directives.specs.Directives.{Expectation, Values, Trap, Throw, Wanted, Return, Equal, Unequal}
use Rattle.test_directives.specs.Tests.{RunTest}
use Rattle.filetest.specs.LineTests.{Line, Pair, pair, difference}

-- the zero bytes of a run's memory, and its steps
unfoldable pub memory_size : ℕ
memory_size = 65536

unfoldable pub step_bound : ℕ
step_bound = 1000000

abbrev pub end_line : End → Line
end_line e = spelled (end_text e)

-- the end that is expected of a run with results of these types; none where numbers do not fit them
abbrev pub expected_end : List Ty → Expectation → Option End
expected_end types (Values numbers) = and_then (values_for types numbers) (λ values. Some (Returned values))
expected_end types (Trap code) = Some (Trapped code)
expected_end types (Throw tag p0 p1) = Some (Threw tag p0 p1)

abbrev pub has_returned : End → Bool
has_returned (Returned values) = true
has_returned Going = false
has_returned (Trapped code) = false
has_returned (Threw tag p0 p1) = false
has_returned Unwritten = false
has_returned ScriptEnded = false
has_returned BadReply = false
has_returned Stuck = false

-- no failure where it holds
abbrev pub unless : Bool → Pair → Option Pair
unless holds failure = if holds then None else Some failure

-- the failure of an end, where it is not as wanted
abbrev pub end_failure : List Ty → Wanted → End → Option Pair
end_failure types Return e = unless (has_returned e) (pair (codes "returned") (end_line e))
end_failure types (Equal expectation) e =
    and_then (expected_end types expectation) (λ wanted.
    unless (bytes_eq (end_line wanted) (end_line e)) (pair (end_line wanted) (end_line e)))
end_failure types (Unequal expectation) e =
    and_then (expected_end types expectation) (λ wanted.
    unless (has_returned e && not (bytes_eq (end_line wanted) (end_line e)))
    (pair (codes "not " ++ end_line wanted) (end_line e)))

-- the failure of the events, which are compared where there are `trace:` lines
abbrev pub trace_failure : List Line → Outcome → Option Pair
trace_failure [] o = None
trace_failure (line ∷ lines) o = difference (line ∷ lines) (map (λ e. spelled (event_text e)) o.events)

abbrev pub outcome_failure : List Ty → RunTest → Outcome → Option Pair
outcome_failure types test o = elim (end_failure types test.call.wanted o.end) [
  | Some failure ↦ Some failure
  | None ↦ trace_failure test.trace o
]

-- the failure of the run of a function of the module
abbrev pub run_failure : Module → Function → RunTest → Option Pair
run_failure m f test =
    and_then (values_for (param_types f.sig.params) test.call.numbers) (λ args.
    outcome_failure (param_types f.sig.results) test (outcome m f.name args
    (record { memory = replicate memory_size 0; replies = test.script; events = [] }) step_bound))
