-- The line of an expected end.
use Rattle.std.specs.Prelude.{ℕ, List, Option, Some}
use Rattle.ir_core.specs.declared.signatures.Ty.{Ty}
use Rattle.ir_core.specs.Lookup.{and_then}
use Rattle.test_directives.specs.Directives.{Expectation}
use Rattle.filetest.specs.Ends.{expected_end, end_line}

-- none where numbers do not fit the types
abbrev pub expected_line : List Ty → Expectation → Option (List ℕ)
expected_line types e = and_then (expected_end types e) (λ wanted. Some (end_line wanted))
