-- Worked tests of lines, and lines of a report.
use Rattle.std.specs.Prelude.{◌≡◌, List, [], ◌∷◌, Some, None, codes}
use Rattle.test_directives.specs.Commands.{Cat}
use Rattle.test_directives.specs.Directives.{Check, Nextln, Not}
use Rattle.filetest.specs.LineTests.{Line, pair, end, failure, difference, split_lines}
use Rattle.filetest.specs.Report.{check_text, last_line}

-- two blocks
abbrev pub blocks : List Line
blocks = codes "block0:" ∷ codes "    jump block1" ∷ [] ∷ codes "block1:" ∷ codes "    return" ∷ []

pub record WorkedLines : Type 0 where
  pub lines : split_lines (codes "a\n\nb\n") ≡ codes "a" ∷ [] ∷ codes "b" ∷ []
  pub next_is_empty : failure [] blocks (Check (codes "jump") ∷ Nextln (codes "block1") ∷ [])
      ≡ Some (pair (codes "block1") [])
  pub in_order : failure [] blocks (Check (codes "jump") ∷ Check (codes "block1") ∷ Nextln (codes "return") ∷ []) ≡ None
  -- the line that a check takes is behind it
  pub taken : failure [] blocks (Check (codes "jump") ∷ Check (codes "jump") ∷ []) ≡ Some (pair (codes "jump") end)
  pub past_the_end : failure [] blocks (Check (codes "return") ∷ Nextln (codes "block") ∷ [])
      ≡ Some (pair (codes "block") end)
  pub not_before : failure [] blocks (Not (codes "return") ∷ Check (codes "block1:") ∷ []) ≡ None
  pub not_to_the_end : failure [] blocks (Check (codes "jump") ∷ Not (codes "block1") ∷ [])
      ≡ Some (pair (codes "block1") (codes "block1:"))
  -- where the check takes no line, the range goes to the end, and the `not:` is judged first
  pub not_first : failure [] blocks (Not (codes "return") ∷ Check (codes "trap") ∷ [])
      ≡ Some (pair (codes "return") (codes "    return"))
  pub missing : difference (codes "a" ∷ []) [] ≡ Some (pair (codes "a") end)

pub record WorkedReports : Type 0 where
  pub passes : check_text Cat (record { name = codes "%f"; line = 12; failure = None }) ≡ codes "pass cat %f line 12\n"
  pub fails : check_text Cat (record { name = codes "u0:1"; line = 2; failure = Some (pair (codes "x") []) })
      ≡ codes "fail cat u0:1 line 2\n  expected x\n  got \n"
  pub last : last_line 1 2 3 ≡ codes "1 passed, 2 failed, 3 skipped\n"
