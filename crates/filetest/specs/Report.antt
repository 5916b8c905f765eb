-- The text of a report: how checks are told of.
use Rattle.std.specs.Prelude.{ℕ, Bool, not, List, [], ◌∷◌, ◌++◌, length, codes, decimal, Option, Some, None, is_some}
use Rattle.std.specs.List.{filter}
use Rattle.test_directives.specs.Commands.{Command, word_of}
use Rattle.filetest.specs.LineTests.{Pair}

-- a check of a command: of the function of this name, at this line, with its failure
pub record Check : Type 0 where
  pub name : List ℕ
  pub line : ℕ
  pub failure : Option Pair

abbrev pub line_end : List ℕ
line_end = 10 ∷ []

-- `inline %f line 4`
abbrev pub check_line : Command → Check → List ℕ
check_line command c = word_of command ++ codes " " ++ c.name ++ codes " line " ++ decimal c.line ++ line_end

-- a line with something in front
abbrev pub labelled : (label line : List ℕ) → List ℕ
labelled label line = label ++ line ++ line_end

abbrev pub failure_text : Pair → List ℕ
failure_text p = labelled (codes "  expected ") p.expected ++ labelled (codes "  got ") p.got

abbrev pub check_text : Command → Check → List ℕ
check_text command c = elim c.failure [
  | None ↦ codes "pass " ++ check_line command c
  | Some p ↦ codes "fail " ++ check_line command c ++ failure_text p
]

-- the line of a command that is not carried out
abbrev pub skip_text : Command → List ℕ
skip_text command = codes "skip " ++ word_of command ++ line_end

abbrev pub has_failed : Check → Bool
has_failed c = is_some c.failure

abbrev pub failed : List Check → ℕ
failed cs = length (filter has_failed cs)

abbrev pub passed : List Check → ℕ
passed cs = length (filter (λ c. not (has_failed c)) cs)

-- `2 passed, 0 failed, 1 skipped`
abbrev pub last_line : (passed failed skipped : ℕ) → List ℕ
last_line p f s =
    decimal p ++ codes " passed, " ++ decimal f ++ codes " failed, " ++ decimal s ++ codes " skipped" ++ line_end
