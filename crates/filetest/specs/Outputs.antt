-- Checks of texts, by the texts of the functions in order.
use Rattle.std.specs.Prelude.{ℕ, ◌==◌, if◌then◌else◌, List, [], ◌∷◌, ◌++◌, length}
use Rattle.test_directives.specs.Tests.{FunctionTests}
use Rattle.filetest.specs.LineTests.{failure, difference, split_lines}
use Rattle.filetest.specs.Report.{Check}
use Rattle.filetest.specs.Checks.{check_of, output_lines}

abbrev pub line_check_of : List ℕ → FunctionTests → List Check
line_check_of text t = if length t.lines == 0 then [] else check_of t (failure [] (split_lines text) t.lines) ∷ []

abbrev pub line_checks : List (List ℕ) → List FunctionTests → List Check
line_checks (text ∷ texts) (t ∷ ts) = line_check_of text t ++ line_checks texts ts
line_checks [] ts = []
line_checks (text ∷ texts) [] = []

abbrev pub output_check_of : ℕ → List ℕ → FunctionTests → Check
output_check_of sites text t = check_of t (difference t.expected (output_lines sites t.name text))

abbrev pub output_checks : List ℕ → List (List ℕ) → List FunctionTests → List Check
output_checks (n ∷ ns) (text ∷ texts) (t ∷ ts) = output_check_of n text t ∷ output_checks ns texts ts
output_checks [] texts ts = []
output_checks (n ∷ ns) [] ts = []
output_checks (n ∷ ns) (text ∷ texts) [] = []
