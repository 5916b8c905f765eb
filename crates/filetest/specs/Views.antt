-- What the code keeps, as the definitions see it.
use Rattle.std.specs.Prelude.{ℕ, List, map, Option, option_map}
use denote.Ref.{Bor}
use Rattle.test_directives.specs.declared.directives.LineTest.{LineTest}
use Rattle.filetest.specs.declared.report.Pair.{Pair}
use Rattle.filetest.specs.LineTests as lines

abbrev pub pair_of : Pair → lines.Pair
pair_of p = record { expected = p.expected.items; got = p.got.items }

abbrev pub failure_of : Option Pair → Option lines.Pair
failure_of p = option_map pair_of p

abbrev pub seen_lines : List (Bor (List ℕ)) → List (List ℕ)
seen_lines lines = map (λ l. l.now) lines

abbrev pub texts_of : List LineTest → List (List ℕ)
texts_of tests = map (λ t. t.text) tests
