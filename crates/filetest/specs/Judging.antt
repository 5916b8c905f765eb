-- What a `check:` or `nextln:` comes to.
use Rattle.std.specs.Prelude.{◌≡◌, suc, ◌<◌, List, [], ◌∷◌, length, drop, Some}
use Rattle.test_directives.specs.Directives.{LineTest}
use Rattle.filetest.specs.declared.line_checks.Judgement.{Judgement}
use Rattle.filetest.specs.declared.line_checks.Judgement.TheVariants.{Takes, Fails}
use Rattle.filetest.specs.LineTests.{Line, failure}
use Rattle.filetest.specs.Views.{pair_of}

-- it takes this line, and the tests behind it go on behind that; or this is the failure
abbrev pub IsJudged : (nots : List Line) → LineTest → (left : List Line) → Judgement → Type 0
IsJudged nots test left (Takes at) =
    (at < length left)
    × ((tests : List LineTest) → failure nots left (test ∷ tests) ≡ failure [] (drop (suc at) left) tests)
IsJudged nots test left (Fails pair) =
    (tests : List LineTest) → failure nots left (test ∷ tests) ≡ Some (pair_of pair)
