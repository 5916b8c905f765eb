-- Tests of the lines of a text.
use Rattle.std.specs.Prelude.{ℕ, nat_eq, ◌==◌, Bool, ◌||◌, if◌then◌else◌, List, [], ◌∷◌, ◌++◌}
use Rattle.std.specs.Prelude.{codes, Option, Some, None}
use Rattle.std.specs.List.{starts_with}
use Rattle.std.specs.Str.{bytes_eq}
use Rattle.clif_lex.specs.Bytes.{line_feed}
use Rattle.test_directives.specs.Directives.{LineTest, Check, Nextln, Not}
use Rattle.test_directives.specs.Tests.{or_else}

-- what a failed check expected, and what it got
pub record Pair : Type 0 where
  pub expected : List ℕ
  pub got : List ℕ

abbrev pub Line : Type 0
Line = List ℕ

-- what stands for a line behind the last one
abbrev pub end : Line
end = codes "(end)"

abbrev pub pair : Line → Line → Pair
pair expected got = record { expected = expected; got = got }

-- whether the text stands somewhere in the line
abbrev pub contains : (text line : Line) → Bool
contains text [] = starts_with nat_eq [] text
contains text (c ∷ cs) = starts_with nat_eq (c ∷ cs) text || contains text cs

-- the lines before the first that contains the text, and those behind it
abbrev pub line_with : Line → List Line → Option (List Line × List Line)
line_with text [] = None
line_with text (l ∷ ls) =
    if contains text l then Some ([], ls)
    else elim (line_with text ls) [ None ↦ None | Some parts ↦ Some (l ∷ parts.0, parts.1) ]

-- the same where it is the very next line
abbrev pub next_line_with : Line → List Line → Option (List Line × List Line)
next_line_with text [] = None
next_line_with text (l ∷ ls) = if contains text l then Some ([], ls) else None

abbrev pub first_or_end : List Line → Line
first_or_end [] = end
first_or_end (l ∷ ls) = l

-- the first of the lines that contains the text
abbrev pub found : Line → List Line → Option Pair
found text [] = None
found text (l ∷ ls) = if contains text l then Some (pair text l) else found text ls

-- the failure of the first of the `not:` texts that a line of the range contains
abbrev pub found_any : List Line → List Line → Option Pair
found_any [] range = None
found_any (text ∷ texts) range = or_else (found text range) (found_any texts range)

-- The failure of the first test that fails. `nots` are the texts of `not:` since the last taken line, and `left` the
-- lines behind that one. The range of a `not:` goes up to the line that the next `check:` or `nextln:` takes, or to the
-- end where that takes none, and is judged first.
abbrev pub failure : (nots left : List Line) → List LineTest → Option Pair
failure nots left [] = found_any nots left
failure nots left (Not text ∷ ts) = failure (nots ++ text ∷ []) left ts
failure nots left (Check text ∷ ts) = elim (line_with text left) [
  | None ↦ or_else (found_any nots left) (Some (pair text end))
  | Some parts ↦ or_else (found_any nots parts.0) (failure [] parts.1 ts)
]
failure nots left (Nextln text ∷ ts) = elim (next_line_with text left) [
  | None ↦ or_else (found_any nots left) (Some (pair text (first_or_end left)))
  | Some parts ↦ or_else (found_any nots parts.0) (failure [] parts.1 ts)
]

-- the first lines that differ, `(end)` where one is missing
abbrev pub difference : (expected got : List Line) → Option Pair
difference [] [] = None
difference [] (l ∷ ls) = Some (pair end l)
difference (l ∷ ls) [] = Some (pair l end)
difference (l ∷ ls) (m ∷ ms) = if bytes_eq l m then difference ls ms else Some (pair l m)

-- the lines of a text each line of which has a line end
abbrev pub lines_after : (line : Line) → List ℕ → List Line
lines_after line [] = []
lines_after line (c ∷ cs) =
    if c == line_feed then line ∷ lines_after [] cs else lines_after (line ++ c ∷ []) cs

abbrev pub split_lines : List ℕ → List Line
split_lines text = lines_after [] text
