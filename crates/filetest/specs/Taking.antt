-- The line that a test takes.
use Rattle.std.specs.Prelude.{◌≡◌, ℕ, suc, ◌<◌, Bool, true, false, List, [], length, take, drop, get_or}
use Rattle.std.specs.Prelude.{Option, Some, None}
use Rattle.test_directives.specs.Directives.{LineTest, Check, Nextln, Not}
use Rattle.filetest.specs.LineTests.{Line, contains, line_with, next_line_with, first_or_end, end}

abbrev pub is_not : LineTest → Bool
is_not (Not text) = true
is_not (Check text) = false
is_not (Nextln text) = false

abbrev pub text_of : LineTest → Line
text_of (Check text) = text
text_of (Nextln text) = text
text_of (Not text) = text

-- no line of the first n contains the text
abbrev pub NoneHas : Line → List Line → ℕ → Type 0
NoneHas text lines n = (k : ℕ) → k < n → contains text (get_or lines k []) ≡ false

-- the place of the first line that contains the text
abbrev pub IsPlaceWith : Line → List Line → Option ℕ → Type 0
IsPlaceWith text lines None = NoneHas text lines (length lines)
IsPlaceWith text lines (Some i) =
    (i < length lines) × (contains text (get_or lines i []) ≡ true) × NoneHas text lines i

-- the lines before a place, and those behind it
abbrev pub parts_at : List Line → ℕ → List Line × List Line
parts_at lines i = (take i lines, drop (suc i) lines)

-- the lines before the one that a `check:` or `nextln:` takes, and those behind it
abbrev pub taken : LineTest → List Line → Option (List Line × List Line)
taken (Check text) left = line_with text left
taken (Nextln text) left = next_line_with text left
taken (Not text) left = None

abbrev pub IsTaken : LineTest → List Line → Option ℕ → Type 0
IsTaken test left None = taken test left ≡ None
IsTaken test left (Some i) = (i < length left) × (taken test left ≡ Some (parts_at left i))

-- what stands in place of the line that is not found
abbrev pub line_looked_at : LineTest → List Line → Line
line_looked_at (Check text) left = end
line_looked_at (Nextln text) left = first_or_end left
line_looked_at (Not text) left = end
