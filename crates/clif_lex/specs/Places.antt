-- Where a byte of a text stands for a reader: its line, and its column in bytes, both counted from 1.
use Rattle.std.specs.Prelude.{ℕ, ◌+◌, ◌==◌, List, take, count_by}
use Rattle.std.specs.List.{suffix_len}
use Rattle.clif_lex.specs.Bytes.{line_feed, is_no_line_feed}

-- the line feeds that stand before it, and one more
abbrev pub line_at : List ℕ → ℕ → ℕ
line_at text spot = 1 + count_by (λ c. c == line_feed) (take spot text)

-- the bytes between the last of those line feeds and it, and one more
abbrev pub column_at : List ℕ → ℕ → ℕ
column_at text spot = 1 + suffix_len is_no_line_feed (take spot text)
