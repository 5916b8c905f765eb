-- Comments by their places in the text, and the lines of places.
use Rattle.std.specs.Prelude.{◌≡◌, ◌==◌, ℕ, ◌+◌, ◌≤◌, ⊤, nat_lt, nat_le, ◌&&◌, List, [], ◌∷◌, length, count_by}
use Rattle.std.specs.List.{filter, prefix_len}
use Rattle.clif_lex.specs.Bytes.{line_feed}
use Rattle.clif_lex.specs.Places.{line_at}
use Rattle.clif_read.specs.declared.raw.RawFunction.{RawFunction}
use Rattle.test_directives.specs.declared.places.PlacedComment.{PlacedComment}
use Rattle.test_directives.specs.Tests.{Placed}

-- ---- lines

-- a text, and the byte before which its lines were counted
pub record Counted : Type 0 where
  pub text : List ℕ
  pub at : ℕ

abbrev pub counted : List ℕ → ℕ → Counted
counted text at = record { text = text; at = at }

abbrev pub line_feeds : List ℕ → ℕ
line_feeds bytes = count_by (λ c. c == line_feed) bytes

-- the line of a byte of a text whose lines can be counted in 32 bits
pub record IsLine (text : List ℕ) (at line : ℕ) : Type 0 where
  pub short : length text ≤ 4294967294
  pub within : at ≤ length text
  pub counted : line ≡ line_at text at

-- ---- comments

abbrev pub placed_of : PlacedComment → Placed
placed_of c = record { spot = c.spot; line = c.line; text = c.text.now }

abbrev pub between : List Placed → (from until : ℕ) → List Placed
between cs from until = filter (λ c. nat_lt from c.spot && nat_lt c.spot until) cs

-- how many stand up to a spot, and how many before it, from the front on
abbrev pub up_to : ℕ → List Placed → ℕ
up_to spot cs = prefix_len (λ c. nat_le c.spot spot) cs

abbrev pub before : ℕ → List Placed → ℕ
before spot cs = prefix_len (λ c. nat_lt c.spot spot) cs

-- the second list has all comments of the first that stand behind a spot
abbrev pub LeavesBehind : ℕ → (cs rest : List Placed) → Type 0
LeavesBehind spot cs rest = (from until : ℕ) → spot ≤ from → between cs from until ≡ between rest from until

abbrev pub InOrderFrom : ℕ → List Placed → Type 0
InOrderFrom from [] = ⊤
InOrderFrom from (c ∷ cs) = (from ≤ c.spot) × InOrderFrom c.spot cs

-- in the order of their spots
abbrev pub InOrder : List Placed → Type 0
InOrder cs = InOrderFrom 0 cs

-- ---- functions

-- functions in the order of their spots, from a place of the text on
abbrev pub AreAscending : List ℕ → ℕ → List RawFunction → Type 0
AreAscending text from [] = from ≤ length text
AreAscending text from (f ∷ fs) = (from ≤ f.spot) × AreAscending text (f.spot + 1) fs
