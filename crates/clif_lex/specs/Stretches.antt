-- A text is read in stretches: the tokens of a stretch, where a text may be cut into stretches, and where the next
-- stretch may begin.
use Rattle.std.specs.Prelude.{◌≡◌, ℕ, ◌-◌, ◌<◌, ◌≤◌, ◌⊎◌, Bool, true, ◌&&◌, nat_eq, List, ◌++◌, length, take, drop}
use Rattle.std.specs.Prelude.{slice_index, Result, Ok}
use Rattle.std.specs.List.{list_all, starts_with}
use Rattle.clif_lex.specs.declared.spans.Token.{Token}
use Rattle.clif_lex.specs.declared.faults.LexErr.{LexErr}
use Rattle.clif_lex.specs.Bytes.{line_feed}
use Rattle.clif_lex.specs.Lexing.{◌>>=◌, is_preamble, tokens_from}

-- whether a Header may still stand behind these tokens
abbrev pub preamble_after : Bool → List Token → Bool
preamble_after preamble ts = preamble && list_all (λ t. is_preamble t.kind) ts

-- The tokens from one place of a text up to another, as if the text ended there; or the first fault between them.
-- Their spans are places in the whole text.
abbrev pub stretch_tokens : List ℕ → Bool → ℕ → ℕ → Result (List Token) LexErr
stretch_tokens text preamble from until = tokens_from preamble 0 from (drop from (take until text))

-- the tokens of a stretch, and behind them those of the next one; or the first fault of either
abbrev pub two_stretches : List ℕ → Bool → ℕ → ℕ → ℕ → Result (List Token) LexErr
two_stretches text preamble from between until =
    stretch_tokens text preamble from between >>= λ ts. stretch_tokens text (preamble_after preamble ts) between until
    >>= λ us. Ok (ts ++ us)

-- these are the tokens of a stretch
pub record IsStretch (text : List ℕ) (preamble : Bool) (from until : ℕ) (ts : List Token) : Type 0 where
  pub ordered : from ≤ until
  pub within : until ≤ length text
  pub lexed : stretch_tokens text preamble from until ≡ Ok ts

-- a line begins at a place: at the front, and behind a line feed
abbrev pub IsLineStart : List ℕ → ℕ → Type 0
IsLineStart text at = (at ≡ 0) ⊎ ((0 < at) × (slice_index text (at - 1) ≡ line_feed))

-- a text may be cut at a place in it where a line begins, and at its end
abbrev pub IsCut : List ℕ → ℕ → Type 0
IsCut text at = (at ≤ length text) × ((at ≡ length text) ⊎ IsLineStart text at)

-- a line begins at a place with these bytes
abbrev pub IsLineWith : List ℕ → List ℕ → ℕ → Type 0
IsLineWith word text at = IsLineStart text at × (starts_with nat_eq (drop at text) word ≡ true)
