-- How tokens are kept: the tokens of a text of fewer than 2^32 bytes, each with the span of bytes that it takes.
use Rattle.std.specs.Prelude.{ℕ, List, slice_range}
use Rattle.clif_lex.specs.declared.spans.Token.{Token}
use Rattle.clif_lex.specs.declared.spans.Span.{Span}

abbrev pub token_of : Span → Token
token_of span = record { kind = span.kind; start = span.start; end = span.end }

-- the bytes that a token takes
abbrev pub spelling : List ℕ → Token → List ℕ
spelling text token = slice_range text token.start token.end
