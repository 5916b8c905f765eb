-- What a reader keeps of its next token.
use Rattle.std.specs.Prelude.{◌≡◌, ℕ, false, List, [], ◌∷◌}
use Rattle.clif_lex.specs.declared.spans.Token.{Token}
use Rattle.clif_words.specs.Lexemes.{is_comment, meaning}
use Rattle.clif_words.specs.Seen.{seen}
use Rattle.token_reader.specs.declared.reader.Next.{Next}

-- what is kept is of this token
abbrev pub IsOf : List ℕ → Token → Next → Type 0
IsOf text token next =
    (meaning text token ≡ seen next.terminal) × (next.class ≡ (seen next.terminal).class) × (token.start ≡ next.spot)

-- The tokens from here on begin with one that is no comment, and what is kept is of it; or there are none.
abbrev pub Shows : List ℕ → List Token → Next → Type 0
Shows text [] next = Unit {0}
Shows text (t ∷ ts) next = (is_comment t.kind ≡ false) × IsOf text t next
