-- The terminals of joined lists of tokens.
use Rattle.std.proofs.Common.{◌≡◌, ℕ, cond, true, false, List, [], ◌∷◌, ◌++◌, refl, ap}
use Rattle.grammar.specs.Rules.{Lexeme}
use Rattle.clif_lex.specs.declared.spans.Token.{Token}
use Rattle.clif_words.specs.Lexemes.{lexeme, lexemes, is_comment}

pub lexemes-append : (text : List ℕ) (ts us : List Token) → lexemes text (ts ++ us) ≡ lexemes text ts ++ lexemes text us
unfolding lexemes
lexemes-append text [] us = refl
lexemes-append text (t ∷ ts) us =
    let more = lexemes-append text ts us in
    elim (is_comment t.kind) as (λ b. cond b (lexemes text (ts ++ us)) (lexeme text t ∷ lexemes text (ts ++ us)) ≡ cond b (lexemes text ts) (lexeme text t ∷ lexemes text ts) ++ lexemes text us) [
      | true ↦ more
      | false ↦ ap (λ (xs : List Lexeme). lexeme text t ∷ xs) more
    ]
