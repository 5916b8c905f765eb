-- The tokens of a text become symbols one by one.
use Rattle.std.proofs.Common.{◌≡◌, ℕ, ◌+◌, List, [], ◌∷◌, ◌++◌, map, take, Some, slice_get, refl}
use mathlib.Core.List.{map-append}
use Rattle.std.proofs.lemmas.List.{take_more}
use Rattle.std.proofs.lemmas.Option.{slice_get_within, get_or_from_slice_get}
use Rattle.clif_lex.specs.declared.spans.Token.{Token}
use Rattle.script_text.specs.declared.symbol.Symbol.{Symbol}
use Rattle.script_text.specs.Symbols.{lexeme, lexeme_of}

pub one_more : (text : List ℕ) (ts : List Token) (i : ℕ) (t : Token) (xs : List Symbol) (p : Symbol) → slice_get ts i ≡ Some t → lexeme_of p ≡ lexeme text t
    → map lexeme_of xs ≡ map (lexeme text) (take i ts) → map lexeme_of (xs ++ p ∷ []) ≡ map (lexeme text) (take (i + 1) ts)
one_more text ts i t xs p e same before =
    let within = slice_get_within ts i t e in
    rw (take_more ts i t within, get_or_from_slice_get ts i t t e, map-append lexeme_of xs (p ∷ []), map-append (lexeme text) (take i ts) (t ∷ []), before, same) refl
