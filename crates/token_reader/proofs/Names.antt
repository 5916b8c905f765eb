-- What a name spells is read with it.
use Rattle.std.proofs.Common.{◌≡◌, ℕ, true, false, ◌==◌, List, [], ◌∷◌, drop, Some, Ok, Err, slice_get, refl, sym, ap, ◌∙◌}
use Rattle.grammar.specs.Rules.{Lexeme, Syntax, Out, token, ◌>>=◌}
use Rattle.clif_lex.specs.declared.spans.Token.{Token}
use Rattle.clif_lex.specs.Spans.{spelling}
use Rattle.clif_words.specs.declared.class.Class.{Class}
use Rattle.clif_words.specs.Classes.{code}
use Rattle.clif_words.specs.Lexemes.{lexeme, lexemes, is_comment, name_of}
use Rattle.clif_words.specs.Terminals.{one}
use Rattle.token_reader.specs.declared.raw.RawText.{RawText}
use Rattle.token_reader.specs.Reading.{next_is}
use Rattle.token_reader.specs.Names.{text, text_at}
use Rattle.token_reader.specs.Values.{seen}
use Rattle.token_reader.proofs.Seen.{Is}
use Rattle.token_reader.proofs.Takes.{same_class}
use Rattle.token_reader.proofs.Views.{takes}

-- what the next token spells as a name
pub spells_name : (text : List ℕ) (ts : List Token) (i : ℕ) (t : Token) (x : Lexeme) (xs : List Lexeme) → slice_get ts i ≡ Some t → is_comment t.kind ≡ false → lexemes text (drop i ts) ≡ x ∷ xs
    → (name_of t.kind (spelling text t) ≡ x.name) × (t.start ≡ x.spot)
spells_name text ts i t x xs e no_comment whole =
    let front = sym (takes text ts i t e no_comment) ∙ whole in
    let head : lexeme text t ≡ x = cc in
    (ap (λ (z : Lexeme). z.name) head, ap (λ (z : Lexeme). z.spot) head)

pub takes_text : (class : Class) (ts : List Lexeme) → next_is class ts ≡ true → (r : RawText) (after : List Lexeme) → ((x : Lexeme) (xs : List Lexeme) → ts ≡ x ∷ xs → r ≡ text x) → after ≡ drop 1 ts
    → text_at class ts ≡ Ok (r, after)
unfolding text_at
takes_text class [] h r after front rest = absurd cc
takes_text class (x ∷ xs) h r after front rest =
    let same : (x.class == code class) ≡ true = sym (same_class class x xs) ∙ h in
    rw (same, front x xs refl, rest) refl

pub misses_text : (class : Class) (ts : List Lexeme) → next_is class ts ≡ false → text_at class ts ≡ Err (Syntax, ts)
unfolding text_at
misses_text class [] h = refl
misses_text class (x ∷ xs) h =
    let same : (x.class == code class) ≡ false = sym (same_class class x xs) ∙ h in
    rw same refl

pub text_is : (class : Class) → Is (one class) text (text_at class)
unfolding text_at
text_is class = record { same = λ ts. go (token (code class) ts) }
  where
    go : (m : Out Lexeme) → (m >>= λ x. Ok (text x.0, x.1)) ≡ seen text m
    go (Ok x) = refl
    go (Err e) = refl
