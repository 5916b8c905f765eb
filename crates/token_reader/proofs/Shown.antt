-- What a reader keeps of its next token, and the tokens that contracts see.
use Rattle.std.proofs.Common.{◌≡◌, ℕ, ◌<◌, ◌≤◌, Bool, true, false, List, [], ◌∷◌, length, take, drop, nat_lt, Some, None, slice_get, refl, sym, ap, subst, ◌∙◌, arith, length-take}
use Rattle.std.proofs.lemmas.Bool.{ltb-false, ltb-true}
use Rattle.grammar.specs.Rules.{Lexeme, heads_any}
use Rattle.clif_lex.specs.declared.spans.Token.{Token}
use Rattle.clif_words.specs.declared.class.Class.{Class}
use Rattle.clif_words.specs.Classes.{code}
use Rattle.clif_words.specs.Seen.{seen}
use Rattle.clif_words.specs.Lexemes.{lexeme, lexemes, is_comment, Upcoming}
use Rattle.clif_words.specs.Words.{Meaning, means}
use Rattle.token_reader.specs.declared.reader.Next.{Next}
use Rattle.token_reader.specs.Next.{spot_or, Tells}
use Rattle.token_reader.specs.Shown.{IsOf, Shows}
use Rattle.token_reader.proofs.Views.{drop_some, drop_past, some_at, takes}

pub shows_at : (text : List ℕ) (ts : List Token) (i : ℕ) (t : Token) (next : Next) → slice_get ts i ≡ Some t → is_comment t.kind ≡ false → IsOf text t next → Shows text (drop i ts) next
shows_at text ts i t next e no_comment is = rw (drop_some ts i t e) (no_comment, is)

-- the next token is no comment
pub shown_not : (text : List ℕ) (ts : List Token) (i : ℕ) (t : Token) (next : Next) → slice_get ts i ≡ Some t → Shows text (drop i ts) next → is_comment t.kind ≡ false
shown_not text ts i t next e shows = (subst (λ (z : List Token). Shows text z next) (drop_some ts i t e) shows).0

-- whether a token is left
pub left_some : (text : List ℕ) (ts : List Token) (i : ℕ) (next : Next) → Shows text (drop i ts) next → i < length ts → heads_any (lexemes text (drop i ts)) ≡ true
left_some text ts i next shows less =
    let t = some_at ts i less in
    rw (takes text ts i t.0 t.1 (shown_not text ts i t.0 next t.1 shows)) refl

pub left_none : (text : List ℕ) (ts : List Token) (i : ℕ) → length ts ≤ i → heads_any (lexemes text (drop i ts)) ≡ false
unfolding lexemes
left_none text ts i le = rw (drop_past ts i le) refl

pub left_is : (text : List ℕ) (ts : List Token) (i end : ℕ) (next : Next) → end ≤ length ts → Shows text (drop i (take end ts)) next → nat_lt i end ≡ heads_any (lexemes text (drop i (take end ts)))
left_is text ts i end next within shows = go (nat_lt i end) refl
  where
    go : (b : Bool) → nat_lt i end ≡ b → b ≡ heads_any (lexemes text (drop i (take end ts)))
    go true e = sym (left_some text (take end ts) i next shows (let less = ltb-true i end e in let len = length-take end ts in omega arith))
    go false e = sym (left_none text (take end ts) i (let le = ltb-false i end e in let len = length-take end ts in omega arith))

-- what the next token is
pub shown_some : (text : List ℕ) (ts : List Token) (next : Next) → Shows text ts next → heads_any (lexemes text ts) ≡ true → Upcoming text ts (Some (means next.class (seen next.terminal).number))
unfolding lexemes
shown_some text [] next shows left = absurd cc
shown_some text (t ∷ ts) next shows left = (shows.0, ap Some (ap (λ (class : Class). means class (seen next.terminal).number) shows.1.1 ∙ sym shows.1.0))

pub front_shown : (text : List ℕ) (ts : List Token) (next : Next) (x : Lexeme) (xs : List Lexeme) → Shows text ts next → lexemes text ts ≡ x ∷ xs → ((seen next.terminal).number ≡ x.number) × (next.spot ≡ x.spot)
unfolding lexemes
front_shown text [] next x xs shows e = absurd cc
front_shown text (t ∷ ts) next x xs shows e =
    let whole : lexeme text t ∷ lexemes text ts ≡ x ∷ xs = rw (shows.0) at e in
    let head : lexeme text t ≡ x = cc in
    (ap (λ (z : Meaning). z.number) (sym shows.1.0) ∙ ap (λ (z : Lexeme). z.number) head, sym shows.1.2 ∙ ap (λ (z : Lexeme). z.spot) head)

pub spot_shown : (text : List ℕ) (ts : List Token) (next : Next) (end : ℕ) → Shows text ts next → heads_any (lexemes text ts) ≡ true → next.spot ≡ spot_or end (lexemes text ts)
unfolding lexemes
spot_shown text [] next end shows left = absurd cc
spot_shown text (t ∷ ts) next end shows left = rw (shows.0) (sym shows.1.2)

-- what is kept tells what the next token is
pub shown_tells : (text : List ℕ) (ts : List Token) (next : Next) → Shows text ts next → heads_any (lexemes text ts) ≡ true → Tells (Some next.terminal) (lexemes text ts)
unfolding lexemes
shown_tells text [] next shows left = absurd cc
shown_tells text (t ∷ ts) next shows left =
    rw (shows.0) (lexeme text t, lexemes text ts, refl, ap (λ (z : Meaning). code z.class) shows.1.0, ap (λ (z : Meaning). z.number) shows.1.0)

pub tells_none : (ts : List Lexeme) → heads_any ts ≡ false → Tells None ts
tells_none [] left = refl
tells_none (x ∷ xs) left = absurd cc
