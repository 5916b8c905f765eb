-- The tokens of a list before a reader's end.
use Rattle.std.proofs.Common.{◌≡◌, ◌≢◌, ℕ, ◌+◌, ◌-◌, ◌<◌, ◌≤◌, List, [], length, take, drop, slice_range, slice_get, Some, get_or-take, length-take, ap, ◌∙◌, arith}
use Rattle.std.proofs.lemmas.Option.{slice_get_within, slice_get-get_or, get_or_from_slice_get}
use Rattle.std.proofs.lemmas.List.{drop-take}
use Rattle.clif_lex.specs.declared.spans.Token.{Token}
use Rattle.clif_words.specs.Lexemes.{lexemes}
use Rattle.token_reader.proofs.Views.{some_next}

-- a token before the end is left by it
pub some_taken : (ts : List Token) (i end : ℕ) (t : Token) → i < end → slice_get ts i ≡ Some t → slice_get (take end ts) i ≡ Some t
some_taken ts i end t less e =
    let within = slice_get_within ts i t e in
    let len = length-take end ts in
    slice_get-get_or (take end ts) i t (omega arith) ∙ ap Some (get_or-take end ts i t less ∙ get_or_from_slice_get ts i t t e)

-- where a token is left, the next is before the end
pub next_within : (text : List ℕ) (ts : List Token) (i end : ℕ) → lexemes text (drop i (take end ts)) ≢ [] → (i < end) × (i < length ts)
next_within text ts i end left =
    let less = some_next text (take end ts) i left in
    let len = length-take end ts in
    (omega arith, omega arith)

-- what is left from a place on, before the end
pub drop_range : (ts : List Token) (i end : ℕ) → i ≤ end → drop i (take end ts) ≡ slice_range ts i end
drop_range ts i end le =
    let sum : end ≡ i + (end - i) = omega arith in
    ap (λ n. drop i (take n ts)) sum ∙ drop-take i (end - i) ts
