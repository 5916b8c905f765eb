-- A token of the class that is looked for is read, and no other.
use Rattle.std.proofs.Common.{◌≡◌, ℕ, Bool, true, false, ◌==◌, ◌||◌, List, [], ◌∷◌, drop, Ok, Err, refl, sym, ◌∙◌}
use Rattle.grammar.specs.Rules.{Lexeme, Syntax}
use Rattle.clif_words.specs.declared.class.Class.{Class}
use Rattle.token_reader.specs.declared.raw.RawName.{RawName}
use Rattle.token_reader.specs.declared.raw.RawNumber.{RawNumber}
use Rattle.clif_words.specs.Classes.{code}
use Rattle.ir_core.proofs.Equal.{number_flip}
use Rattle.token_reader.specs.Reading.{next_is, name, name_at, amount, amount_at}

pub or_false : (b : Bool) → (b || false) ≡ b
or_false true = refl
or_false false = refl

pub same_class : (class : Class) (x : Lexeme) (xs : List Lexeme) → next_is class (x ∷ xs) ≡ (x.class == code class)
same_class class x xs = or_false (code class == x.class) ∙ number_flip (code class) x.class

pub takes_name : (class : Class) (ts : List Lexeme) → next_is class ts ≡ true → (n : RawName) (after : List Lexeme) → ((x : Lexeme) (xs : List Lexeme) → ts ≡ x ∷ xs → n ≡ name x) → after ≡ drop 1 ts
    → name_at class ts ≡ Ok (n, after)
unfolding name_at
takes_name class [] h n after front rest = absurd cc
takes_name class (x ∷ xs) h n after front rest =
    let same : (x.class == code class) ≡ true = sym (same_class class x xs) ∙ h in
    rw (same, front x xs refl, rest) refl

pub misses_name : (class : Class) (ts : List Lexeme) → next_is class ts ≡ false → name_at class ts ≡ Err (Syntax, ts)
unfolding name_at
misses_name class [] h = refl
misses_name class (x ∷ xs) h =
    let same : (x.class == code class) ≡ false = sym (same_class class x xs) ∙ h in
    rw same refl

pub takes_amount : (class : Class) (ts : List Lexeme) → next_is class ts ≡ true → (n : RawNumber) (after : List Lexeme) → ((x : Lexeme) (xs : List Lexeme) → ts ≡ x ∷ xs → n ≡ amount x) → after ≡ drop 1 ts
    → amount_at class ts ≡ Ok (n, after)
unfolding amount_at
takes_amount class [] h n after front rest = absurd cc
takes_amount class (x ∷ xs) h n after front rest =
    let same : (x.class == code class) ≡ true = sym (same_class class x xs) ∙ h in
    rw (same, front x xs refl, rest) refl

pub misses_amount : (class : Class) (ts : List Lexeme) → next_is class ts ≡ false → amount_at class ts ≡ Err (Syntax, ts)
unfolding amount_at
misses_amount class [] h = refl
misses_amount class (x ∷ xs) h =
    let same : (x.class == code class) ≡ false = sym (same_class class x xs) ∙ h in
    rw same refl
