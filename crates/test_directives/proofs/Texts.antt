-- What a text is by the grammar of scripts, by the answer of reading it.
use Rattle.std.proofs.Common.{◌≡◌, ℕ, ◌+◌, ◌-◌, ◌==◌, Bool, true, false, not, ◌&&◌, List, [], ◌∷◌, ◌++◌, length, take, Option, Some, None, Result, Ok, Err, refl, sym, ap, subst, ◌∙◌, inl, inr}
use Rattle.std.specs.List.{list_all}
use Rattle.std.specs.Str.{IsUtf8}
use Rattle.std.proofs.lemmas.List.Folds.{list_all-append}
use Rattle.std.proofs.lemmas.Str.{IsUtf8-from_ascii}
use Rattle.std.proofs.lemmas.Bool.{and_parts, and_from}
use Rattle.grammar.specs.Rules.{Lexeme, Kind, Rule, Empty, Tok, Seq, Alt, Opt, Many, Refuse, Chain, Tree, Derives, Each, Answers, good, read_all}
use Rattle.grammar.proofs.Exact.{exact}
use Rattle.grammar.proofs.OneStop.{not_derived, no_further}
use Rattle.clif_lex.specs.declared.spans.Token.{Token}
use Rattle.clif_lex.specs.declared.spans.TokenKind.{TokenKind}
use Rattle.clif_lex.specs.declared.spans.TokenKind.TheVariants.{Header, Comment, Name, Word, Number, Srcloc, Arrow, Mark}
use Rattle.clif_lex.specs.declared.faults.LexErr.{LexErr}
use Rattle.clif_lex.specs.declared.faults.LexErr.TheVariants.{BadChar, BadNumber, NoMemory}
use Rattle.clif_lex.specs.Lexing.{tokens_of}
use Rattle.clif_lex.specs.Spelling.{IsReading}
use Rattle.clif_lex.proofs.Readings.{reading, never_want}
use Rattle.script_text.specs.Examples.{answer}
use Rattle.script_text.specs.Lexed.{lexed, lexed_by, symbols_before, symbols, or_none}
use Rattle.script_text.specs.Symbols.{lexeme, plain}
use Rattle.script_text.specs.declared.terminal.Terminal.TheVariants.{Other}
use Rattle.script_text.specs.Scripts.{Reads, StopsIn}
use Rattle.test_directives.proofs.Ascii.{is_of_script, divided_small, small_is_ascii}

-- ---- what is read, and what is refused

derived : (r : Rule) → good r ≡ true → (ts : List Lexeme) (v : Tree r) → Derives r ts v → read_all r ts ≡ Ok v
derived r g ts v d = go (read_all r ts) (exact r g ts)
  where
    go : (o : Result (Tree r) (Kind × List Lexeme)) → Answers r ts o → o ≡ Ok v
    go (Ok w) a = ap (λ z. Ok z) (sym (a.1 v d))
    go (Err e) (us, rest, cut, (same, begins, stop)) = absurd (not_derived r us rest (no_further r us rest e.0 stop) v (subst (λ l. Derives r l v) cut d))

-- what a text is, or nothing
abbrev pub value_if : {A : Type 0} → Result A ℕ → Option A
value_if (Ok x) = Some x
value_if (Err spot) = None

abbrev answered : {A : Type 0} (r : Rule) → (Tree r → A) → Result (Tree r) (Kind × List Lexeme) → Option A
answered r f (Ok v) = Some (f v)
answered r f (Err e) = None

seen : {A : Type 0} (r : Rule) (f : Tree r → A) (text : List ℕ) → value_if (answer r f text) ≡ answered r f (read_all r (lexed text))
seen {A} r f text = go (read_all r (lexed text))
  where
    go : (o : Result (Tree r) (Kind × List Lexeme)) → value_if {A = A} (elim o as (λ p. Result A ℕ) [ Ok v ↦ Ok (f v) | Err stop ↦ Err (Rattle.token_reader.specs.Next.spot_or (length text) stop.1) ]) ≡ answered r f o
    go (Ok v) = refl
    go (Err e) = refl

pub read_is : {A : Type 0} (r : Rule) (f : Tree r → A) → good r ≡ true → (text : List ℕ) (x : A) → Reads r f text x → value_if (answer r f text) ≡ Some x
read_is r f g text x (v, d, e, only) = seen r f text ∙ (ap (answered r f) (derived r g (lexed text) v d) ∙ ap (λ z. Some z) (sym e))

-- where the text is none of the rule, there is no value
none_if : {A : Type 0} (r : Rule) (f : Tree r → A) → good r ≡ true → (text : List ℕ) → ((v : Tree r) → Derives r (lexed text) v → ⊥) → value_if (answer r f text) ≡ None
none_if r f g text none = seen r f text ∙ go (read_all r (lexed text)) (exact r g (lexed text))
  where
    go : (o : Result (Tree r) (Kind × List Lexeme)) → Answers r (lexed text) o → answered r f o ≡ None
    go (Ok w) a = absurd (none w a.0)
    go (Err e) a = refl

pub refused_is : {A : Type 0} (r : Rule) (f : Tree r → A) → good r ≡ true → (text : List ℕ) (spot : ℕ) → StopsIn r text spot → value_if (answer r f text) ≡ None
refused_is r f g text spot (us, rest, cut, (begins, stop, at)) = none_if r f g text (λ v d. not_derived r us rest stop v (subst (λ l. Derives r l v) cut d))

-- ---- bytes

-- no token of the rule has this class
abbrev pub lacks : ℕ → Rule → Bool
lacks n Empty = true
lacks n (Tok c) = not (c == n)
lacks n (Seq a b) = lacks n a && lacks n b
lacks n (Alt a b) = lacks n a && lacks n b
lacks n (Opt a) = lacks n a
lacks n (Many a) = lacks n a
lacks n (Refuse cs k) = true
lacks n (Chain c a b) = false

abbrev free : ℕ → List Lexeme → Bool
free n ts = list_all (λ x. not (x.class == n)) ts

joined : (n : ℕ) (ts us vs : List Lexeme) → ts ≡ us ++ vs → free n us ≡ true → free n vs ≡ true → free n ts ≡ true
joined n ts us vs cut a b = ap (free n) cut ∙ (list_all-append (λ x. not (x.class == n)) us vs ∙ and_from (free n us) (free n vs) a b)

each_free : (n : ℕ) (a : Rule) → ((ts : List Lexeme) (v : Tree a) → Derives a ts v → free n ts ≡ true) → (ts : List Lexeme) (vs : List (Tree a)) → Each (Derives a) ts vs → free n ts ≡ true
each_free n a one ts [] e = ap (free n) e
each_free n a one ts (v ∷ vs) (us, ws, cut, (d, more)) = joined n ts us ws cut (one us v d) (each_free n a one ws vs more)

derives_free : (n : ℕ) (r : Rule) → lacks n r ≡ true → (ts : List Lexeme) (v : Tree r) → Derives r ts v → free n ts ≡ true
derives_free n Empty l ts v d = ap (free n) d
derives_free n (Tok c) l ts x d = ap (free n) d.0 ∙ and_from (not (x.class == n)) true (ap (λ (k : ℕ). not (k == n)) d.1 ∙ l) refl
derives_free n (Seq a b) l ts v (us, ws, cut, (d, e)) =
    let h = and_parts (lacks n a) (lacks n b) l in
    joined n ts us ws cut (derives_free n a h.0 us v.0 d) (derives_free n b h.1 ws v.1 e)
derives_free n (Alt a b) l ts (inl v) d = derives_free n a (and_parts (lacks n a) (lacks n b) l).0 ts v d
derives_free n (Alt a b) l ts (inr v) d = derives_free n b (and_parts (lacks n a) (lacks n b) l).1 ts v d
derives_free n (Opt a) l ts None d = ap (free n) d
derives_free n (Opt a) l ts (Some v) d = derives_free n a l ts v d
derives_free n (Many a) l ts vs d = each_free n a (derives_free n a l) ts vs d
derives_free n (Refuse cs k) l ts v d = absurd d
derives_free n (Chain c a b) l ts v d = absurd cc

kind_is : (text : List ℕ) (t : Token) → not ((lexeme text t).class == 15) ≡ true → is_of_script t.kind ≡ true
kind_is text t h = go t.kind h
  where
    go : (kind : TokenKind) → not ((Rattle.script_text.specs.Symbols.of_kind kind (Rattle.clif_lex.specs.Spans.spelling text t) t.start).class == 15) ≡ true → is_of_script kind ≡ true
    go Word e = refl
    go Number e = refl
    go (Mark c) e = refl
    go Header e = absurd cc
    go Comment e = absurd cc
    go Name e = absurd cc
    go Srcloc e = absurd cc
    go Arrow e = absurd cc

kinds_are : (text : List ℕ) (ts : List Token) → free 15 (symbols text ts) ≡ true → list_all (λ t. is_of_script t.kind) ts ≡ true
kinds_are text [] h = refl
kinds_are text (t ∷ ts) h =
    let b = and_parts (not ((lexeme text t).class == 15)) (free 15 (symbols text ts)) h in
    and_from (is_of_script t.kind) (list_all (λ u. is_of_script u.kind) ts) (kind_is text t b.0) (kinds_are text ts b.1)

cut_short : (text : List ℕ) (spot : ℕ) → free 15 (symbols_before text spot) ≡ true → ⊥
cut_short text spot h =
    let front = symbols (take spot text) (or_none (tokens_of (take spot text))) in
    let parts : (free 15 front && free 15 (plain Other spot ∷ [])) ≡ true = sym (list_all-append (λ x. not (x.class == 15)) front (plain Other spot ∷ [])) ∙ h in
    let last : false ≡ true = (and_parts (free 15 front) false parts).1 in
    absurd cc

lexed_small : (text : List ℕ) (o : Result (List Token) LexErr) → tokens_of text ≡ o → IsReading text o → free 15 (lexed_by text o) ≡ true → IsUtf8 text
lexed_small text (Ok ts) e is h = IsUtf8-from_ascii text (small_is_ascii text (divided_small true 0 text ts is (kinds_are text ts h)))
lexed_small text (Err (BadChar spot)) e is h = absurd (cut_short text spot h)
lexed_small text (Err (BadNumber spot)) e is h = absurd (cut_short text spot h)
lexed_small text (Err NoMemory) e is h = absurd (never_want text e)

is_text : (text : List ℕ) → free 15 (lexed text) ≡ true → IsUtf8 text
unfolding lexed
is_text text h = lexed_small text (tokens_of text) refl (reading text) h

pub no_text : {A : Type 0} (r : Rule) (f : Tree r → A) → good r ≡ true → lacks 15 r ≡ true → (text : List ℕ) → (IsUtf8 text → ⊥) → value_if (answer r f text) ≡ None
no_text r f g l text not_text = none_if r f g text (λ v d. not_text (is_text text (derives_free 15 r l (lexed text) v d)))
