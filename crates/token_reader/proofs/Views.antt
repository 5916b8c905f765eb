-- What a reader holds, and the tokens that contracts see.
use Rattle.std.proofs.Common.{◌≡◌, ◌≢◌, ◌||◌, ℕ, ◌+◌, ◌<◌, ◌≤◌, Bool, true, false, ◌==◌, List, [], ◌∷◌, length, drop, Option, Some, None, slice_get, IfSome, refl, sym, ap, subst, ◌∙◌, arith, add-one, drop-cons, length-drop, inl, inr}
use Rattle.std.proofs.lemmas.Option.{slice_get_within, get_or_from_slice_get, slice_get_cases}
use Rattle.grammar.specs.Rules.{Lexeme, heads, member}
use Rattle.clif_lex.specs.declared.spans.Token.{Token}
use Rattle.clif_words.specs.declared.class.Class.{Class}
use Rattle.clif_words.specs.Words.{Meaning}
use Rattle.clif_words.specs.Classes.{code}
use Rattle.clif_words.specs.Lexemes.{lexeme, lexemes, is_comment, is_number, amount_of, meaning, Upcoming}
use Rattle.clif_lex.specs.declared.spans.TokenKind.{TokenKind}
use Rattle.clif_lex.specs.declared.spans.TokenKind.TheVariants as kinds
use Rattle.clif_lex.specs.Spans.{spelling}

pub drop_some : (ts : List Token) (i : ℕ) (t : Token) → slice_get ts i ≡ Some t → drop i ts ≡ t ∷ drop (i + 1) ts
drop_some ts i t e =
    let within = slice_get_within ts i t e in
    let same = get_or_from_slice_get ts i t t e in
    rw (add-one, drop-cons ts i t, same) refl

pub drop_past : (ts : List Token) (i : ℕ) → length ts ≤ i → drop i ts ≡ []
drop_past ts i le = go (drop i ts) (let l = length-drop i ts in omega arith)
  where
    go : (us : List Token) → length us ≡ 0 → us ≡ []
    go [] e = refl
    go (u ∷ us) e = absurd (omega arith)

-- a comment is passed over
pub skips : (text : List ℕ) (ts : List Token) (i : ℕ) (t : Token) → slice_get ts i ≡ Some t → is_comment t.kind ≡ true → lexemes text (drop (i + 1) ts) ≡ lexemes text (drop i ts)
unfolding lexemes
skips text ts i t e comment = rw (drop_some ts i t e, comment) refl

-- any other token is the next
pub takes : (text : List ℕ) (ts : List Token) (i : ℕ) (t : Token) → slice_get ts i ≡ Some t → is_comment t.kind ≡ false → lexemes text (drop i ts) ≡ lexeme text t ∷ lexemes text (drop (i + 1) ts)
unfolding lexemes
takes text ts i t e no_comment = rw (drop_some ts i t e, no_comment) refl

-- the next token's class
pub heads_some : (text : List ℕ) (ts : List Token) (m : Meaning) (class : Class) → Upcoming text ts (Some m) → (code class == code m.class) ≡ heads (code class ∷ []) (lexemes text ts)
unfolding lexemes
heads_some text [] m class up = absurd cc
heads_some text (t ∷ ts) m class up =
    let same : m ≡ meaning text t = (let e = up.1 in cc) in
    rw (up.0, same) (go (code class == code (meaning text t).class))
  where
    go : (b : Bool) → b ≡ (b || false)
    go true = refl
    go false = refl

-- what is said of an element that there is
pub if_some : {A : Type 0} (P : A → Type 0) (o : Option A) (x : A) → o ≡ Some x → IfSome o P → P x
if_some P (Some y) x e h = subst P (let f : y ≡ x = cc in f) h
if_some P None x e h = absurd cc

pub to_if_some : {A : Type 0} (P : A → Type 0) (o : Option A) (x : A) → o ≡ Some x → P x → IfSome o P
to_if_some P o x e h = subst (λ (z : Option _). IfSome z P) (sym e) h

pub if_none : {A : Type 0} (P : A → Type 0) (o : Option A) → o ≡ None → IfSome o P
if_none P o e = subst (λ (z : Option _). IfSome z P) (sym e) tt

-- where a token is left, the next is there
pub some_next : (text : List ℕ) (ts : List Token) (i : ℕ) → lexemes text (drop i ts) ≢ [] → i < length ts
unfolding lexemes
some_next text ts i h = go (drop i ts) refl
  where
    go : (us : List Token) → drop i ts ≡ us → i < length ts
    go [] e = absurd (h (rw e refl))
    go (u ∷ us) e = (let l = length-drop i ts in let k = ap length e in omega arith)

pub some_at : (ts : List Token) (i : ℕ) → i < length ts → (t : Token) × (slice_get ts i ≡ Some t)
some_at ts i less = go (slice_get ts i) refl
  where
    go : (o : Option Token) → slice_get ts i ≡ o → (t : Token) × (slice_get ts i ≡ Some t)
    go (Some t) e = (t, e)
    go None e = elim (slice_get_cases ts i).1 [
      | inl h ↦ (h.0, h.2)
      | inr h ↦ absurd (let l = h.0 in omega arith)
    ]

pub number_kind : (kind : TokenKind) → is_number kind ≡ true → kind ≡ kinds.Number
number_kind kinds.Header e = absurd cc
number_kind kinds.Comment e = absurd cc
number_kind kinds.Name e = absurd cc
number_kind kinds.Word e = absurd cc
number_kind kinds.Number e = refl
number_kind kinds.Srcloc e = absurd cc
number_kind kinds.Arrow e = absurd cc
number_kind (kinds.Mark b) e = absurd cc

-- what the next token spells as a number
pub amount_is : (text : List ℕ) (ts : List Token) (i : ℕ) (t : Token) (x : Lexeme) (xs : List Lexeme) → slice_get ts i ≡ Some t → is_comment t.kind ≡ false → lexemes text (drop i ts) ≡ x ∷ xs
    → (amount_of t.kind (spelling text t) ≡ x.amount) × (t.start ≡ x.spot)
amount_is text ts i t x xs e no_comment whole =
    let front = sym (takes text ts i t e no_comment) ∙ whole in
    let head : lexeme text t ≡ x = cc in
    (ap (λ (z : Lexeme). z.amount) head, ap (λ (z : Lexeme). z.spot) head)

-- whether the next token's class is among those that are asked for
pub heads_among : (text : List ℕ) (ts : List Token) (m : Meaning) (cs : List ℕ) → Upcoming text ts (Some m) → member (code m.class) cs ≡ heads cs (lexemes text ts)
unfolding lexemes
heads_among text [] m cs up = absurd cc
heads_among text (t ∷ ts) m cs up =
    let same : m ≡ meaning text t = (let e = up.1 in cc) in
    rw (up.0, same) refl
