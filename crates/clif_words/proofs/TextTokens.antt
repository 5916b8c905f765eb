-- The tokens of a text are what the grammar may take them for.
use Rattle.std.proofs.Common.{◌≡◌, ◌≢◌, ℕ, zero, suc, ◌+◌, ◌-◌, ◌==◌, ◌^◌, ◌<◌, ◌≤◌, Bool, true, false, not, ◌&&◌, ◌||◌, cond, nat_lt, List, [], ◌∷◌, ◌++◌, length, map, drop, Option, Some, None, Ok, refl, sym, subst, ◌∙◌, arith}
use Rattle.std.specs.List.{list_all}
use Rattle.std.specs.Str.{bytes_eq}
use Rattle.std.proofs.lemmas.Bool.{ltb-true, eqb-true, eq-eqb, and_parts, not-true}
use Rattle.grammar.specs.Rules.{Lexeme}
use Rattle.ir_core.specs.Lists.{Each}
use Rattle.clif_lex.specs.declared.spans.TokenKind.{TokenKind}
use Rattle.clif_lex.specs.declared.spans.TokenKind.TheVariants as kinds
use Rattle.clif_lex.specs.declared.spans.Token.{Token}
use Rattle.clif_lex.specs.Bytes.{percent, is_word_byte, is_sign, first, second}
use Rattle.clif_lex.specs.Numbers.{is_in_range, is_wide}
use Rattle.clif_lex.specs.Spans.{spelling}
use Rattle.clif_lex.specs.Lexing.{tokens_of}
use Rattle.clif_lex.specs.Spelling.{IsTokenIn, StandFrom, spells}
use Rattle.clif_lex.proofs.Amounts.{wide}
use Rattle.clif_lex.proofs.Readings.{tokens_stand}
use Rattle.clif_words.specs.declared.class.Class.{Class}
use Rattle.clif_words.specs.declared.class.Class.TheVariants as classes
use Rattle.clif_words.specs.Classes.{code}
use Rattle.clif_words.specs.Opcodes.{opcode_of}
use Rattle.clif_words.specs.OpcodeForms.{form}
use Rattle.clif_words.specs.Table.{Row, all_words}
use Rattle.clif_words.specs.Words.{Meaning, look_up, means, stems, is_refused, is_lanes, is_plain, stem, digits, digits_len, decimal_after, entity_number, of_stem, or_numbered, numbered_meaning, word_meaning}
use Rattle.clif_words.specs.Lexemes.{mark_class, number_class, meaning_of, amount_of, name_of, lexeme, is_comment, lexemes}
use Rattle.clif_words.specs.TextTokens.{is_form, IsTextToken, RiseFrom, AreTextTokens}

-- ---- words

-- a class that is no opcode's form and no name's
abbrev is_plain_class : Class → Bool
is_plain_class class = not (is_form (code class)) && not (code class == 1)

-- a class is plain, or it is a form and the opcode with this number has it
abbrev is_right : Class → ℕ → Bool
is_right class number = not (code class == 1) && (not (is_form (code class)) || (code (form (opcode_of number)) == code class))

record IsKnown (m : Meaning) : Type 0 where
  pub number : m.number < 2 ^ 64
  pub named : (code m.class == 1) ≡ false
  pub opcode : is_form (code m.class) ≡ true → code (form (opcode_of m.number)) ≡ code m.class

plain_known : (class : Class) (number : ℕ) → number < 2 ^ 64 → is_plain_class class ≡ true → IsKnown (means class number)
plain_known class number small plain =
    let two = and_parts (not (is_form (code class))) (not (code class == 1)) plain in
    record { number = small; named = not-true (code class == 1) two.1; opcode = λ e. absurd (no (is_form (code class)) e two.0) }
  where
    no : (b : Bool) → b ≡ true → not b ≡ true → ⊥
    no true e f = absurd cc
    no false e f = absurd cc

right_known : (class : Class) (number : ℕ) → number < 2 ^ 64 → is_right class number ≡ true → IsKnown (means class number)
right_known class number small right =
    let two = and_parts (not (code class == 1)) (not (is_form (code class)) || (code (form (opcode_of number)) == code class)) right in
    record { number = small; named = not-true (code class == 1) two.0; opcode = λ e. eqb-true (code (form (opcode_of number))) (code class) (yes (is_form (code class)) (code (form (opcode_of number)) == code class) e two.1) }
  where
    yes : (b c : Bool) → b ≡ true → (not b || c) ≡ true → c ≡ true
    yes true c e f = f
    yes false c e f = absurd cc

-- a row that is found passes each test of the table
found_row : (test : Row → Bool) (table : List Row) (word : List ℕ) (m : Meaning) → list_all test table ≡ true → look_up table word ≡ Some m
    → (row : Row) × (test row ≡ true) × (means row.class row.number ≡ m)
found_row test [] word m all e = absurd cc
found_row test (row ∷ rest) word m all e =
    let two = and_parts (test row) (list_all test rest) all in
    go (bytes_eq row.word word) two.0 (found_row test rest word m two.1) e
  where
    go : (b : Bool) → test row ≡ true → (look_up rest word ≡ Some m → (row : Row) × (test row ≡ true) × (means row.class row.number ≡ m))
        → cond b (Some (means row.class row.number)) (look_up rest word) ≡ Some m → (row : Row) × (test row ≡ true) × (means row.class row.number ≡ m)
    go true passes ih e = (row, passes, cc)
    go false passes ih e = ih e

right_row : Row → Bool
unfolding opcode_of
right_row row = nat_lt row.number (2 ^ 64) && is_right row.class row.number

plain_row : Row → Bool
plain_row row = is_plain_class row.class

all_right : list_all right_row all_words ≡ true
unfolding all_words right_row opcode_of
all_right = refl

stems_plain : list_all plain_row stems ≡ true
unfolding stems plain_row
stems_plain = refl

entity_small : (ds : List ℕ) → entity_number ds < 2 ^ 64
unfolding entity_number
entity_small ds = go (nat_lt (decimal_after 0 ds) (2 ^ 64)) refl
  where
    go : (b : Bool) → nat_lt (decimal_after 0 ds) (2 ^ 64) ≡ b → cond b (decimal_after 0 ds) (2 ^ 64 - 1) < 2 ^ 64
    go true e = ltb-true (decimal_after 0 ds) (2 ^ 64) e
    go false e = omega arith

pick : (P : Meaning → Type 0) (b : Bool) (m n : Meaning) → P m → P n → P (cond b m n)
pick P true m n p q = p
pick P false m n p q = q

other_known : IsKnown (means classes.Other 0)
other_known = plain_known classes.Other 0 (omega arith) refl

stem_known : (o : Option Meaning) (word : List ℕ) → look_up stems (stem word) ≡ o → IsKnown (of_stem o word)
unfolding plain_row
stem_known (Some m) word e =
    let found = found_row plain_row stems (stem word) m stems_plain e in
    let class : is_plain_class m.class ≡ true = subst (λ (m : Meaning). is_plain_class m.class ≡ true) found.2 found.1 in
    pick IsKnown (is_plain (digits word)) (means m.class (entity_number (digits word))) (means classes.Other 0)
    (plain_known m.class (entity_number (digits word)) (entity_small (digits word)) class) other_known
stem_known None word e =
    pick IsKnown (is_refused (stem word)) (means classes.RefusedDecl 0) (cond (is_lanes (stem word)) (means classes.RefusedType 0) (means classes.Other 0))
    (plain_known classes.RefusedDecl 0 (omega arith) refl)
    (pick IsKnown (is_lanes (stem word)) (means classes.RefusedType 0) (means classes.Other 0) (plain_known classes.RefusedType 0 (omega arith) refl) other_known)

word_known : (word : List ℕ) → IsKnown (word_meaning word)
unfolding word_meaning numbered_meaning right_row
word_known word = go (look_up all_words word) refl
  where
    go : (o : Option Meaning) → look_up all_words word ≡ o → IsKnown (or_numbered word o)
    go (Some m) e =
        let found = found_row right_row all_words word m all_right e in
        let two = and_parts (nat_lt found.0.number (2 ^ 64)) (is_right found.0.class found.0.number) found.1 in
        subst IsKnown found.2 (right_known found.0.class found.0.number (ltb-true found.0.number (2 ^ 64) two.0) two.1)
    go None e = pick IsKnown (digits_len word == 0) (means classes.Other 0) (of_stem (look_up stems (stem word)) word) other_known (stem_known (look_up stems (stem word)) word refl)

-- ---- tokens

pick_class : (b : Bool) (c d : Class) → is_plain_class c ≡ true → is_plain_class d ≡ true → is_plain_class (cond b c d) ≡ true
pick_class true c d p q = p
pick_class false c d p q = q

mark_plain : (byte : ℕ) → is_plain_class (mark_class byte) ≡ true
mark_plain byte =
    pick_class (byte == 40) classes.LeftParen _ refl
    (pick_class (byte == 41) classes.RightParen _ refl
    (pick_class (byte == 123) classes.LeftBrace _ refl
    (pick_class (byte == 125) classes.RightBrace _ refl
    (pick_class (byte == 91) classes.LeftBracket _ refl
    (pick_class (byte == 93) classes.RightBracket _ refl
    (pick_class (byte == 44) classes.Comma _ refl
    (pick_class (byte == 58) classes.Colon _ refl
    (pick_class (byte == 61) classes.Equals _ refl
    (pick_class (byte == 46) classes.Dot _ refl
    (pick_class (byte == 60) classes.Less _ refl
    (pick_class (byte == 62) classes.Greater classes.Other refl refl)))))))))))

-- what is known of the meaning and the name of a token that is spelled so
record IsToken (m : Meaning) (name : List ℕ) : Type 0 where
  pub number : m.number < 2 ^ 64
  pub bytes : list_all is_word_byte name ≡ true
  pub named : code m.class ≡ code classes.Name → name ≢ []
  pub opcode : is_form (code m.class) ≡ true → code (form (opcode_of m.number)) ≡ code m.class

nameless : (m : Meaning) → IsKnown m → IsToken m []
nameless m known = record {
  number = known.number;
  bytes = refl;
  named = λ e. absurd (let yes : (code m.class == 1) ≡ true = eq-eqb (code m.class) 1 e in let no = known.named in let bad : true ≡ false = sym yes ∙ no in cc);
  opcode = known.opcode;
}

plain_token : (class : Class) → is_plain_class class ≡ true → IsToken (means class 0) []
plain_token class plain = nameless (means class 0) (plain_known class 0 (omega arith) plain)

some_name : (s : List ℕ) → is_word_byte (second s) ≡ true → drop 1 s ≢ []
some_name [] second e = absurd cc
some_name (c ∷ []) second e = absurd cc
some_name (c ∷ d ∷ rest) second e = absurd cc

token_of_kind : (preamble : Bool) (kind : TokenKind) (s : List ℕ) → spells preamble kind s ≡ true → IsToken (meaning_of kind s) (name_of kind s)
token_of_kind preamble kinds.Header s h = plain_token classes.Header refl
token_of_kind preamble kinds.Comment s h = plain_token classes.Other refl
token_of_kind preamble kinds.Name s h =
    let two = and_parts ((first s == percent) && is_word_byte (second s)) (list_all is_word_byte (drop 1 s)) h in
    let front = and_parts (first s == percent) (is_word_byte (second s)) two.0 in
    record { number = omega arith; bytes = two.1; named = λ e. some_name s front.1; opcode = λ e. absurd cc }
token_of_kind preamble kinds.Word s h = nameless (word_meaning s) (word_known s)
token_of_kind preamble kinds.Number s h = plain_token (number_class s) (pick_class (is_sign (first s)) classes.Signed classes.Unsigned refl refl)
token_of_kind preamble kinds.Srcloc s h = plain_token classes.Srcloc refl
token_of_kind preamble kinds.Arrow s h = plain_token classes.Arrow refl
token_of_kind preamble (kinds.Mark byte) s h = plain_token (mark_class byte) (mark_plain byte)

amount_wide : (kind : TokenKind) (s : List ℕ) → (kind ≡ kinds.Number → is_in_range s ≡ true) → is_wide (amount_of kind s) ≡ true
amount_wide kinds.Header s h = refl
amount_wide kinds.Comment s h = refl
amount_wide kinds.Name s h = refl
amount_wide kinds.Word s h = refl
amount_wide kinds.Number s h = wide s (h refl)
amount_wide kinds.Srcloc s h = refl
amount_wide kinds.Arrow s h = refl
amount_wide (kinds.Mark byte) s h = refl

text_token : (text : List ℕ) (t : Token) → IsTokenIn text t → (preamble : Bool) → spells preamble t.kind (spelling text t) ≡ true → IsTextToken (length text) (lexeme text t)
text_token text t inside preamble spelled =
    let known = token_of_kind preamble t.kind (spelling text t) spelled in
    record {
      inside = let some = inside.some in let within = inside.within in omega arith;
      number = known.number;
      amount = amount_wide t.kind (spelling text t) inside.in_range;
      name = known.bytes;
      named = known.named;
      opcode = known.opcode;
    }

pub rise_weaker : (low high : ℕ) (ns : List ℕ) → low ≤ high → RiseFrom high ns → RiseFrom low ns
rise_weaker low high [] less rise = tt
rise_weaker low high (n ∷ ns) less (first, rise) = (omega arith, rise)

abbrev Known : List ℕ → ℕ → List Lexeme → Type 0
Known text from xs = Each (IsTextToken (length text)) xs × RiseFrom from (map (λ (x : Lexeme). x.spot) xs)

known_from : (text : List ℕ) (from : ℕ) (ts : List Token) → StandFrom text from ts → Known text from (lexemes text ts)
unfolding lexemes
known_from text from [] stand = (tt, tt)
known_from text from (t ∷ ts) (behind, inside, spelled, stand) =
    let some = inside.some in
    let rest = known_from text t.end ts stand in
    elim (is_comment t.kind) as (λ b. Known text from (cond b (lexemes text ts) (lexeme text t ∷ lexemes text ts))) [
      | true ↦ (rest.0, rise_weaker from t.end (map (λ (x : Lexeme). x.spot) (lexemes text ts)) (omega arith) rest.1)
      | false ↦ ((text_token text t inside spelled.0 spelled.1, rest.0), (behind, rise_weaker (t.start + 1) t.end (map (λ (x : Lexeme). x.spot) (lexemes text ts)) (omega arith) rest.1))
    ]

pub text_tokens : (text : List ℕ) (ts : List Token) → tokens_of text ≡ Ok ts → AreTextTokens (length text) (lexemes text ts)
text_tokens text ts lexed = let known = known_from text 0 ts (tokens_stand text ts lexed) in record { each = known.0; rising = known.1 }

-- ---- of tokens from a place of the list on, and of the first of some tokens

stand_behind : (text : List ℕ) (from i : ℕ) (ts : List Token) → StandFrom text from ts → (k : ℕ) × StandFrom text k (drop i ts)
stand_behind text from zero ts stand = (from, stand)
stand_behind text from (suc i) [] stand = (from, tt)
stand_behind text from (suc i) (t ∷ ts) stand = stand_behind text t.end i ts stand.3

pub text_tokens_from : (text : List ℕ) (ts : List Token) (i : ℕ) → tokens_of text ≡ Ok ts → AreTextTokens (length text) (lexemes text (drop i ts))
text_tokens_from text ts i lexed =
    let stand = stand_behind text 0 i ts (tokens_stand text ts lexed) in
    let known = known_from text stand.0 (drop i ts) stand.1 in
    record { each = known.0; rising = rise_weaker 0 stand.0 (map (λ (x : Lexeme). x.spot) (lexemes text (drop i ts))) (omega arith) known.1 }

pub front_tokens : (len : ℕ) (us rest : List Lexeme) → AreTextTokens len (us ++ rest) → AreTextTokens len us
front_tokens len us rest tokens = record { each = each us tokens.each; rising = rises 0 us tokens.rising }
  where
    each : (us : List Lexeme) → Each (IsTextToken len) (us ++ rest) → Each (IsTextToken len) us
    each [] h = tt
    each (x ∷ us) h = (h.0, each us h.1)

    rises : (low : ℕ) (us : List Lexeme) → RiseFrom low (map (λ (x : Lexeme). x.spot) (us ++ rest)) → RiseFrom low (map (λ (x : Lexeme). x.spot) us)
    rises low [] h = tt
    rises low (x ∷ us) h = (h.0, rises (x.spot + 1) us h.1)
