-- The words, entities and numbers of a text, each read as a terminal of the grammar.
use Rattle.std.proofs.Common.{◌≡◌, ℕ, zero, suc, ◌^◌, ◌<◌, ◌≤◌, Bool, true, not, ◌&&◌, List, [], ◌∷◌, ◌++◌, map, length, Option, Some, None, refl, ap, ◌∙◌, arith, inl, inr}
use Rattle.std.specs.Prelude.{nat_lt, codes, ℤ, pos, negsuc}
use Rattle.std.specs.Fmt.{decimal, signed_decimal}
use Rattle.std.specs.Char.{is_ascii_digit}
use Rattle.std.specs.List.{list_all}
use Rattle.std.proofs.lemmas.Bool.{and_parts, lt-ltb}
use Rattle.clif_lex.specs.Bytes.{first}
use Rattle.clif_lex.specs.Lexing.{is_header_word}
use Rattle.clif_lex.specs.Numbers.{spelled_number}
use Rattle.clif_lex.specs.declared.spans.TokenKind.TheVariants as kind
use Rattle.clif_lex.proofs.Longest.{digit_no_sign}
use Rattle.grammar.specs.Rules.{Lexeme, Rule, Opt, Tree}
use Rattle.ir_core.specs.declared.signatures.Ty.{Ty}
use Rattle.ir_core.specs.declared.signatures.Ty.TheVariants.{I8, I16, I32, I64, I128}
use Rattle.ir_text.specs.TextTree.{Text, Word, Numbered, Number, Signed, Offset, with_sign, separated}
use Rattle.ir_text.specs.TextInstructions as text
use Rattle.ir_text.specs.Words.{type_word}
use Rattle.clif_words.specs.declared.class.Class.{Class}
use Rattle.clif_words.specs.declared.class.Class.TheVariants as classes
use Rattle.clif_words.specs.Classes.{code}
use Rattle.clif_words.specs.Lexemes.{number_class}
use Rattle.clif_words.specs.Table.{all_words}
use Rattle.clif_words.specs.Terminals.{one, signed}
use Rattle.clif_words.specs.Words.{Meaning, word_meaning}
use Rattle.token_reader.specs.declared.raw.RawName.{RawName}
use Rattle.token_reader.specs.declared.raw.RawNumber.{RawNumber}
use Rattle.token_reader.specs.declared.raw.RawOpcode.{RawOpcode}
use Rattle.token_reader.specs.Grammar.{commas, number, any_type, suffix}
use Rattle.token_reader.specs.Reading.{name, opcode}
use Rattle.token_reader.specs.Values.{commas_value, any_type_value, suffix_value, opt_suffix_value, number_value, offset_value}
use Rattle.text_read_back.proofs.Decimals.{decimal_digits, decimal_some}
use Rattle.text_read_back.proofs.NumberTokens.{is_64_bits, below, signed_spells, decimal_magnitude}
use Rattle.text_read_back.proofs.Stretches.{is_word}
use Rattle.text_read_back.specs.Bare.{bare_name, bare_opcode, bare_number, bare_option}
use Rattle.text_read_back.specs.RawOf as raws
use Rattle.text_read_back.proofs.Told.{lexeme_as, Reads, Soft, AllRead, means, mark_then, left, right, some, none, separated_reads, soft_nothing}
use Rattle.text_read_back.proofs.Lists.{map_both}
use Rattle.text_read_back.proofs.Stems.{IsStem, stem_meaning}

abbrev pub named : Lexeme → RawName
named l = bare_name (name l)

abbrev pub opcode_named : Lexeme → RawOpcode
opcode_named l = bare_opcode (opcode l)

-- ---- words

abbrev pub is_plain_word : List ℕ → Bool
is_plain_word w = is_word w && not (is_header_word w)

pub word_reads : (c : Class) (w : List ℕ) → is_plain_word w ≡ true → (word_meaning w).class ≡ c → Reads (one c) opcode_named (raws.opcode w) (Word w)
word_reads c w plain e = record {
  clear = λ b h. rw (plain, h) refl;
  told = λ at. record { tree = lexeme_as kind.Word w at; derived = (refl, ap code e); says = refl };
}

-- a word of which only the place among those of its class matters
pub word_says : {A : Type 0} (c : Class) (w : List ℕ) (f : ℕ → A) (x : A) → is_plain_word w ≡ true → (word_meaning w).class ≡ c → f (word_meaning w).number ≡ x → Reads (one c) (λ l. f l.number) x (Word w)
word_says c w f x plain e k = record {
  clear = λ b h. rw (plain, h) refl;
  told = λ at. record { tree = lexeme_as kind.Word w at; derived = (refl, ap code e); says = k };
}

-- ---- entities

pub entity_reads : (w : List ℕ) (c : Class) (n : ℕ) → IsStem w c → is_word w ≡ true → n < 2 ^ 64 → Reads (one c) named (raws.entity n) (Numbered w n)
entity_reads w c n is plain h =
    let m = stem_meaning w c n is h in
    let lt : nat_lt n (2 ^ 64) ≡ true = lt-ltb n (2 ^ 64) h in
    record {
      clear = λ b e. rw (plain, lt, e) refl;
      told = λ at. record { tree = lexeme_as kind.Word (w ++ decimal n) at; derived = (refl, ap (λ (p : Meaning). code p.class) m); says = ap (λ (p : Meaning). raws.entity p.number) m };
    }

-- ---- numbers

first_digit : (n : ℕ) → n < 2 ^ 64 → is_ascii_digit (first (decimal n)) ≡ true
first_digit n h = go (decimal n) (decimal_some n h) (decimal_digits n h)
  where
    go : (ds : List ℕ) → 1 ≤ length ds → list_all is_ascii_digit ds ≡ true → is_ascii_digit (first ds) ≡ true
    go [] some all = absurd (omega arith)
    go (d ∷ ds) some all = (and_parts (is_ascii_digit d) (list_all is_ascii_digit ds) all).0

decimal_class : (n : ℕ) → n < 2 ^ 64 → number_class (decimal n) ≡ classes.Unsigned
decimal_class n h = rw (digit_no_sign (first (decimal n)) (first_digit n h)) refl

pub number_reads : (n : ℕ) → n < 2 ^ 64 → Reads number (λ v. bare_number (number_value v)) (raws.number (pos n)) (Number n)
number_reads n h =
    let lt : nat_lt n (2 ^ 64) ≡ true = lt-ltb n (2 ^ 64) h in
    record {
      clear = λ b e. rw (lt, e) refl;
      told = λ at. record { tree = inl (lexeme_as kind.Number (decimal n) at); derived = (refl, ap code (decimal_class n h)); says = ap raws.number (signed_spells (pos n) lt) };
    }

pub signed_reads : (z : ℤ) → is_64_bits z ≡ true → Reads number (λ v. bare_number (number_value v)) (raws.number z) (Signed z)
signed_reads (pos n) h = record {
  clear = λ b e. rw (h, e) refl;
  told = λ at. record { tree = inl (lexeme_as kind.Number (decimal n) at); derived = (refl, ap code (decimal_class n (below n h))); says = ap raws.number (signed_spells (pos n) h) };
}
signed_reads (negsuc n) h = record {
  clear = λ b e. rw (h, e) refl;
  told = λ at. record { tree = inr (lexeme_as kind.Number (signed_decimal (negsuc n)) at); derived = (refl, refl); says = ap raws.number (signed_spells (negsuc n) h) };
}

with_sign_spells : (z : ℤ) → is_64_bits z ≡ true → spelled_number (with_sign z) ≡ z
with_sign_spells (pos n) h = ap (λ (k : ℕ). pos k) (decimal_magnitude n (below n h))
with_sign_spells (negsuc n) h = signed_spells (negsuc n) h

with_sign_class : (z : ℤ) → number_class (with_sign z) ≡ classes.Signed
with_sign_class (pos n) = refl
with_sign_class (negsuc n) = refl

some_offset : (z : ℤ) → is_64_bits z ≡ true → Reads (Opt signed) (λ v. bare_option bare_number (offset_value v)) (Some (raws.number z)) (Offset z)
some_offset z h = record {
  clear = λ b e. rw (h, e) refl;
  told = λ at. record {
    tree = Some (lexeme_as kind.Number (with_sign z) at);
    derived = (refl, ap code (with_sign_class z));
    says = ap (λ (k : ℤ). (let o : Option RawNumber = Some (raws.number k) in o)) (with_sign_spells z h);
  };
}

pub offset_reads : (z : ℤ) → is_64_bits z ≡ true → Reads (Opt signed) (λ v. bare_option bare_number (offset_value v)) (raws.offset z) (text.offset_text z)
offset_reads (pos zero) h = none signed (λ v. bare_option bare_number (offset_value v))
offset_reads (pos (suc k)) h = some_offset (pos (suc k)) h
offset_reads (negsuc k) h = some_offset (negsuc k) h

pub offset_soft : (z : ℤ) → Soft (text.offset_text z)
offset_soft (pos zero) = soft_nothing
offset_soft (pos (suc k)) = record { so = λ b h. refl }
offset_soft (negsuc k) = record { so = λ b h. refl }

-- ---- types

-- a lexeme of which only the number matters
abbrev lexeme_of : ℕ → Lexeme
lexeme_of n = record { class = 0; number = n; amount = pos 0; name = []; spot = 0 }

pub type_reads : (t : Ty) → Reads any_type any_type_value t (Word (type_word t))
unfolding word_meaning all_words
type_reads I8 = left any_type_value (word_says classes.Ty (codes "i8") (λ n. any_type_value (inl (lexeme_of n))) I8 refl refl refl)
type_reads I16 = left any_type_value (word_says classes.Ty (codes "i16") (λ n. any_type_value (inl (lexeme_of n))) I16 refl refl refl)
type_reads I32 = left any_type_value (word_says classes.Ty (codes "i32") (λ n. any_type_value (inl (lexeme_of n))) I32 refl refl refl)
type_reads I64 = right any_type_value (left (λ v. any_type_value (inr v)) (word_says classes.TyI64 (codes "i64") (λ n. I64) I64 refl refl refl))
type_reads I128 = left any_type_value (word_says classes.Ty (codes "i128") (λ n. any_type_value (inl (lexeme_of n))) I128 refl refl refl)

pub suffix_reads : (t : Ty) → Reads suffix suffix_value t (text.suffix t)
suffix_reads t = mark_then classes.Dot 46 refl refl (type_reads t)

pub opt_suffix_reads : (s : Option Ty) → Reads (Opt suffix) opt_suffix_value s (text.suffix_if s)
opt_suffix_reads None = none suffix opt_suffix_value
opt_suffix_reads (Some t) = some opt_suffix_value (means (λ (x : Ty). (let o : Option Ty = Some x in o)) (suffix_reads t))

pub suffix_soft : (t : Ty) → Soft (text.suffix t)
suffix_soft t = record { so = λ b h. refl }

pub opt_suffix_soft : (s : Option Ty) → Soft (text.suffix_if s)
opt_suffix_soft None = soft_nothing
opt_suffix_soft (Some t) = record { so = λ b h. refl }

-- ---- lists behind commas

-- the same said by another function
pub also : {r : Rule} {A : Type 0} {f g : Tree r → A} {x : A} {t : Text} → ((v : Tree r) → g v ≡ f v) → Reads r f x t → Reads r g x t
also same p = record { clear = p.clear; told = λ at. (let k = p.told at in record { tree = k.tree; derived = k.derived; says = same k.tree ∙ k.says }) }

pub list_reads : {X A B : Type 0} (r : Rule) (f : Tree r → A) (h : A → B) (s : X → Text) (say : X → B) (x : X) (xs : List X) → AllRead r (λ v. h (f v)) s say (x ∷ xs)
    → Reads (commas r) (λ v. map h (commas_value r f v)) (map say (x ∷ xs)) (separated s (x ∷ xs))
list_reads {X} {A} {B} r f h s say x xs all =
    also (λ v. ap (λ (z : List B). h (f v.0) ∷ z) (map_both (λ (w : Lexeme × Tree r). f w.1) h v.1)) (separated_reads r (λ v. h (f v)) s say x xs all)
