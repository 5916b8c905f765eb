-- Where the text of a script goes no further, that is within the text or at its end.
use Rattle.std.proofs.Common.{◌≡◌, ℕ, suc, ◌≤◌, ◌<◌, Bool, true, false, cond, nat_lt, ℤ, pos, List, [], ◌∷◌, ◌++◌, length, take, slice_get, Some, Result, Ok, Err, refl, sym, subst, arith, length-take}
use Rattle.std.specs.Str.{bytes_eq}
use Rattle.std.specs.Prelude.{codes}
use Rattle.grammar.specs.Rules.{Lexeme, Rule}
use Rattle.token_reader.specs.Next.{spot_or}
use Rattle.ir_core.specs.Lists.{Each}
use Rattle.ir_core.proofs.Members.{each_right}
use Rattle.clif_lex.specs.declared.spans.TokenKind.{TokenKind}
use Rattle.clif_lex.specs.declared.spans.TokenKind.TheVariants as kinds
use Rattle.clif_lex.specs.declared.spans.Token.{Token}
use Rattle.clif_lex.specs.declared.faults.LexErr.{LexErr}
use Rattle.clif_lex.specs.declared.faults.LexErr.TheVariants.{BadChar, BadNumber, NoMemory}
use Rattle.clif_lex.specs.Lexing.{tokens_of}
use Rattle.clif_lex.specs.Numbers.{spelled_number}
use Rattle.clif_lex.specs.Spans.{spelling}
use Rattle.clif_lex.specs.Spelling.{IsTokenIn}
use Rattle.clif_lex.proofs.Readings.{fault_inside_text, token_inside_text}
use Rattle.clif_words.specs.declared.class.Class.{Class}
use Rattle.clif_words.specs.declared.class.Class.TheVariants as words
use Rattle.clif_words.specs.Words.{word_meaning}
use Rattle.clk_num.specs.Numbers.{fits, wrapped}
use Rattle.script_text.specs.declared.terminal.Terminal.{Terminal}
use Rattle.script_text.specs.declared.terminal.Terminal.TheVariants as terminals
use Rattle.script_text.specs.Symbols.{symbol, plain, limited, clif_word, by_meaning, word, number, number_terminal, of_kind, lexeme, most_user, most_tag}
use Rattle.script_text.specs.Lexed.{symbols, or_none, symbols_before, lexed_by, lexed}
use Rattle.script_text.specs.Scripts.{StopsIn}

-- ---- a lexeme stands where its token does

abbrev spot_of : Lexeme → ℕ
spot_of x = x.spot

either_spot : (b : Bool) (x y : Lexeme) (spot : ℕ) → x.spot ≡ spot → y.spot ≡ spot → spot_of (cond {A = Lexeme} b x y) ≡ spot
either_spot true x y spot p q = p
either_spot false x y spot p q = q

limited_spot : (t : Terminal) (most n spot : ℕ) → spot_of (limited t most n spot) ≡ spot
limited_spot t most n spot = either_spot (nat_lt most n) (plain terminals.Other spot) (symbol t n (pos 0) spot) spot refl refl

clif_word_spot : (class : Class) (n spot : ℕ) → spot_of (clif_word class n spot) ≡ spot
clif_word_spot words.Return n spot = refl
clif_word_spot words.Trap n spot = refl
clif_word_spot words.TrapCode n spot = refl
clif_word_spot words.UserTrap n spot = limited_spot terminals.UserTrap most_user n spot
clif_word_spot words.Tag n spot = limited_spot terminals.Tag most_tag n spot
clif_word_spot class n spot = refl

word_spot : (spelled : List ℕ) (spot : ℕ) → spot_of (word spelled spot) ≡ spot
word_spot spelled spot =
    unfold word in
    either_spot (bytes_eq spelled (codes "throw")) (plain terminals.Throw spot) (by_meaning (word_meaning spelled) spot) spot refl
    (clif_word_spot (word_meaning spelled).class (word_meaning spelled).number spot)

number_spot : (z : ℤ) (spot : ℕ) → spot_of (number z spot) ≡ spot
number_spot z spot =
    unfold number in
    either_spot (fits 64 z) (symbol (number_terminal z) (wrapped 64 z) z spot) (plain terminals.Other spot) spot refl refl

kind_spot : (kind : TokenKind) (spelled : List ℕ) (spot : ℕ) → spot_of (of_kind kind spelled spot) ≡ spot
kind_spot kinds.Word spelled spot = word_spot spelled spot
kind_spot kinds.Number spelled spot = number_spot (spelled_number spelled) spot
kind_spot (kinds.Mark byte) spelled spot = refl
kind_spot kind spelled spot = refl

-- ---- all tokens stand within the text

abbrev Within : ℕ → List Lexeme → Type 0
Within len xs = Each (λ (x : Lexeme). x.spot ≤ len) xs

symbols_within : (text : List ℕ) (len : ℕ) (ts : List Token) → length text ≤ len → ((i : ℕ) (t : Token) → slice_get ts i ≡ Some t → IsTokenIn text t) → Within len (symbols text ts)
symbols_within text len [] le each = tt
symbols_within text len (t ∷ ts) le each =
    let inside = each 0 t refl in
    let some = inside.some in
    let within = inside.within in
    let at : spot_of (lexeme text t) ≡ t.start = kind_spot t.kind (spelling text t) t.start in
    (omega arith, symbols_within text len ts le (λ i u e. each (suc i) u e))

read_within : (text : List ℕ) (len : ℕ) (r : Result (List Token) LexErr) → length text ≤ len → tokens_of text ≡ r → Within len (symbols text (or_none r))
read_within text len (Ok ts) le e = symbols_within text len ts le (token_inside_text text ts e)
read_within text len (Err fault) le e = tt

one_more : (len : ℕ) (xs : List Lexeme) (x : Lexeme) → Within len xs → x.spot ≤ len → Within len (xs ++ x ∷ [])
one_more len [] x all le = (le, tt)
one_more len (y ∷ xs) x all le = (all.0, one_more len xs x all.1 le)

before_within : (text : List ℕ) (spot : ℕ) → spot < length text → Within (length text) (symbols_before text spot)
before_within text spot below =
    let size = length-take spot text in
    one_more (length text) _ (plain terminals.Other spot) (read_within (take spot text) (length text) (tokens_of (take spot text)) (omega arith) refl) (omega arith)

by_within : (text : List ℕ) (r : Result (List Token) LexErr) → tokens_of text ≡ r → Within (length text) (lexed_by text r)
by_within text (Ok ts) e = symbols_within text (length text) ts (omega arith) (token_inside_text text ts e)
by_within text (Err (BadChar spot)) e = before_within text spot (fault_inside_text text (BadChar spot) e)
by_within text (Err (BadNumber spot)) e = before_within text spot (fault_inside_text text (BadNumber spot) e)
by_within text (Err NoMemory) e = tt

lexed_within : (text : List ℕ) → Within (length text) (lexed text)
lexed_within text = unfold lexed in by_within text (tokens_of text) refl

-- ---- where it goes no further

spot_within : (len : ℕ) (rest : List Lexeme) → Within len rest → spot_or len rest ≤ len
spot_within len [] all = omega arith
spot_within len (x ∷ rest) all = all.0

pub stops_within : (rule : Rule) (text : List ℕ) (spot : ℕ) → StopsIn rule text spot → spot ≤ length text
stops_within rule text spot stops =
    let len = length text in
    subst (λ (n : ℕ). n ≤ len) (sym stops.3.2)
    (spot_within len stops.1 (each_right (λ (x : Lexeme). x.spot ≤ len) stops.0 stops.1 (subst (Within len) stops.2 (lexed_within text))))
