-- What is known of an instruction that is found in a text.
use Rattle.std.proofs.Common.{◌≡◌, ℕ, List, length, take, drop, Ok, sym, subst, inl, inr}
use Rattle.std.proofs.lemmas.List.{take-append-drop}
use Rattle.grammar.specs.Rules.{Lexeme}
use Rattle.clif_lex.specs.declared.spans.Token.{Token}
use Rattle.clif_lex.specs.Lexing.{tokens_of}
use Rattle.clif_words.specs.Lexemes.{lexemes}
use Rattle.clif_words.specs.TextTokens.{AreTextTokens}
use Rattle.clif_words.proofs.TextTokens.{text_tokens_from, front_tokens}
use Rattle.clif_insts.specs.declared.raw.RawInst.{RawInst}
use Rattle.clif_insts.specs.Insts.{Own, IsInst, Found}
use Rattle.clif_insts.specs.OfForm.{InstFormed}
use Rattle.clif_insts.specs.Marks.{MarksFormed, inst_marks}
use Rattle.clif_insts.proofs.Formed.{whole_formed}
use Rattle.clif_insts.proofs.Marked.{marks_formed}
use Rattle.clif_insts.proofs.InstMarks.{whole_marked}

abbrev Known : ℕ → RawInst → Type 0
Known len x = InstFormed x × MarksFormed len (inst_marks x)

known : (len : ℕ) (us : List Lexeme) (x : RawInst) → AreTextTokens len us → IsInst us x → Known len x
known len us x tokens (v, d, same, only) =
    subst (Known len) (sym same) (whole_formed.formed len us v tokens.each d, marks_formed (whole_marked.among us v d) len tokens)

own_tokens : (len : ℕ) (ts own : List Lexeme) → AreTextTokens len ts → Own ts own → AreTextTokens len own
own_tokens len ts own tokens (inl alone) = subst (AreTextTokens len) (sym alone.1) (front_tokens len (take 1 ts) (drop 1 ts) (subst (AreTextTokens len) (sym (take-append-drop 1 ts)) tokens))
own_tokens len ts own tokens (inr all) = subst (AreTextTokens len) (sym all.1) tokens

found_known : (len : ℕ) (ts : List Lexeme) (place : List Lexeme → ℕ) (x : RawInst) (k : ℕ) → AreTextTokens len ts → Found ts place x k → Known len x
found_known len ts place x k tokens (own, which, (us, rest, cut, (is, more, behind))) =
    known len us x (front_tokens len us rest (subst (AreTextTokens len) cut (own_tokens len ts own tokens which))) is

module _ (text : List ℕ) (tokens : List Token) (i : ℕ) (place : List Lexeme → ℕ) (lexed : tokens_of text ≡ Ok tokens) where
  pub known_inst : (x : RawInst) (k : ℕ) → Found (lexemes text (drop i tokens)) place x k → Known (length text) x
  known_inst x k found = found_known (length text) (lexemes text (drop i tokens)) place x k (text_tokens_from text tokens i lexed) found
