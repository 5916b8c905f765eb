-- The canonical text of a writable module is its raw module, and nothing else.
use Rattle.std.proofs.Common.{◌≡◌, ℕ, ◌+◌, true, false, List, [], ◌∷◌, map, length, Result, Ok, refl, sym, ap, ap₂, subst, ◌∙◌}
use Rattle.std.proofs.lemmas.Bool.{and_from}
use Rattle.std.proofs.lemmas.List.{append-nil}
use Rattle.clif_lex.specs.declared.spans.Token.{Token}
use Rattle.clif_lex.specs.declared.faults.LexErr.{LexErr}
use Rattle.clif_lex.specs.Lexing.{tokens_of}
use Rattle.clif_lex.specs.Bytes.{is_word_byte}
use Rattle.grammar.specs.Rules.{Lexeme, Many, Tree, Derives}
use Rattle.grammar.proofs.Binds.{ok_is}
use Rattle.grammar.proofs.Exactness.{complete}
use Rattle.ir_core.specs.Lists.{Each}
use Rattle.ir_core.specs.Module.{Function, Module}
use Rattle.ir_text.specs.TextTree.{Text, ◌▹◌, spelled}
use Rattle.ir_text.specs.Text as text
use Rattle.ir_text.specs.Text.{text_of}
use Rattle.ir_text.specs.Writable.{FunctionWritable, Writable}
use Rattle.clif_words.specs.Lexemes.{lexemes}
use Rattle.clif_read.specs.declared.raw.RawFunction.{RawFunction}
use Rattle.clif_read.specs.declared.raw.RawModule.{RawModule}
use Rattle.clif_read.specs.ModuleGrammar.{function, module_rule, module_is_good}
use Rattle.clif_read.specs.ModuleValues.{function_value, module_value}
use Rattle.clif_read.specs.Texts.{IsModule}
use Rattle.text_read_back.proofs.Stretches.{front, clear, tokens_at, stretches_lexed, stretches_seen}
use Rattle.text_read_back.specs.Bare.{bare_function}
use Rattle.text_read_back.specs.RawOf as raws
use Rattle.text_read_back.specs.ReadsBack.{ReadsBack}
use Rattle.text_read_back.proofs.Spellable.{FunctionSpellable, ModuleSpellable}
use Rattle.text_read_back.proofs.Told.{lexeme_as, s_at, Told, lexemes_of_text}
use Rattle.text_read_back.proofs.Lists.{map_both}
use Rattle.text_read_back.proofs.Functions.{function_read}

-- ---- all functions

-- the text is these functions, with nothing behind it
record AreRead (fs : List Function) (t : Text) : Type 0 where
  pub clear : clear t 0 ≡ true
  pub soft : is_word_byte (front t 0) ≡ false
  pub told : (at : ℕ) → Told (Many function) (map (λ v. bare_function (function_value v))) (map raws.raw_function fs) (s_at at t)

record AreMade (fs : List Function) (t : Text) : Type 0 where
  pub clear : clear t 0 ≡ true
  pub told : (at : ℕ) → Told (Many function) (map (λ v. bare_function (function_value v))) (map raws.raw_function fs) (s_at at t)

one_more : (f : Function) (fs : List Function) (t : Text) → FunctionWritable f → FunctionSpellable f → AreRead fs t → AreMade (f ∷ fs) (text.canonical_function f ▹ t)
one_more f fs t w k are =
    let u = text.canonical_function f in
    let one = function_read f w k in
    record {
      clear = and_from (clear u (front t 0)) (clear t 0) (one.clear (front t 0) are.soft) are.clear;
      told = λ at. (
          let a = one.told at in
          let at1 = at + length (spelled u) in
          let m = are.told at1 in
          record { tree = a.tree ∷ m.tree; derived = (s_at at u, s_at at1 t, refl, (a.derived, m.derived)); says = ap₂ (λ (x : RawFunction) (xs : List RawFunction). x ∷ xs) a.says m.says });
    }

more_are : (fs : List Function) → Each FunctionWritable fs → Each FunctionSpellable fs → AreRead fs (text.more_functions fs)
more_are [] h k = record { clear = refl; soft = refl; told = λ at. record { tree = []; derived = refl; says = refl } }
more_are (f ∷ fs) h k =
    let made = one_more f fs (text.more_functions fs) h.0 k.0 (more_are fs h.1 k.1) in
    record { clear = made.clear; soft = refl; told = λ at. made.told (at + 1) }

all_are : (fs : List Function) → Each FunctionWritable fs → Each FunctionSpellable fs → AreMade fs (text.canonical_text fs)
all_are [] h k = record { clear = refl; told = λ at. record { tree = []; derived = refl; says = refl } }
all_are (f ∷ fs) h k = one_more f fs (text.more_functions fs) h.0 k.0 (more_are fs h.1 k.1)

-- ---- the one reading

unique : (ts : List Lexeme) (v w : Tree module_rule) → Derives module_rule ts v → Derives module_rule ts w → w ≡ v
unique ts v w d e =
    let c = complete module_rule module_is_good ts v [] d refl in
    let b = complete module_rule module_is_good ts w [] e refl in
    ap (λ (p : Tree module_rule × List Lexeme). p.0) (ok_is (w, []) (v, []) (sym b ∙ c))

same_tokens : (a b : List Token) (r : Result (List Token) LexErr) → r ≡ Ok a → r ≡ Ok b → b ≡ a
same_tokens a b r e f = cc

same_module : (tokens : List Lexeme) (v : Tree module_rule) (other : RawModule) → Derives module_rule tokens v → IsModule tokens other → other ≡ module_value v
same_module tokens v other d is = is.2 ∙ ap module_value (unique tokens v is.0 d is.1)

pub writable_reads_back : (m : Module) → Writable m → ModuleSpellable m → ReadsBack m
writable_reads_back m w k =
    let t = text.canonical_text m in
    let all = all_are m w.functions k in
    let told = all.told 0 in
    let tree : Tree module_rule = ([], told.tree) in
    let seen : lexemes (spelled t) (tokens_at 0 t) ≡ s_at 0 t = lexemes_of_text t (spelled t) 0 ∙ stretches_seen lexeme_as t (spelled t) [] [] 0 (sym (append-nil (spelled t))) refl in
    let lexed = stretches_lexed t all.clear in
    let derived : Derives module_rule (lexemes (spelled t) (tokens_at 0 t)) tree = subst (λ (z : List Lexeme). Derives module_rule z tree) (sym seen) ([], s_at 0 t, refl, (refl, told.derived)) in
    record {
      raw = module_value tree;
      is = record { tokens = tokens_at 0 t; lexed = lexed; read = (tree, derived, refl, λ v d. unique (lexemes (spelled t) (tokens_at 0 t)) tree v derived d) };
      says = ap (λ (fs : List RawFunction). (let r : RawModule = record { headers = []; functions = fs } in r)) (map_both function_value bare_function told.tree ∙ told.says);
      only = λ other is. same_module (lexemes (spelled t) (tokens_at 0 t)) tree other derived
          (subst (λ (ts : List Token). IsModule (lexemes (spelled t) ts) other) (same_tokens (tokens_at 0 t) is.tokens (tokens_of (spelled t)) lexed is.lexed) is.read);
    }
