-- What stands in the stretches of a text stands in the text.
use Rattle.std.proofs.Common.{◌≡◌, ℕ, ◌+◌, ◌-◌, ◌≤◌, true, false, Bool, List, [], ◌++◌, length, take, drop, slice_range, take-add, drop-drop, Result, Ok, refl, sym, ap, subst, ◌∙◌, arith}
use Rattle.std.proofs.lemmas.List.{append-nil, map-append, take_rest}
use Rattle.grammar.specs.Rules.{Lexeme, Many, Tree, Derives, read}
use Rattle.grammar.proofs.Binds.{ok_is}
use Rattle.grammar.proofs.Exactness.{complete}
use Rattle.grammar.proofs.Joins.{each_join, seq_join}
use Rattle.clif_lex.specs.declared.spans.Token.{Token}
use Rattle.clif_lex.specs.declared.faults.LexErr.{LexErr}
use Rattle.clif_lex.specs.Lexing.{tokens_of}
use Rattle.clif_lex.specs.Stretches.{IsCut, IsStretch, stretch_tokens, preamble_after}
use Rattle.clif_lex.proofs.Stretches.{stretches_join, whole_stretch, empty_stretch, tokens_are_in, preamble_further}
use Rattle.clif_words.specs.Lexemes.{lexemes}
use Rattle.clif_words.specs.Terminals.{header}
use Rattle.clif_words.proofs.Joined.{lexemes-append}
use Rattle.clif_read.specs.declared.raw.RawFunction.{RawFunction}
use Rattle.clif_read.specs.declared.raw.RawModule.{RawModule}
use Rattle.clif_read.specs.ModuleGrammar.{function, module_rule}
use Rattle.clif_read.specs.ModuleValues.{function_value, module_value}
use Rattle.clif_read.specs.Modules.{whole_module_at}
use Rattle.clif_read.specs.Texts.{IsModule}
use Rattle.clif_read.specs.Texts.{IsModuleText, Functions}
use Rattle.read_workers.specs.Ranges.{IsTokenRange, AreFunctions, AreListed, IsFront, with_functions}
use Rattle.range_workers.specs.Follow.{Follow}
use Rattle.clif_read.proofs.Whole.{found_at}

-- ---- what reading gives

-- a module's tree is its only one
pub is_module : (ts : List Lexeme) (v : Tree module_rule) → Derives module_rule ts v → IsModule ts (module_value v)
is_module ts v d = (v, d, refl, λ w e. ap (λ p. p.0) (ok_is (w, []) (v, []) (sym (reads w e) ∙ reads v d)))
  where
    reads : (w : Tree module_rule) → Derives module_rule ts w → read module_rule ts ≡ Ok (w, [])
    reads w e = ap (read module_rule) (sym (append-nil ts)) ∙ complete module_rule refl ts w [] e refl

-- ---- one list of tokens, and another behind it

none : Functions [] []
none = record { trees = []; derived = refl; meant = refl }

both : (ts us : List Lexeme) (fs gs : List RawFunction) → Functions ts fs → Functions us gs → Functions (ts ++ us) (fs ++ gs)
both ts us fs gs f g = record {
  trees = f.trees ++ g.trees;
  derived = each_join (Derives function) ts us f.trees g.trees f.derived g.derived;
  meant = rw (f.meant, g.meant, map-append function_value f.trees g.trees) refl;
}

more_of_module : (ts us : List Lexeme) (m : RawModule) (fs : List RawFunction) → IsModule ts m → Functions us fs → IsModule (ts ++ us) (with_functions m fs)
more_of_module ts us m fs (tree, derived, meant, only) f =
    let all : Tree module_rule = (tree.0, tree.1 ++ f.trees) in
    subst (IsModule (ts ++ us)) (rw (meant, f.meant, map-append function_value tree.1 f.trees) refl)
    (is_module (ts ++ us) all (seq_join (Many header) function ts us tree.0 tree.1 f.trees derived f.derived))

-- ---- stretches

pub no_functions : (text : List ℕ) (at : ℕ) → IsCut text at → AreFunctions text at at []
unfolding lexemes
no_functions text at cut = record { tokens = []; stretch = empty_stretch text false at cut.0; read = none }

more_functions : (text : List ℕ) (a b c : ℕ) (fs gs : List RawFunction) → IsCut text b → AreFunctions text a b fs → AreFunctions text b c gs → AreFunctions text a c (fs ++ gs)
more_functions text a b c fs gs cut f g = record {
  tokens = f.tokens ++ g.tokens;
  stretch = stretches_join text false a b c f.tokens g.tokens f.stretch cut g.stretch;
  read = subst (λ (ts : List Lexeme). Functions ts (fs ++ gs)) (sym (lexemes-append text f.tokens g.tokens))
      (both (lexemes text f.tokens) (lexemes text g.tokens) fs gs f.read g.read);
}

pub range_follows : (text : List ℕ) (a b : ℕ) (fs : List RawFunction) → IsCut text a → AreFunctions text a b fs → Follow (AreFunctions text) a b fs
range_follows text a b fs cut f start before s = more_functions text start a b before fs cut s f

-- ---- the front

-- a front with functions behind it is a front
pub front_goes_on : (text : List ℕ) (at to : ℕ) (m : RawModule) (fs : List RawFunction) → IsCut text at → IsFront text at m → AreFunctions text at to fs → IsFront text to (with_functions m fs)
front_goes_on text at to m fs cut front more =
    let behind = subst (λ (p : Bool). IsStretch text p at to more.tokens) (sym front.no_headers) more.stretch in
    record {
      tokens = front.tokens ++ more.tokens;
      stretch = stretches_join text true 0 at to front.tokens more.tokens front.stretch cut behind;
      read = subst (λ (ts : List Lexeme). IsModule ts (with_functions m fs)) (sym (lexemes-append text front.tokens more.tokens))
          (more_of_module (lexemes text front.tokens) (lexemes text more.tokens) m fs front.read more.read);
      no_headers = preamble_further true front.tokens more.tokens ∙ ap (λ (p : Bool). preamble_after p more.tokens) front.no_headers;
    }

-- no front is empty
pub front_is_some : (text : List ℕ) (m : RawModule) → IsFront text 0 m → ⊥
front_is_some text m front =
    let none : [] ≡ front.tokens = lexed_same [] front.tokens (sym (empty_stretch text true 0 (omega arith)).lexed ∙ front.stretch.lexed) in
    let ended : preamble_after true [] ≡ false = subst (λ (ts : List Token). preamble_after true ts ≡ false) (sym none) front.no_headers in
    absurd cc
  where
    lexed_same : (ts us : List Token) → (let read : Result (List Token) LexErr = Ok ts in read) ≡ Ok us → ts ≡ us
    lexed_same ts us e = cc

-- a front up to the text's end is the text's module
pub front_is_text : (text : List ℕ) (m : RawModule) → IsFront text (length text) m → IsModuleText text m
front_is_text text m front = record { tokens = front.tokens; lexed = whole_stretch text front.tokens front.stretch; read = front.read }

pub whole_text : (text : List ℕ) (at : ℕ) (m : RawModule) (fs : List RawFunction) → IsCut text at → IsFront text at m → AreFunctions text at (length text) fs → IsModuleText text (with_functions m fs)
whole_text text at m fs cut front more = front_is_text text (with_functions m fs) (front_goes_on text at (length text) m fs cut front more)

-- a text of no bytes is a module of no functions
pub empty_text : (text : List ℕ) → length text ≡ 0 → IsModuleText text (record { headers = []; functions = [] })
unfolding lexemes
empty_text text none = record {
  tokens = [];
  lexed = whole_stretch text [] (subst (λ (to : ℕ). IsStretch text true 0 to []) (sym none) (empty_stretch text true 0 (omega arith)));
  read = is_module [] ([], []) ([], [], refl, (refl, refl));
}

-- ---- ranges of a list of tokens

lexemes-between : (text : List ℕ) (ts : List Token) (a b c : ℕ) → a ≤ b → b ≤ c → lexemes text (slice_range ts a c) ≡ lexemes text (slice_range ts a b) ++ lexemes text (slice_range ts b c)
lexemes-between text ts a b c ab bc =
    let size : c - a ≡ (b - a) + (c - b) = omega arith in
    let place : a + (b - a) ≡ b = omega arith in
    let halves : slice_range ts a c ≡ slice_range ts a b ++ slice_range ts b c =
    ap (λ n. take n (drop a ts)) size ∙ take-add (b - a) (c - b) (drop a ts)
    ∙ ap (λ us. slice_range ts a b ++ take (c - b) us) (drop-drop (b - a) a ts ∙ ap (λ n. drop n ts) place) in
    ap (lexemes text) halves ∙ lexemes-append text (slice_range ts a b) (slice_range ts b c)

pub whole_token_range : (text : List ℕ) (ts : List Token) (size : ℕ) → tokens_of text ≡ Ok ts → size ≡ length ts → IsTokenRange text ts 0 size
whole_token_range text ts size lexed all = record { ordered = omega arith; within = omega (arith, all); inside = tokens_are_in text ts lexed }

-- a range that is empty, and one with the next behind it
pub empty_token_range : (text : List ℕ) (ts : List Token) (a b : ℕ) → IsTokenRange text ts a b → IsTokenRange text ts a a
empty_token_range text ts a b s = record { ordered = omega arith; within = omega (arith, s.ordered, s.within); inside = s.inside }

more_token_range : (text : List ℕ) (ts : List Token) (a b c : ℕ) → IsTokenRange text ts a b → IsTokenRange text ts b c → IsTokenRange text ts a c
more_token_range text ts a b c s t = record { ordered = omega (arith, s.ordered, t.ordered); within = t.within; inside = s.inside }

pub none_listed : (text : List ℕ) (ts : List Token) (at : ℕ) → AreListed text ts at at []
unfolding lexemes
none_listed text ts at =
    let nothing : at - at ≡ 0 = omega arith in
    subst (λ n. Functions (lexemes text (take n (drop at ts))) []) (sym nothing) none

more_listed : (text : List ℕ) (ts : List Token) (a b c : ℕ) (fs gs : List RawFunction) → a ≤ b → b ≤ c → AreListed text ts a b fs → AreListed text ts b c gs → AreListed text ts a c (fs ++ gs)
more_listed text ts a b c fs gs ab bc f g =
    subst (λ (us : List Lexeme). Functions us (fs ++ gs)) (sym (lexemes-between text ts a b c ab bc))
    (both (lexemes text (slice_range ts a b)) (lexemes text (slice_range ts b c)) fs gs f g)

pub token_range_follows : (text : List ℕ) (ts : List Token) (a b : ℕ) (fs : List RawFunction) → IsTokenRange text ts a b → AreListed text ts a b fs → Follow (λ from to functions. IsTokenRange text ts from to × AreListed text ts from to functions) a b fs
token_range_follows text ts a b fs s f start before t =
    (more_token_range text ts start a b t.0 s, more_listed text ts start a b before fs t.0.ordered s.ordered t.1 f)

pub whole_list : (text : List ℕ) (ts : List Token) (at size : ℕ) (m : RawModule) (fs : List RawFunction) → size ≡ length ts → at ≤ size → IsModule (lexemes text (slice_range ts 0 at)) m → AreListed text ts at size fs → IsModule (lexemes text ts) (with_functions m fs)
whole_list text ts at size m fs all le front more =
    let whole : slice_range ts 0 size ≡ ts = ap (slice_range ts 0) all ∙ take_rest ts 0 in
    subst (λ (us : List Lexeme). IsModule us (with_functions m fs)) (sym (lexemes-between text ts 0 at size (omega arith) le) ∙ ap (lexemes text) whole)
    (more_of_module (lexemes text (slice_range ts 0 at)) (lexemes text (slice_range ts at size)) m fs front more)

-- ---- what the calls answer

pub stretch_read : (text : List ℕ) (from to : ℕ) (ts : List Token) (given : List Lexeme) (fs : List RawFunction)
    → from ≤ to → to ≤ length text → stretch_tokens text false from to ≡ Ok ts → given ≡ lexemes text ts → Functions given fs → AreFunctions text from to fs
stretch_read text from to ts given fs ordered within lexed same read =
    record { tokens = ts; stretch = record { ordered = ordered; within = within; lexed = lexed }; read = subst (λ (us : List Lexeme). Functions us fs) same read }

pub front_read : (text : List ℕ) (to : ℕ) (ts : List Token) (given rest : List Lexeme) (m : RawModule)
    → to ≤ length text → stretch_tokens text true 0 to ≡ Ok ts → given ≡ lexemes text ts → whole_module_at given ≡ Ok (m, rest) → preamble_after true ts ≡ false → IsFront text to m
front_read text to ts given rest m within lexed same read no_headers =
    record { tokens = ts; stretch = record { ordered = omega arith; within = within; lexed = lexed }; read = found_at (lexemes text ts) given rest 0 m same read; no_headers = no_headers }
