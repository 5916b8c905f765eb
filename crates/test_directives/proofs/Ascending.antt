-- The functions of a text stand one behind the other.
use Rattle.std.proofs.Common.{◌≡◌, ℕ, ◌+◌, ◌<◌, ◌≤◌, Bool, true, false, cond, List, [], ◌∷◌, ◌++◌, length, map, sym, ap, subst, ◌∙◌, arith}
use Rattle.grammar.specs.Rules.{Lexeme, Tree, Derives, Each}
use Rattle.clif_lex.specs.declared.spans.Token.{Token}
use Rattle.clif_lex.specs.Spelling.{StandFrom}
use Rattle.clif_lex.proofs.Readings.{tokens_stand}
use Rattle.clif_words.specs.Lexemes.{lexeme, lexemes, is_comment}
use Rattle.clif_read.specs.declared.raw.RawFunction.{RawFunction}
use Rattle.clif_read.specs.declared.raw.RawModule.{RawModule}
use Rattle.clif_read.specs.ModuleGrammar.{function, module_rule}
use Rattle.clif_read.specs.ModuleValues.{function_value}
use Rattle.clif_read.specs.Texts.{IsModuleText}
use Rattle.test_directives.specs.Placing.{AreAscending}
use Rattle.test_directives.specs.Tests.{first_spot}

-- tokens one behind the other, from a place of the text on
abbrev Behind : List ℕ → ℕ → List Lexeme → Type 0
Behind text from [] = from ≤ length text
Behind text from (x ∷ xs) = (from ≤ x.spot) × Behind text (x.spot + 1) xs

weaker : (text : List ℕ) (m n : ℕ) (xs : List Lexeme) → m ≤ n → Behind text n xs → Behind text m xs
weaker text m n [] le b = omega arith
weaker text m n (x ∷ xs) le b = let a = b.0 in (omega arith, b.1)

skipped : (text : List ℕ) (from : ℕ) (us vs : List Lexeme) → Behind text from (us ++ vs) → Behind text from vs
skipped text from [] vs b = b
skipped text from (u ∷ us) vs b = let a = b.0 in weaker text from (u.spot + 1) vs (omega arith) (skipped text (u.spot + 1) us vs b.1)

stand_behind : (text : List ℕ) (from : ℕ) (ts : List Token) → from ≤ length text → StandFrom text from ts → Behind text from (lexemes text ts)
unfolding lexemes
stand_behind text from [] le s = le
stand_behind text from (t ∷ ts) le s =
    let some = s.1.some in
    let within = s.1.within in
    let a = s.0 in
    let rest : Behind text t.end (lexemes text ts) = stand_behind text t.end ts within s.3 in
    go (is_comment t.kind) (weaker text from t.end (lexemes text ts) (omega arith) rest) (omega arith, weaker text (t.start + 1) t.end (lexemes text ts) (omega arith) rest)
  where
    go : (b : Bool) → Behind text from (lexemes text ts) → (from ≤ t.start) × Behind text (t.start + 1) (lexemes text ts)
        → Behind text from (cond b (lexemes text ts) (lexeme text t ∷ lexemes text ts))
    go true rest all = rest
    go false rest all = all

functions_ascend : (text : List ℕ) (from : ℕ) (ts : List Lexeme) (vs : List (Tree function)) → Each (Derives function) ts vs → Behind text from ts
    → AreAscending text from (map function_value vs)
functions_ascend text from ts [] e b = subst (Behind text from) e b
functions_ascend text from ts (v ∷ vs) (us, rest, cut, (one, more)) b =
    let split : ts ≡ (v.0 ∷ one.1) ++ rest = cut ∙ ap (λ (xs : List Lexeme). xs ++ rest) (one.2 ∙ ap (λ (xs : List Lexeme). xs ++ one.1) one.3.0.0) in
    let all : Behind text from ((v.0 ∷ one.1) ++ rest) = subst (Behind text from) split b in
    (all.0, functions_ascend text (v.0.spot + 1) rest vs more (skipped text (v.0.spot + 1) one.1 rest all.1))

module_of : (text : List ℕ) (raw : RawModule) (m : IsModuleText text raw) → Derives module_rule (lexemes text m.tokens) m.read.0 → AreAscending text 0 raw.functions
module_of text raw m (us, ws, cut, (hs, fs)) =
    let stand : Behind text 0 (lexemes text m.tokens) = stand_behind text 0 m.tokens (omega arith) (tokens_stand text m.tokens m.lexed) in
    subst (AreAscending text 0) (sym (ap (λ (r : RawModule). r.functions) m.read.2))
    (functions_ascend text 0 ws m.read.0.1 fs (skipped text 0 us ws (subst (Behind text 0) cut stand)))

pub module_ascends : (text : List ℕ) (raw : RawModule) → IsModuleText text raw → AreAscending text 0 raw.functions
module_ascends text raw m = module_of text raw m m.read.1

below : (text : List ℕ) (from : ℕ) (gs : List RawFunction) → AreAscending text from gs → from ≤ length text
below text from [] b = b
below text from (g ∷ gs) b = let c = b.0 in let d = below text (g.spot + 1) gs b.1 in omega arith

pub later : (text : List ℕ) (from : ℕ) (f : RawFunction) (fs : List RawFunction) → AreAscending text from (f ∷ fs) → (f.spot < first_spot text fs) × (f.spot < length text)
later text from f fs a = go fs a.1
  where
    go : (gs : List RawFunction) → AreAscending text (f.spot + 1) gs → (f.spot < first_spot text gs) × (f.spot < length text)
    go [] b = (omega (arith, b), omega (arith, b))
    go (g ∷ gs) b = let c = b.0 in let d = below text (g.spot + 1) gs b.1 in (omega arith, omega arith)

pub weaker_ascending : (text : List ℕ) (m n : ℕ) (fs : List RawFunction) → m ≤ n → AreAscending text n fs → AreAscending text m fs
weaker_ascending text m n [] le b = omega arith
weaker_ascending text m n (f ∷ fs) le b = let a = b.0 in (omega arith, b.1)
