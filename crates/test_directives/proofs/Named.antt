-- The name that all of a text's tokens are, by reading them from the left.
use Rattle.std.proofs.Common.{◌≡◌, ℕ, Bool, true, false, cond, List, Option, Some, None, Result, Ok, Err, refl, sym, ap, ◌∙◌}
use Rattle.grammar.specs.Rules.{Lexeme, Kind, Syntax, Tree, Out, ◌>>=◌, heads_any, read}
use Rattle.grammar.proofs.Binds.{ok_is}
use Rattle.token_reader.specs.Values.{seen}
use Rattle.clif_read.specs.Declarations.{func_name_at}
use Rattle.clif_read.specs.DeclarationValues.{func_name_value}
use Rattle.clif_read.specs.ModuleGrammar.{func_name}
use Rattle.clif_read.specs.declared.raw.RawFuncName.{RawFuncName}
use Rattle.clif_read.proofs.DeclarationLaws.{func_name_is}
use Rattle.clif_lex.specs.declared.spans.Token.{Token}
use Rattle.clif_words.specs.Lexemes.{lexemes}
use Rattle.test_directives.specs.Directives.{spelled_name, name_by}

-- the name that was read, where no token is left
abbrev by_end : Out (Tree func_name) → Option (List ℕ)
by_end (Ok x) = cond (heads_any x.1) None (Some (spelled_name (func_name_value x.0)))
by_end (Err e) = None

read_to_end : (text : List ℕ) (ts : List Token) → name_by text ts ≡ by_end (read func_name (lexemes text ts))
read_to_end text ts = go (read func_name (lexemes text ts))
  where
    ends : (v : Tree func_name) (rest : List Lexeme) (b : Bool)
        → (elim (cond {A = Result (Tree func_name) (Kind × List Lexeme)} b (Err (Syntax, rest)) (Ok v)) as (λ r. Option (List ℕ)) [ Err stop ↦ None | Ok w ↦ Some (spelled_name (func_name_value w)) ])
        ≡ cond b None (Some (spelled_name (func_name_value v)))
    ends v rest true = refl
    ends v rest false = refl

    go : (o : Out (Tree func_name))
        → (elim (o >>= λ x. cond {A = Result (Tree func_name) (Kind × List Lexeme)} (heads_any x.1) (Err (Syntax, x.1)) (Ok x.0)) as (λ r. Option (List ℕ)) [ Err stop ↦ None | Ok w ↦ Some (spelled_name (func_name_value w)) ])
        ≡ by_end o
    go (Ok x) = ends x.0 x.1 (heads_any x.1)
    go (Err e) = refl

pub name_read : (text : List ℕ) (ts : List Token) (name : RawFuncName) (rest : List Lexeme) (b : Bool) → func_name_at (lexemes text ts) ≡ Ok (name, rest) → heads_any rest ≡ b
    → name_by text ts ≡ cond b None (Some (spelled_name name))
name_read text ts name rest b e left =
    read_to_end text ts ∙ (go (read func_name (lexemes text ts)) (sym (func_name_is.same (lexemes text ts)) ∙ e) ∙ ap (λ (d : Bool). cond d None (Some (spelled_name name))) left)
  where
    go : (o : Out (Tree func_name)) → seen func_name_value o ≡ Ok (name, rest) → by_end o ≡ cond (heads_any rest) None (Some (spelled_name name))
    go (Ok x) h = ap (λ (q : RawFuncName × List Lexeme). cond (heads_any q.1) None (Some (spelled_name q.0))) (ok_is (func_name_value x.0, x.1) (name, rest) h)
    go (Err d) h = absurd cc

pub name_not_read : (text : List ℕ) (ts : List Token) (d : Kind × List Lexeme) → func_name_at (lexemes text ts) ≡ Err d → name_by text ts ≡ None
name_not_read text ts d e = read_to_end text ts ∙ go (read func_name (lexemes text ts)) (sym (func_name_is.same (lexemes text ts)) ∙ e)
  where
    go : (o : Out (Tree func_name)) → seen func_name_value o ≡ Err d → by_end o ≡ None
    go (Ok x) h = absurd cc
    go (Err c) h = refl
