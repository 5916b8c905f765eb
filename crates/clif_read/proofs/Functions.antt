-- The functions of all the tokens that are left.
use Rattle.std.proofs.Common.{◌≡◌, not, true, List, [], ◌∷◌, ◌++◌, map, Ok, Err, refl, sym, ap, subst, ◌∙◌}
use Rattle.std.proofs.lemmas.List.{append-nil}
use Rattle.grammar.specs.Rules.{Lexeme, Many, Tree, Derives, Out, heads_any, read}
use Rattle.grammar.proofs.Binds.{ok_is}
use Rattle.grammar.proofs.Exactness.{sound}
use Rattle.token_reader.specs.Values.{seen}
use Rattle.clif_read.specs.declared.raw.RawFunction.{RawFunction}
use Rattle.clif_read.specs.ModuleGrammar.{function}
use Rattle.clif_read.specs.ModuleValues.{function_value}
use Rattle.clif_read.specs.Modules.{function_at, functions_at}
use Rattle.clif_read.specs.Texts.{Functions}
use Rattle.clif_read.proofs.ModuleLaws.{function_is, functions_is}

-- what is read as a function is the value of a tree
pub function_read : (ts rest : List Lexeme) (f : RawFunction) → function_at ts ≡ Ok (f, rest) → (v : Tree function) × (f ≡ function_value v)
function_read ts rest f e = go (read function ts) (sym (function_is.same ts) ∙ e)
  where
    go : (o : Out (Tree function)) → seen function_value o ≡ Ok (f, rest) → (v : Tree function) × (f ≡ function_value v)
    go (Ok x) h = (x.0, sym (ap (λ p. p.0) (ok_is (function_value x.0, x.1) (f, rest) h)))
    go (Err x) h = absurd cc

pub functions_read : (ts : List Lexeme) (fs : List RawFunction) → functions_at ts ≡ Ok (fs, []) → Functions ts fs
functions_read ts fs e = go (read (Many function) ts) refl (sym (functions_is.same ts) ∙ e)
  where
    go : (o : Out (List (Tree function))) → read (Many function) ts ≡ o → seen (map function_value) o ≡ Ok (fs, []) → Functions ts fs
    go (Ok x) r h =
        let same = ok_is (map function_value x.0, x.1) (fs, []) h in
        let took = sound (Many function) ts x r in
        let all : ts ≡ took.0 = took.1 ∙ ap (λ (rest : List Lexeme). took.0 ++ rest) (ap (λ p. p.1) same) ∙ append-nil took.0 in
        record { trees = x.0; derived = subst (λ (us : List Lexeme). Derives (Many function) us x.0) (sym all) took.2; meant = sym (ap (λ p. p.0) same) }
    go (Err x) r h = absurd cc

nothing_left : (rest : List Lexeme) → not (heads_any rest) ≡ true → rest ≡ []
nothing_left [] e = refl
nothing_left (x ∷ xs) e = absurd cc

pub all_read : (given rest : List Lexeme) (fs : List RawFunction) → functions_at given ≡ Ok (fs, rest) → not (heads_any rest) ≡ true → Functions given fs
all_read given rest fs read last = functions_read given fs (read ∙ ap (λ (l : List Lexeme). Ok (fs, l)) (nothing_left rest last))
