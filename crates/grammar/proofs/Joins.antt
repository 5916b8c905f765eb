-- Texts of a rule that repeats, one after the other.
use Rattle.std.proofs.Common.{List, [], ◌∷◌, ◌++◌, sym, ap, subst, ◌∙◌, append_assoc}
use Rattle.grammar.specs.Rules.{Lexeme, Rule, Seq, Many, Tree, Each, Derives}

pub each_join : {A : Type 0} (D : List Lexeme → A → Type 0) (xs ys : List Lexeme) (vs ws : List A) → Each D xs vs → Each D ys ws → Each D (xs ++ ys) (vs ++ ws)
each_join D xs ys [] ws d e = subst (λ (zs : List Lexeme). Each D (zs ++ ys) ws) (sym d) e
each_join D xs ys (v ∷ vs) ws d e = (d.0, d.1 ++ ys, ap (λ (zs : List Lexeme). zs ++ ys) d.2 ∙ append_assoc d.0 d.1 ys, (d.3.0, each_join D d.1 ys vs ws d.3.1 e))

-- more of what repeats, behind a rule and what repeats
pub seq_join : (a b : Rule) (xs ys : List Lexeme) (v : Tree a) (vs ws : List (Tree b)) → Derives (Seq a (Many b)) xs (v, vs) → Derives (Many b) ys ws → Derives (Seq a (Many b)) (xs ++ ys) (v, vs ++ ws)
seq_join a b xs ys v vs ws d e = (d.0, d.1 ++ ys, ap (λ (zs : List Lexeme). zs ++ ys) d.2 ∙ append_assoc d.0 d.1 ys, (d.3.0, each_join (Derives b) d.1 ys vs ws d.3.1 e))
