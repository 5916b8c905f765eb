-- Sets of classes, and tests on the next token.
use Rattle.std.proofs.Common.{◌≡◌, ℕ, ◌≤◌, ◌==◌, Bool, true, false, not, List, [], ◌∷◌, ◌++◌, length, refl, sym, subst, ◌∙◌, arith, inl, inr}
use Rattle.std.specs.Prelude.{◌⊎◌}
use Rattle.std.specs.List.{list_all}
use Rattle.std.proofs.lemmas.List.Folds.{list_any-append}
use Rattle.std.proofs.lemmas.Bool.{eqb-true, and_parts, or_cases, or_left, or_right, or_parts, not-true}
use Rattle.grammar.specs.Rules.{Lexeme, member, heads, disjoint}

pub one_way : (b : Bool) → (b ≡ true) ⊎ (b ≡ false)
one_way true = inl refl
one_way false = inr refl

pub heads_split : (cs ds : List ℕ) (ts : List Lexeme) → heads (cs ++ ds) ts ≡ false → (heads cs ts ≡ false) × (heads ds ts ≡ false)
heads_split cs ds [] h = (refl, refl)
heads_split cs ds (x ∷ xs) h = or_parts (member x.class cs) (member x.class ds) (sym (list_any-append (λ d. d == x.class) cs ds) ∙ h)

pub heads_left : (cs ds : List ℕ) (ts : List Lexeme) → heads cs ts ≡ true → heads (cs ++ ds) ts ≡ true
heads_left cs ds [] h = absurd cc
heads_left cs ds (x ∷ xs) h = list_any-append (λ d. d == x.class) cs ds ∙ or_left (member x.class cs) (member x.class ds) h

pub heads_right : (cs ds : List ℕ) (ts : List Lexeme) → heads ds ts ≡ true → heads (cs ++ ds) ts ≡ true
heads_right cs ds [] h = absurd cc
heads_right cs ds (x ∷ xs) h = list_any-append (λ d. d == x.class) cs ds ∙ or_right (member x.class cs) (member x.class ds) h

-- what follows does not change the next token
pub heads_append : (cs : List ℕ) (ts us : List Lexeme) → heads cs ts ≡ true → heads cs (ts ++ us) ≡ true
heads_append cs [] us h = absurd cc
heads_append cs (x ∷ xs) us h = h

pub heads_some : (cs : List ℕ) (ts : List Lexeme) → heads cs ts ≡ true → 1 ≤ length ts
heads_some cs [] h = absurd cc
heads_some cs (x ∷ xs) h = omega arith

all_at : (p : ℕ → Bool) (cs : List ℕ) (c : ℕ) → list_all p cs ≡ true → member c cs ≡ true → p c ≡ true
all_at p [] c h m = absurd cc
all_at p (d ∷ ds) c h m =
    let b = and_parts (p d) (list_all p ds) h in
    elim (or_cases (d == c) (member c ds) m) [
      | inl e ↦ subst (λ (k : ℕ). p k ≡ true) (eqb-true d c e) b.0
      | inr e ↦ all_at p ds c b.1 e
    ]

pub disjoint_heads : (cs ds : List ℕ) (ts : List Lexeme) → disjoint cs ds ≡ true → heads ds ts ≡ true → heads cs ts ≡ false
disjoint_heads cs ds [] h m = refl
disjoint_heads cs ds (x ∷ xs) h m =
    elim (one_way (member x.class cs)) [
      | inl e ↦ absurd (let n = not-true (member x.class ds) (all_at (λ c. not (member c ds)) cs x.class h e) in cc)
      | inr e ↦ e
    ]
