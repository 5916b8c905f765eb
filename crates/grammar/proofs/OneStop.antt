-- A list of tokens has at most one place where no text of a rule goes on, and none where it is one of the rule.
use Rattle.std.proofs.Common.{◌≡◌, List, [], ◌∷◌, ◌++◌, refl, sym, ap, subst, ◌∙◌, inl, inr, append_assoc}
use Rattle.std.specs.Prelude.{◌⊎◌}
use Rattle.std.proofs.lemmas.List.{append-nil}
use Rattle.grammar.specs.Rules.{Lexeme, Kind, Syntax, Rule, Tree, Derives, Begins, Refuses, GoesNoFurther, StopsAt}
use Rattle.grammar.specs.Laws.{OneStop}
use Rattle.grammar.proofs.Past.{derives_begins}
use Rattle.grammar.proofs.Prefixes.{further, prefix_begins}

-- no text of the rule goes on behind these tokens with the next of those that are left
abbrev Stuck : Rule → List Lexeme → List Lexeme → Type 0
Stuck r us rest = (x : Lexeme) (more : List Lexeme) → rest ≡ x ∷ more → Begins r (us ++ x ∷ []) → ⊥

stuck : (r : Rule) (us rest : List Lexeme) → GoesNoFurther r us rest → Stuck r us rest
stuck r us [] stop x more e b = absurd cc
stuck r us (y ∷ rest) stop x more e b = let same : x ≡ y = cc in stop (subst (λ (z : Lexeme). Begins r (us ++ z ∷ [])) same b)

cancelled : (us ws more : List Lexeme) → us ++ ws ≡ us ++ more → ws ≡ more
cancelled [] ws more e = e
cancelled (u ∷ us) ws more e = cancelled us ws more cc

none_between : (r : Rule) (us rest more m : List Lexeme) → Stuck r us rest → rest ≡ m ++ more → Begins r (us ++ m) → m ≡ []
none_between r us rest more [] stuck e b = refl
none_between r us rest more (x ∷ m) stuck e b =
    absurd (stuck x (m ++ more) e (prefix_begins r (us ++ x ∷ []) m (subst (Begins r) (sym (append_assoc us (x ∷ []) m)) b)))

-- of two such places none stands before the other
not_before : (r : Rule) (us rest ws more m : List Lexeme) → us ++ rest ≡ ws ++ more → Stuck r us rest → Begins r ws → ws ≡ us ++ m
    → (us ≡ ws) × (rest ≡ more)
not_before r us rest ws more m e stuck b cut =
    let behind : rest ≡ m ++ more = cancelled us rest (m ++ more) (e ∙ (ap (λ l. l ++ more) cut ∙ append_assoc us m more)) in
    let none : m ≡ [] = none_between r us rest more m stuck behind (subst (Begins r) cut b) in
    (sym (cut ∙ (ap (λ l. us ++ l) none ∙ append-nil us)), behind ∙ ap (λ l. l ++ more) none)

pub one_place : (r : Rule) (us rest ws more : List Lexeme) → us ++ rest ≡ ws ++ more → Begins r us → GoesNoFurther r us rest → Begins r ws
    → GoesNoFurther r ws more → (us ≡ ws) × (rest ≡ more)
one_place r us rest ws more e b s c t = go (further us rest ws more e)
  where
    go : ((m : List Lexeme) × (ws ≡ us ++ m)) ⊎ ((m : List Lexeme) × (us ≡ ws ++ m) × (more ≡ m ++ rest)) → (us ≡ ws) × (rest ≡ more)
    go (inl h) = not_before r us rest ws more h.0 e (stuck r us rest s) c h.1
    go (inr h) = let same = not_before r ws more us rest h.0 (sym e) (stuck r ws more t) b h.1 in (sym same.0, sym same.1)

-- ---- no text of the rule

pub not_derived : (r : Rule) (us rest : List Lexeme) → GoesNoFurther r us rest → (v : Tree r) → Derives r (us ++ rest) v → ⊥
not_derived r us [] stop v d = stop v (subst (λ l. Derives r l v) (append-nil us) d)
not_derived r us (x ∷ more) stop v d =
    let next : us ++ x ∷ more ≡ (us ++ x ∷ []) ++ more = sym (append_assoc us (x ∷ []) more) in
    stop (prefix_begins r (us ++ x ∷ []) more (derives_begins r ((us ++ x ∷ []) ++ more) v (subst (λ l. Derives r l v) next d)))

-- ---- the kind

pub no_further : (r : Rule) (us rest : List Lexeme) (k : Kind) → StopsAt r us k rest → GoesNoFurther r us rest
no_further r us [] k stop = stop.1
no_further r us (x ∷ more) k stop = stop.0

one_kind : (r : Rule) (us rest : List Lexeme) (j k : Kind) → StopsAt r us j rest → StopsAt r us k rest → j ≡ k
one_kind r us [] j k s t = s.0 ∙ sym t.0
one_kind r us (x ∷ rest) j k s t = go s.2 t.2
  where
    go : (j ≡ Syntax) ⊎ Refuses r us x j → (k ≡ Syntax) ⊎ Refuses r us x k → j ≡ k
    go (inl p) (inl q) = p ∙ sym q
    go (inl p) (inr q) = s.1 k q
    go (inr p) b = sym (t.1 j p)

pub one_stop : OneStop
one_stop r us rest ws more j k e b s c t =
    let one = one_place r us rest ws more e b (no_further r us rest j s) c (no_further r ws more k t) in
    let other : StopsAt r us k rest = subst (λ l. StopsAt r us k l) (sym one.1) (subst (λ l. StopsAt r l k more) (sym one.0) t) in
    (one_kind r us rest j k s other, one.1)
