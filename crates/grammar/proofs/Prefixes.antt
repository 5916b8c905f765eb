-- What begins a text of a rule is begun by each of its own beginnings.
use Rattle.std.proofs.Common.{◌≡◌, ℕ, Bool, false, List, [], ◌∷◌, ◌++◌, refl, sym, ap, subst, ◌∙◌, inl, inr, append_assoc}
use Rattle.std.specs.Prelude.{◌⊎◌}
use Rattle.grammar.specs.Rules.{Lexeme, Rule, Empty, Tok, Seq, Alt, Opt, Many, Refuse, Chain, Tree, Cut, Derives, Begins, Each, Links, ByFlag, OnFlag, ends}
use Rattle.grammar.proofs.Chains.{ends-append}
use Rattle.grammar.proofs.Past.{derives_begins}

tail_same : (x y : Lexeme) (xs ys : List Lexeme) → x ∷ xs ≡ y ∷ ys → (x ≡ y) × (xs ≡ ys)
tail_same x y xs ys e = (cc, cc)

-- of two ways to cut a list, one cuts it further on
pub further : (us ws ps qs : List Lexeme) → us ++ ws ≡ ps ++ qs
    → ((more : List Lexeme) × (ps ≡ us ++ more)) ⊎ ((more : List Lexeme) × (us ≡ ps ++ more) × (qs ≡ more ++ ws))
further [] ws ps qs e = inl (ps, refl)
further (u ∷ us) ws [] qs e = inr (u ∷ us, refl, sym e)
further (u ∷ us) ws (p ∷ ps) qs e = let t = tail_same u p (us ++ ws) (ps ++ qs) e in go t.0 (further us ws ps qs t.1)
  where
    go : u ≡ p → ((more : List Lexeme) × (ps ≡ us ++ more)) ⊎ ((more : List Lexeme) × (us ≡ ps ++ more) × (qs ≡ more ++ ws))
        → ((more : List Lexeme) × (p ∷ ps ≡ (u ∷ us) ++ more)) ⊎ ((more : List Lexeme) × (u ∷ us ≡ (p ∷ ps) ++ more) × (qs ≡ more ++ ws))
    go same (inl h) = inl (h.0, (λ j. sym same j ∷ h.1 j))
    go same (inr h) = inr (h.0, (λ j. same j ∷ h.1 j), h.2)

pub none_left : (us ws : List Lexeme) → us ++ ws ≡ [] → us ≡ []
none_left [] ws e = refl
none_left (u ∷ us) ws e = absurd cc

-- the rule is begun by each beginning of what begins it
abbrev Prefixed : Rule → Type 0
Prefixed r = (us ws : List Lexeme) → Begins r (us ++ ws) → Begins r us

-- a text of the rule is begun by each of its beginnings
of_text : (r : Rule) → Prefixed r → (us ws : List Lexeme) (v : Tree r) → Derives r (us ++ ws) v → Begins r us
of_text r prefixed us ws v d = prefixed us ws (derives_begins r (us ++ ws) v d)

-- ---- many

of_each : (a : Rule) → Prefixed a → (us ws ts : List Lexeme) (vs : List (Tree a)) → ts ≡ us ++ ws → Each (Derives a) ts vs → Begins (Many a) us
of_each a prefixed us ws ts [] e d = ([], us, refl, (([], refl), inl (none_left us ws (sym e ∙ d))))
of_each a prefixed us ws ts (v ∷ vs) e (ps, qs, cut, (one, more)) = go (further us ws ps qs (sym e ∙ cut)) (λ rest same. of_each a prefixed rest ws qs vs same more)
  where
    go : (((more : List Lexeme) × (ps ≡ us ++ more)) ⊎ ((more : List Lexeme) × (us ≡ ps ++ more) × (qs ≡ more ++ ws)))
        → ((rest : List Lexeme) → qs ≡ rest ++ ws → Begins (Many a) rest) → Begins (Many a) us
    go (inl h) later = ([], us, refl, (([], refl), inr (of_text a prefixed us h.0 v (subst (λ ts. Derives a ts v) h.1 one))))
    go (inr h) later =
        let b = later h.0 h.2 in
        (ps ++ b.0, b.1, h.1 ∙ (ap (λ ts. ps ++ ts) b.2 ∙ sym (append_assoc ps b.0 b.1)), ((v ∷ b.3.0.0, (ps, b.0, refl, (one, b.3.0.1))), b.3.1))

rest_begins : (a : Rule) → Prefixed a → (us ws qs : List Lexeme) → qs ≡ us ++ ws → (qs ≡ []) ⊎ Begins a qs → (us ≡ []) ⊎ Begins a us
rest_begins a prefixed us ws qs e (inl none) = inl (none_left us ws (sym e ∙ none))
rest_begins a prefixed us ws qs e (inr b) = inr (prefixed us ws (subst (Begins a) e b))

-- ---- a chain

-- begins a chain that goes on by the flag
abbrev Goes : ℕ → Rule → Rule → Bool → List Lexeme → Type 0
Goes c a b f ts =
    Cut ts (λ us ws. ((vs : List (Tree a ⊎ Tree b)) × Links (ByFlag (Derives a) (Derives b)) c f us vs)
    × ((ws ≡ []) ⊎ OnFlag (ends c f us) (Begins a ws) (Begins b ws)))

by_flag : (a b : Rule) → Prefixed a → Prefixed b → (f : Bool) (us ws ts : List Lexeme) (v : Tree a ⊎ Tree b) → ts ≡ us ++ ws
    → ByFlag (Derives a) (Derives b) f ts v → OnFlag f (Begins a us) (Begins b us)
by_flag a b one other f us ws ts (inl v) e d = inl (d.0, of_text a one us ws v (subst (λ l. Derives a l v) e d.1))
by_flag a b one other f us ws ts (inr v) e d = inr (d.0, of_text b other us ws v (subst (λ l. Derives b l v) e d.1))

of_links : (c : ℕ) (a b : Rule) → Prefixed a → Prefixed b → (f : Bool) (us ws ts : List Lexeme) (vs : List (Tree a ⊎ Tree b)) → ts ≡ us ++ ws
    → Links (ByFlag (Derives a) (Derives b)) c f ts vs → Goes c a b f us
of_links c a b first second f us ws ts [] e d = ([], us, refl, (([], refl), inl (none_left us ws (sym e ∙ d))))
of_links c a b first second f us ws ts (v ∷ vs) e (ps, qs, cut, (one, more)) =
    go (further us ws ps qs (sym e ∙ cut)) (λ rest same. of_links c a b first second (ends c f ps) rest ws qs vs same more)
  where
    go : (((more : List Lexeme) × (ps ≡ us ++ more)) ⊎ ((more : List Lexeme) × (us ≡ ps ++ more) × (qs ≡ more ++ ws)))
        → ((rest : List Lexeme) → qs ≡ rest ++ ws → Goes c a b (ends c f ps) rest) → Goes c a b f us
    go (inl h) later = ([], us, refl, (([], refl), inr (by_flag a b first second f us h.0 ps v h.1 one)))
    go (inr h) later =
        let k = later h.0 h.2 in (
          ps ++ k.0,
          k.1,
          h.1 ∙ (ap (λ ts. ps ++ ts) k.2 ∙ sym (append_assoc ps k.0 k.1)),
          (
            (v ∷ k.3.0.0, (ps, k.0, refl, (one, k.3.0.1))),
            subst (λ (g : Bool). (k.1 ≡ []) ⊎ OnFlag g (Begins a k.1) (Begins b k.1)) (sym (ends-append c f ps k.0)) k.3.1,
          ),
        )

on_flag : (a b : Rule) → Prefixed a → Prefixed b → (f : Bool) (us ws qs : List Lexeme) → qs ≡ us ++ ws
    → (qs ≡ []) ⊎ OnFlag f (Begins a qs) (Begins b qs) → (us ≡ []) ⊎ OnFlag f (Begins a us) (Begins b us)
on_flag a b one other f us ws qs e (inl none) = inl (none_left us ws (sym e ∙ none))
on_flag a b one other f us ws qs e (inr (inl h)) = inr (inl (h.0, one us ws (subst (Begins a) e h.1)))
on_flag a b one other f us ws qs e (inr (inr h)) = inr (inr (h.0, other us ws (subst (Begins b) e h.1)))

-- ---- every rule

pub prefix_begins : (r : Rule) (us ws : List Lexeme) → Begins r (us ++ ws) → Begins r us
prefix_begins Empty us ws b = none_left us ws b
prefix_begins (Tok c) [] ws b = inl refl
prefix_begins (Tok c) (u ∷ us) ws (inl none) = absurd cc
prefix_begins (Tok c) (u ∷ us) ws (inr one) =
    let t = tail_same u one.0 (us ++ ws) [] one.1 in
    inr (one.0, (λ j. t.0 j ∷ none_left us ws t.1 j), one.2)
prefix_begins (Seq a b) us ws (inl h) = inl (prefix_begins a us ws h)
prefix_begins (Seq a b) us ws (inr (ps, qs, cut, (one, other))) =
    elim (further us ws ps qs cut) [
      | inl h ↦ inl (of_text a (prefix_begins a) us h.0 one.0 (subst (λ ts. Derives a ts one.0) h.1 one.1))
      | inr h ↦ inr (ps, h.0, h.1, (one, prefix_begins b h.0 ws (subst (Begins b) h.2 other)))
    ]
prefix_begins (Alt a b) us ws (inl h) = inl (prefix_begins a us ws h)
prefix_begins (Alt a b) us ws (inr h) = inr (prefix_begins b us ws h)
prefix_begins (Opt a) us ws (inl none) = inl (none_left us ws none)
prefix_begins (Opt a) us ws (inr h) = inr (prefix_begins a us ws h)
prefix_begins (Many a) us ws (ps, qs, cut, (each, rest)) =
    elim (further us ws ps qs cut) [
      | inl h ↦ of_each a (prefix_begins a) us h.0 ps each.0 h.1 each.1
      | inr h ↦ (ps, h.0, h.1, (each, rest_begins a (prefix_begins a) h.0 ws qs h.2 rest))
    ]
prefix_begins (Refuse cs k) us ws b = none_left us ws b
prefix_begins (Chain c a b) us ws (ps, qs, cut, (links, rest)) =
    elim (further us ws ps qs cut) [
      | inl h ↦ of_links c a b (prefix_begins a) (prefix_begins b) false us h.0 ps links.0 h.1 links.1
      | inr h ↦ (ps, h.0, h.1, (links, on_flag a b (prefix_begins a) (prefix_begins b) (ends c false ps) h.0 ws qs h.2 rest))
    ]
