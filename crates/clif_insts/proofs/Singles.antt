-- Rules whose texts are single tokens, and { } of them.
use Rattle.std.proofs.Common.{◌≡◌, ℕ, ◌==◌, Bool, true, false, List, [], ◌∷◌, ◌++◌, map, refl, sym, ap, subst, ◌∙◌, inl, inr}
use Rattle.std.specs.Prelude.{◌⊎◌}
use Rattle.std.specs.List.{list_all}
use Rattle.std.proofs.lemmas.Bool.{eqb-true, eq-eqb, and_parts, or_cases, and_from, or_left, or_right}
use Rattle.std.proofs.lemmas.List.{append-nil}
use Rattle.std.proofs.lemmas.List.Folds.{list_any-append, list_all-append}
use Rattle.grammar.specs.Rules.{Lexeme, Kind, Rule, Tok, Alt, Many, Refuse, Tree, Each, Derives, Begins, Refuses, member}
use Rattle.token_reader.specs.Values.{either}
use Rattle.clif_insts.specs.FlagLetter.{Means}

-- each of the tokens is of one of the classes
abbrev pub all_in : List ℕ → List Lexeme → Bool
all_in cs ts = list_all (λ x. member x.class cs) ts

abbrev pub One : List ℕ → List Lexeme → Type 0
One cs us = (x : Lexeme) × (us ≡ x ∷ []) × (member x.class cs ≡ true)

-- the texts of the rule are the tokens of the classes, and mean what m says
pub record Single {A : Type 0} (r : Rule) (f : Tree r → A) (cs : List ℕ) (m : Lexeme → A) : Type 0 where
  pub only : (us : List Lexeme) (v : Tree r) → Derives r us v → (x : Lexeme) × (us ≡ x ∷ []) × (member x.class cs ≡ true) × (f v ≡ m x)
  pub made : (x : Lexeme) → member x.class cs ≡ true → Means r f (x ∷ []) (m x)
  pub begun : (us : List Lexeme) → Begins r us → (us ≡ []) ⊎ One cs us
  pub begins : (us : List Lexeme) → One cs us → Begins r us
  pub refused : (us : List Lexeme) (x : Lexeme) (k : Kind) → Refuses r us x k → us ≡ []

in_left : (n : ℕ) (cs ds : List ℕ) → member n cs ≡ true → member n (cs ++ ds) ≡ true
in_left n cs ds h = list_any-append (λ d. d == n) cs ds ∙ or_left (member n cs) (member n ds) h

in_right : (n : ℕ) (cs ds : List ℕ) → member n ds ≡ true → member n (cs ++ ds) ≡ true
in_right n cs ds h = list_any-append (λ d. d == n) cs ds ∙ or_right (member n cs) (member n ds) h

in_either : (n : ℕ) (cs ds : List ℕ) → member n (cs ++ ds) ≡ true → (member n cs ≡ true) ⊎ (member n ds ≡ true)
in_either n cs ds h = or_cases (member n cs) (member n ds) (sym (list_any-append (λ d. d == n) cs ds) ∙ h)

is_in : (c n : ℕ) → n ≡ c → member n (c ∷ []) ≡ true
is_in c n e = or_left (c == n) false (eq-eqb c n (sym e))

in_is : (c n : ℕ) → member n (c ∷ []) ≡ true → n ≡ c
in_is c n h = elim (or_cases (c == n) false h) [ inl e ↦ sym (eqb-true c n e) | inr e ↦ absurd cc ]

pub single_tok : {A : Type 0} (c : ℕ) (f m : Lexeme → A) → ((x : Lexeme) → x.class ≡ c → f x ≡ m x) → Single (Tok c) f (c ∷ []) m
single_tok c f m same = record {
  only = λ us x d. (x, d.0, is_in c x.class d.1, same x d.1);
  made = λ x h. (x, (refl, in_is c x.class h), same x (in_is c x.class h));
  begun = λ us. elim [ inl e ↦ inl e | inr h ↦ inr (h.0, h.1, is_in c h.0.class h.2) ];
  begins = λ us h. inr (h.0, h.1, in_is c h.0.class h.2);
  refused = λ us x k h. absurd h;
}

pub single_refuse : {A : Type 0} (cs : List ℕ) (j : Kind) (f : ⊥ → A) (m : Lexeme → A) → Single (Refuse cs j) f [] m
single_refuse cs j f m = record {
  only = λ us v d. absurd d;
  made = λ x h. absurd cc;
  begun = λ us h. inl h;
  begins = λ us h. absurd (let e = h.2 in cc);
  refused = λ us x k h. h.0;
}

pub single_or : {A : Type 0} (a b : Rule) (f : Tree a → A) (g : Tree b → A) (cs ds : List ℕ) (m : Lexeme → A) → Single a f cs m → Single b g ds m → Single (Alt a b) (either f g) (cs ++ ds) m
single_or {A} a b f g cs ds m s t = record {
  only = only;
  made = λ x h. (elim (in_either x.class cs ds h) [
    | inl e ↦ (let k = s.made x e in (inl k.0, k.1, k.2))
    | inr e ↦ (let k = t.made x e in (inr k.0, k.1, k.2))
  ]);
  begun = λ us. elim [
    | inl h ↦ elim (s.begun us h) [ inl e ↦ inl e | inr k ↦ inr (k.0, k.1, in_left k.0.class cs ds k.2) ]
    | inr h ↦ elim (t.begun us h) [ inl e ↦ inl e | inr k ↦ inr (k.0, k.1, in_right k.0.class cs ds k.2) ]
  ];
  begins = λ us h. (elim (in_either h.0.class cs ds h.2) [ inl e ↦ inl (s.begins us (h.0, h.1, e)) | inr e ↦ inr (t.begins us (h.0, h.1, e)) ]);
  refused = λ us x k. elim [ inl h ↦ s.refused us x k h | inr h ↦ t.refused us x k h ];
}
  where
    only : (us : List Lexeme) (v : Tree a ⊎ Tree b) → Derives (Alt a b) us v → (x : Lexeme) × (us ≡ x ∷ []) × (member x.class (cs ++ ds) ≡ true) × (either f g v ≡ m x)
    only us (inl v) d = let k = s.only us v d in (k.0, k.1, in_left k.0.class cs ds k.2, k.3)
    only us (inr v) d = let k = t.only us v d in (k.0, k.1, in_right k.0.class cs ds k.2, k.3)

-- ---- { }

pub all_cons : (cs : List ℕ) (x : Lexeme) (xs : List Lexeme) → member x.class cs ≡ true → all_in cs xs ≡ true → all_in cs (x ∷ xs) ≡ true
all_cons cs x xs h k = and_from (member x.class cs) (all_in cs xs) h k

pub all_append : (cs : List ℕ) (us ws : List Lexeme) → all_in cs us ≡ true → all_in cs ws ≡ true → all_in cs (us ++ ws) ≡ true
all_append cs us ws h k = list_all-append (λ (x : Lexeme). member x.class cs) us ws ∙ and_from (all_in cs us) (all_in cs ws) h k

-- the texts of { } are the tokens of the classes, in any number
pub many_means : {A : Type 0} (r : Rule) (f : Tree r → A) (cs : List ℕ) (m : Lexeme → A) → Single r f cs m → (ts : List Lexeme) (vs : List (Tree r)) → Each (Derives r) ts vs
    → (all_in cs ts ≡ true) × (map f vs ≡ map m ts)
many_means r f cs m s ts [] d = subst (λ (l : List Lexeme). (all_in cs l ≡ true) × ([] ≡ map m l)) (sym d) (refl, refl)
many_means {A} r f cs m s ts (v ∷ vs) d =
    let k = s.only d.0 v d.3.0 in
    let rest = many_means r f cs m s d.1 vs d.3.1 in
    let whole : ts ≡ k.0 ∷ d.1 = d.2 ∙ ap (λ (l : List Lexeme). l ++ d.1) k.1 in
    subst (λ (l : List Lexeme). (all_in cs l ≡ true) × (map f (v ∷ vs) ≡ map m l)) (sym whole)
    (all_cons cs k.0 d.1 k.2 rest.0, ap (λ (a : A). a ∷ map f vs) k.3 ∙ ap (λ (l : List A). m k.0 ∷ l) rest.1)

pub many_made : {A : Type 0} (r : Rule) (f : Tree r → A) (cs : List ℕ) (m : Lexeme → A) → Single r f cs m → (ts : List Lexeme) → all_in cs ts ≡ true → Means (Many r) (map f) ts (map m ts)
many_made r f cs m s [] h = ([], refl, refl)
many_made {A} r f cs m s (x ∷ xs) h =
    let two = and_parts (member x.class cs) (all_in cs xs) h in
    let k = s.made x two.0 in
    let rest = many_made r f cs m s xs two.1 in
    (k.0 ∷ rest.0, (x ∷ [], xs, refl, (k.1, rest.1)), ap (λ (a : A). a ∷ map f rest.0) k.2 ∙ ap (λ (l : List A). m x ∷ l) rest.2)

-- and their beginnings are texts
pub many_begun : {A : Type 0} (r : Rule) (f : Tree r → A) (cs : List ℕ) (m : Lexeme → A) → Single r f cs m → (ts : List Lexeme) → Begins (Many r) ts → all_in cs ts ≡ true
many_begun r f cs m s ts h =
    let first = many_means r f cs m s h.0 h.3.0.0 h.3.0.1 in
    subst (λ (l : List Lexeme). all_in cs l ≡ true) (sym h.2)
    (elim h.3.1 [
      | inl e ↦ all_append cs h.0 h.1 first.0 (subst (λ (l : List Lexeme). all_in cs l ≡ true) (sym e) refl)
      | inr b ↦ elim (s.begun h.1 b) [
        | inl e ↦ all_append cs h.0 h.1 first.0 (subst (λ (l : List Lexeme). all_in cs l ≡ true) (sym e) refl)
        | inr k ↦ all_append cs h.0 h.1 first.0 (subst (λ (l : List Lexeme). all_in cs l ≡ true) (sym k.1) (all_cons cs k.0 [] k.2 refl))
      ]
    ])

pub many_begins : {A : Type 0} (r : Rule) (f : Tree r → A) (cs : List ℕ) (m : Lexeme → A) → Single r f cs m → (ts : List Lexeme) → all_in cs ts ≡ true → Begins (Many r) ts
many_begins r f cs m s ts h = let k = many_made r f cs m s ts h in (ts, [], sym (append-nil ts), ((k.0, k.1), inl refl))

-- a word is refused behind texts of { } alone
pub many_refused : {A : Type 0} (r : Rule) (f : Tree r → A) (cs : List ℕ) (m : Lexeme → A) → Single r f cs m → (ts : List Lexeme) (x : Lexeme) (k : Kind) → Refuses (Many r) ts x k → (all_in cs ts ≡ true) × Refuses r [] x k
many_refused r f cs m s ts x k h =
    let first = many_means r f cs m s h.0 h.3.0.0 h.3.0.1 in
    let none = s.refused h.1 x k h.3.1 in
    let whole : ts ≡ h.0 = h.2 ∙ ap (λ (l : List Lexeme). h.0 ++ l) none ∙ append-nil h.0 in
    (subst (λ (l : List Lexeme). all_in cs l ≡ true) (sym whole) first.0, subst (λ (l : List Lexeme). Refuses r l x k) none h.3.1)

pub many_refuses : {A : Type 0} (r : Rule) (f : Tree r → A) (cs : List ℕ) (m : Lexeme → A) → Single r f cs m → (ts : List Lexeme) (x : Lexeme) (k : Kind) → all_in cs ts ≡ true → Refuses r [] x k → Refuses (Many r) ts x k
many_refuses r f cs m s ts x k h j = let d = many_made r f cs m s ts h in (ts, [], sym (append-nil ts), ((d.0, d.1), j))
