-- A token that its place refuses is refused as that kind.
use Rattle.std.proofs.Common.{◌≡◌, ℕ, zero, suc, ◌<◌, Bool, true, false, not, ◌&&◌, cond, List, [], ◌∷◌, ◌++◌, length, Err, refl, sym, ap, ◌∙◌, arith, inl, inr, append_assoc, length-append}
use Rattle.std.proofs.lemmas.Bool.{and_parts, not-true}
use Rattle.grammar.specs.Rules.{Lexeme, Kind, Rule, Empty, Tok, Seq, Alt, Opt, Many, Refuse, Chain, Tree, Each, ByFlag, OnFlag, ends, Derives, Refuses, heads, nullable, firsts, exts, disjoint, good, repeat, chain, by_flag, read}
use Rattle.grammar.proofs.Sets.{heads_left, heads_right, heads_append, heads_some, disjoint_heads}
use Rattle.grammar.proofs.Chains.{front_chain, refused_chain}
use Rattle.grammar.proofs.Exactness.{front_flag, flag_firsts, complete_flag, some_flag, free_flag, good_chain, front, front_each, Complete, complete, some_front}

pub refuses_front : (r : Rule) (ts : List Lexeme) (x : Lexeme) (k : Kind) (tail : List Lexeme) → Refuses r ts x k → heads (firsts r) (ts ++ x ∷ tail) ≡ true
refuses_front Empty ts x k tail d = absurd d
refuses_front (Tok c) ts x k tail d = absurd d
refuses_front (Seq a b) ts x k tail (inl d) = heads_left (firsts a) (cond (nullable a) (firsts b) []) (ts ++ x ∷ tail) (refuses_front a ts x k tail d)
refuses_front (Seq a b) ts x k tail (inr d) =
    let all : ts ++ x ∷ tail ≡ d.0 ++ (d.1 ++ x ∷ tail) = ap (λ (l : List Lexeme). l ++ x ∷ tail) d.2 ∙ append_assoc d.0 d.1 (x ∷ tail) in
    elim (front a d.0 d.3.0.0 d.3.0.1) [
      | inl p ↦ rw (all, p.0, p.1) (heads_right (firsts a) (firsts b) (d.1 ++ x ∷ tail) (refuses_front b d.1 x k tail d.3.1))
      | inr p ↦ rw all (heads_left (firsts a) (cond (nullable a) (firsts b) []) (d.0 ++ (d.1 ++ x ∷ tail)) (heads_append (firsts a) d.0 (d.1 ++ x ∷ tail) p))
    ]
refuses_front (Alt a b) ts x k tail (inl d) = heads_left (firsts a) (firsts b) (ts ++ x ∷ tail) (refuses_front a ts x k tail d)
refuses_front (Alt a b) ts x k tail (inr d) = heads_right (firsts a) (firsts b) (ts ++ x ∷ tail) (refuses_front b ts x k tail d)
refuses_front (Opt a) ts x k tail d = refuses_front a ts x k tail d
refuses_front (Many a) ts x k tail d =
    let all : ts ++ x ∷ tail ≡ d.0 ++ (d.1 ++ x ∷ tail) = ap (λ (l : List Lexeme). l ++ x ∷ tail) d.2 ∙ append_assoc d.0 d.1 (x ∷ tail) in
    elim (front_each a (front a) d.0 d.3.0.0 d.3.0.1) [
      | inl p ↦ rw (all, p) (refuses_front a d.1 x k tail d.3.1)
      | inr p ↦ rw all (heads_append (firsts a) d.0 (d.1 ++ x ∷ tail) p)
    ]
refuses_front (Refuse c j) ts x k tail d = rw d.0 d.1
refuses_front (Chain c a b) ts x k tail d =
    let all : ts ++ x ∷ tail ≡ d.0 ++ (d.1 ++ x ∷ tail) = ap (λ (l : List Lexeme). l ++ x ∷ tail) d.2 ∙ append_assoc d.0 d.1 (x ∷ tail) in
    elim (front_chain (ByFlag (Derives a) (Derives b)) (flag_firsts a b) c (front_flag a b (front a) (front b)) false d.0 d.3.0.0 d.3.0.1) [
      | inl p ↦
          elim d.3.1 [
            | inl z ↦ rw (all, p) (refuses_front a d.1 x k tail z.1)
            | inr z ↦ absurd (let e : ends c false d.0 ≡ false = ap (ends c false) p in let t = z.0 in cc)
          ]
      | inr p ↦ rw all (heads_append (firsts a) d.0 (d.1 ++ x ∷ tail) p)
    ]

abbrev pub Refusing : Rule → Type 0
Refusing r = (ts : List Lexeme) (x : Lexeme) (k : Kind) (tail : List Lexeme) → Refuses r ts x k → read r (ts ++ x ∷ tail) ≡ Err (k, x ∷ tail)

refused_each : (a : Rule) → Complete a → Refusing a → nullable a ≡ false → disjoint (exts a) (firsts a) ≡ true
    → (n : ℕ) (us ws : List Lexeme) (vs : List (Tree a)) (x : Lexeme) (k : Kind) (tail : List Lexeme) → length us < n → Each (Derives a) us vs → Refuses a ws x k
    → repeat (read a) (firsts a) n (us ++ (ws ++ x ∷ tail)) ≡ Err (k, x ∷ tail)
refused_each a one ra some dis zero us ws vs x k tail le d h = absurd (omega arith)
refused_each a one ra some dis (suc n) us ws [] x k tail le d h = rw (d, refuses_front a ws x k tail h, ra ws x k tail h) refl
refused_each a one ra some dis (suc n) us ws (v ∷ vs) x k tail le d h =
    let p = some_front a d.0 some (front a d.0 v d.3.0) in
    let le2 : length d.1 < n = (let i = heads_some (firsts a) d.0 p in let l = length-append d.0 d.1 in let m = ap length d.2 in omega arith) in
    let ih = refused_each a one ra some dis n d.1 ws vs x k tail le2 d.3.1 h in
    let z = refuses_front (Many a) (d.1 ++ ws) x k tail (d.1, ws, refl, ((vs, d.3.1), h)) in
    let z2 : heads (firsts a) (d.1 ++ (ws ++ x ∷ tail)) ≡ true = ap (heads (firsts a)) (sym (append_assoc d.1 ws (x ∷ tail))) ∙ z in
    let f = disjoint_heads (exts a) (firsts a) (d.1 ++ (ws ++ x ∷ tail)) dis z2 in
    let e = one d.0 v (d.1 ++ (ws ++ x ∷ tail)) d.3.0 f in
    let t = heads_append (firsts a) d.0 (d.1 ++ (ws ++ x ∷ tail)) p in
    ap (repeat (read a) (firsts a) (suc n)) (ap (λ (l : List Lexeme). l ++ (ws ++ x ∷ tail)) d.2 ∙ append_assoc d.0 d.1 (ws ++ x ∷ tail)) ∙ rw (t, e, ih) refl

heads_flag : (a b : Rule) (f : Bool) (ts : List Lexeme) (x : Lexeme) (k : Kind) (tail : List Lexeme) → OnFlag f (Refuses a ts x k) (Refuses b ts x k) → heads (flag_firsts a b f) (ts ++ x ∷ tail) ≡ true
heads_flag a b f ts x k tail (inl d) = rw d.0 (refuses_front a ts x k tail d.1)
heads_flag a b f ts x k tail (inr d) = rw d.0 (refuses_front b ts x k tail d.1)

refused_flag : (a b : Rule) → Refusing a → Refusing b → (f : Bool) (ts : List Lexeme) (x : Lexeme) (k : Kind) (tail : List Lexeme) → OnFlag f (Refuses a ts x k) (Refuses b ts x k) → by_flag (read a) (read b) f (ts ++ x ∷ tail) ≡ Err (k, x ∷ tail)
refused_flag a b ra rb f ts x k tail (inl d) = rw (d.0, ra ts x k tail d.1) refl
refused_flag a b ra rb f ts x k tail (inr d) = rw (d.0, rb ts x k tail d.1) refl

pub refused : (r : Rule) → good r ≡ true → Refusing r
refused Empty g ts x k tail d = absurd d
refused (Tok c) g ts x k tail d = absurd d
refused (Seq a b) g ts x k tail (inl d) = rw (refused a (and_parts (good a) (good b) (and_parts (good a && good b) (disjoint (exts a) (firsts b)) g).0).0 ts x k tail d) refl
refused (Seq a b) g ts x k tail (inr d) =
    let g1 = and_parts (good a && good b) (disjoint (exts a) (firsts b)) g in
    let g2 = and_parts (good a) (good b) g1.0 in
    let all : ts ++ x ∷ tail ≡ d.0 ++ (d.1 ++ x ∷ tail) = ap (λ (l : List Lexeme). l ++ x ∷ tail) d.2 ∙ append_assoc d.0 d.1 (x ∷ tail) in
    let f = disjoint_heads (exts a) (firsts b) (d.1 ++ x ∷ tail) g1.1 (refuses_front b d.1 x k tail d.3.1) in
    let e = complete a g2.0 d.0 d.3.0.0 (d.1 ++ x ∷ tail) d.3.0.1 f in
    rw (all, e, refused b g2.1 d.1 x k tail d.3.1) refl
refused (Alt a b) g ts x k tail (inl d) =
    let g1 = and_parts (good a && good b) (not (nullable a) && disjoint (firsts a) (firsts b)) g in
    rw (refuses_front a ts x k tail d, refused a (and_parts (good a) (good b) g1.0).0 ts x k tail d) refl
refused (Alt a b) g ts x k tail (inr d) =
    let g1 = and_parts (good a && good b) (not (nullable a) && disjoint (firsts a) (firsts b)) g in
    let g3 = and_parts (not (nullable a)) (disjoint (firsts a) (firsts b)) g1.1 in
    rw (disjoint_heads (firsts a) (firsts b) (ts ++ x ∷ tail) g3.1 (refuses_front b ts x k tail d), refused b (and_parts (good a) (good b) g1.0).1 ts x k tail d) refl
refused (Opt a) g ts x k tail d = rw (refuses_front a ts x k tail d, refused a (and_parts (good a) (not (nullable a)) g).0 ts x k tail d) refl
refused (Many a) g ts x k tail d =
    let g1 = and_parts (good a && not (nullable a)) (disjoint (exts a) (firsts a)) g in
    let g2 = and_parts (good a) (not (nullable a)) g1.0 in
    let all : ts ++ x ∷ tail ≡ d.0 ++ (d.1 ++ x ∷ tail) = ap (λ (l : List Lexeme). l ++ x ∷ tail) d.2 ∙ append_assoc d.0 d.1 (x ∷ tail) in
    let le : length d.0 < length (ts ++ x ∷ tail) = (let l = length-append d.0 d.1 in let m = ap length d.2 in let o = length-append ts (x ∷ tail) in omega arith) in
    ap (repeat (read a) (firsts a) (length (ts ++ x ∷ tail))) all ∙ refused_each a (complete a g2.0) (refused a g2.0) (not-true (nullable a) g2.1) g1.1 (length (ts ++ x ∷ tail)) d.0 d.1 d.3.0.0 x k tail le d.3.0.1 d.3.1
refused (Refuse c j) g ts x k tail d = rw (d.0, d.1, d.2) refl
refused (Chain c a b) g ts x k tail d =
    let q = good_chain c a b g in
    let all : ts ++ x ∷ tail ≡ d.0 ++ (d.1 ++ x ∷ tail) = ap (λ (l : List Lexeme). l ++ x ∷ tail) d.2 ∙ append_assoc d.0 d.1 (x ∷ tail) in
    let le : length d.0 < length (ts ++ x ∷ tail) = (let l = length-append d.0 d.1 in let m = ap length d.2 in let o = length-append ts (x ∷ tail) in omega arith) in
    ap (chain (by_flag (read a) (read b)) (flag_firsts a b) c false (length (ts ++ x ∷ tail))) all
    ∙ refused_chain (by_flag (read a) (read b)) (ByFlag (Derives a) (Derives b)) (λ f us y j. OnFlag f (Refuses a us y j) (Refuses b us y j)) (flag_firsts a b) (exts a ++ exts b) c
    (complete_flag a b (complete a q.first) (complete b q.second)) (some_flag a b q.first_some q.second_some) (free_flag a b q.free)
    (heads_flag a b) (refused_flag a b (refused a q.first) (refused b q.second)) (length (ts ++ x ∷ tail)) false d.0 d.1 d.3.0.0 x k tail le d.3.0.1 d.3.1
