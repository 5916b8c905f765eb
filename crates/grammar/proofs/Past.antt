-- Reading goes past each text that begins the rule, and each refusal is met.
use Rattle.std.proofs.Common.{◌≡◌, ℕ, zero, suc, ◌≤◌, Bool, true, false, not, ◌&&◌, cond, List, [], ◌∷◌, ◌++◌, length, Some, None, Result, Ok, Err, refl, sym, ap, subst, ◌∙◌, arith, inl, inr, append_assoc, length-append}
use Rattle.std.specs.Prelude.{◌⊎◌}
use Rattle.std.proofs.lemmas.Bool.{eq-eqb, and_parts, not-true}
use Rattle.std.proofs.lemmas.List.{append-nil}
use Rattle.grammar.specs.Rules.{Lexeme, Kind, Rule, Empty, Tok, Seq, Alt, Opt, Many, Refuse, Chain, Tree, Each, Links, ByFlag, OnFlag, ends, Derives, Begins, heads, nullable, firsts, exts, disjoint, good, Out, ◌>>=◌, repeat, used, chain, by_flag, read}
use Rattle.grammar.proofs.Sets.{heads_append, heads_some, disjoint_heads}
use Rattle.grammar.proofs.Chains.{ends-append, front_chain, chain_step}
use Rattle.grammar.proofs.Exactness.{front_flag, flag_firsts, complete_flag, some_flag, free_flag, good_chain, sound, front, begins_front, Complete, complete, some_front}
use Rattle.grammar.proofs.Stops.{stopped}

abbrev Stop : Type 0
Stop = Kind × List Lexeme

-- no more is left than this many tokens
abbrev pub Left : {A : Type 0} → ℕ → Result (A × List Lexeme) Stop → Type 0
Left n (Ok x) = length x.1 ≤ n
Left n (Err e) = length e.1 ≤ n

left_from : {A : Type 0} (n : ℕ) (o : Out A) → ((x : A × List Lexeme) → o ≡ Ok x → length x.1 ≤ n) → ((e : Stop) → o ≡ Err e → length e.1 ≤ n) → Left n o
left_from n (Ok x) f g = f x refl
left_from n (Err e) f g = g e refl

suffix : (ts us rest : List Lexeme) → ts ≡ us ++ rest → length rest ≤ length ts
suffix ts us rest e = let l = length-append us rest in let m = ap length e in omega arith

-- reading never gives back more than it was given
pub shrinks : (r : Rule) (ts : List Lexeme) → Left (length ts) (read r ts)
shrinks r ts = left_from (length ts) (read r ts) (λ x e. let s = sound r ts x e in suffix ts s.0 x.1 s.1) (λ e h. let s = stopped r ts e h in suffix ts s.0 e.1 s.1)

pub left_more : {A : Type 0} (m n : ℕ) (o : Out A) → m ≤ n → Left m o → Left n o
left_more m n (Ok x) le h = omega arith
left_more m n (Err e) le h = omega arith

pub left_bind : {A B : Type 0} (n : ℕ) (o : Out A) (f : A × List Lexeme → Out B) → Left n o → ((x : A × List Lexeme) → length x.1 ≤ n → Left n (f x)) → Left n (o >>= f)
left_bind n (Ok x) f h g = g x h
left_bind n (Err e) f h g = h

left_repeat : (a : Rule) (m n : ℕ) (ts : List Lexeme) → length ts ≤ n → Left n (repeat (read a) (firsts a) m ts)
left_repeat a zero n ts le = le
left_repeat a (suc m) n ts le = go (left_repeat a m n) (heads (firsts a) ts)
  where
    go : ((us : List Lexeme) → length us ≤ n → Left n (repeat (read a) (firsts a) m us))
        → (b : Bool) → Left n (cond {A = Out (List (Tree a))} b (read a ts >>= λ x. repeat (read a) (firsts a) m x.1 >>= λ y. Ok (x.0 ∷ y.0, y.1)) (Ok ([], ts)))
    go ih true =
        left_bind n (read a ts) (λ x. repeat (read a) (firsts a) m x.1 >>= λ y. Ok (x.0 ∷ y.0, y.1)) (left_more (length ts) n (read a ts) le (shrinks a ts))
        (λ x h. left_bind n (repeat (read a) (firsts a) m x.1) (λ y. Ok (x.0 ∷ y.0, y.1)) (ih x.1 h) (λ y k. k))
    go ih false = le

abbrev pub Past : Rule → Type 0
Past r = (ts : List Lexeme) (tail : List Lexeme) → Begins r ts → Left (length tail) (read r (ts ++ tail))

pub derives_begins : (r : Rule) (ts : List Lexeme) (v : Tree r) → Derives r ts v → Begins r ts
derives_begins Empty ts v d = d
derives_begins (Tok c) ts x d = inr (x, d.0, d.1)
derives_begins (Seq a b) ts v d = inr (d.0, d.1, d.2, ((v.0, d.3.0), derives_begins b d.1 v.1 d.3.1))
derives_begins (Alt a b) ts (inl v) d = inl (derives_begins a ts v d)
derives_begins (Alt a b) ts (inr v) d = inr (derives_begins b ts v d)
derives_begins (Opt a) ts None d = inl d
derives_begins (Opt a) ts (Some v) d = inr (derives_begins a ts v d)
derives_begins (Many a) ts vs d = (ts, [], sym (append-nil ts), ((vs, d), inl refl))
derives_begins (Refuse c k) ts v d = absurd d
derives_begins (Chain c a b) ts vs d = (ts, [], sym (append-nil ts), ((vs, d), inl refl))

empty_past : (r : Rule) (ts tail : List Lexeme) → ts ≡ [] → Left (length tail) (read r (ts ++ tail))
empty_past r ts tail e = rw e (shrinks r tail)

seq_first : (a b : Rule) → Past a → (ts tail : List Lexeme) → Begins a ts → Left (length tail) (read (Seq a b) (ts ++ tail))
seq_first a b pa ts tail h =
    left_bind (length tail) (read a (ts ++ tail)) (λ x. read b x.1 >>= λ y. Ok ((x.0, y.0), y.1)) (pa ts tail h)
    (λ x le. left_bind (length tail) (read b x.1) (λ y. Ok ((x.0, y.0), y.1)) (left_more (length x.1) (length tail) (read b x.1) le (shrinks b x.1)) (λ y k. k))

one_past : (a : Rule) → Past a → (n : ℕ) (ts tail : List Lexeme) → Begins a ts → heads (firsts a) ts ≡ true → Left (length tail) (repeat (read a) (firsts a) (suc n) (ts ++ tail))
one_past a pa n ts tail h t =
    let t2 = heads_append (firsts a) ts tail t in
    rw t2 (left_bind (length tail) (read a (ts ++ tail)) (λ x. repeat (read a) (firsts a) n x.1 >>= λ y. Ok (x.0 ∷ y.0, y.1)) (pa ts tail h)
    (λ x le. left_bind (length tail) (repeat (read a) (firsts a) n x.1) (λ y. Ok (x.0 ∷ y.0, y.1)) (left_repeat a n (length tail) x.1 le) (λ y k. k)))

many_past : (a : Rule) → Complete a → Past a → nullable a ≡ false → disjoint (exts a) (firsts a) ≡ true
    → (n : ℕ) (us ws tail : List Lexeme) (vs : List (Tree a)) → length (us ++ ws) ≤ n → Each (Derives a) us vs → (ws ≡ []) ⊎ Begins a ws
    → Left (length tail) (repeat (read a) (firsts a) n ((us ++ ws) ++ tail))
many_past a one pa some dis n us ws tail [] le d h =
    elim h [
      | inl e ↦ rw (d, e) (left_repeat a n (length tail) tail (omega arith))
      | inr e ↦
          elim (begins_front a ws e) [
            | inl z ↦ rw (d, z) (left_repeat a n (length tail) tail (omega arith))
            | inr z ↦ more n le z e
          ]
    ]
  where
    more : (n : ℕ) → length (us ++ ws) ≤ n → heads (firsts a) ws ≡ true → Begins a ws → Left (length tail) (repeat (read a) (firsts a) n ((us ++ ws) ++ tail))
    more zero le z e = absurd (let k = heads_some (firsts a) ws z in let l = length-append us ws in omega arith)
    more (suc n) le z e = rw d (one_past a pa n ws tail e z)
many_past a one pa some dis zero us ws tail (v ∷ vs) le d h =
    let p = some_front a d.0 some (front a d.0 v d.3.0) in
    absurd (let k = heads_some (firsts a) d.0 p in let l = length-append d.0 d.1 in let m = ap length d.2 in let o = length-append us ws in omega arith)
many_past a one pa some dis (suc n) us ws tail (v ∷ vs) le d h =
    let p = some_front a d.0 some (front a d.0 v d.3.0) in
    let le2 : length (d.1 ++ ws) ≤ n = (let k = heads_some (firsts a) d.0 p in let l = length-append d.0 d.1 in let m = ap length d.2 in let o = length-append us ws in let q = length-append d.1 ws in omega arith) in
    let ih = many_past a one pa some dis n d.1 ws tail vs le2 d.3.1 h in
    let all : (us ++ ws) ++ tail ≡ d.0 ++ ((d.1 ++ ws) ++ tail) = ap (λ (l : List Lexeme). (l ++ ws) ++ tail) d.2 ∙ simp append_assoc in
    elim (begins_front (Many a) (d.1 ++ ws) (d.1, ws, refl, ((vs, d.3.1), h))) [
      | inl z ↦ (
          let e : (us ++ ws) ++ tail ≡ d.0 ++ tail = all ∙ ap (λ (l : List Lexeme). d.0 ++ (l ++ tail)) z in
          rw e (one_past a pa n d.0 tail (derives_begins a d.0 v d.3.0) p)
          )
      | inr z ↦ (
          let f = disjoint_heads (exts a) (firsts a) ((d.1 ++ ws) ++ tail) dis (heads_append (firsts a) (d.1 ++ ws) tail z) in
          let e = one d.0 v ((d.1 ++ ws) ++ tail) d.3.0 f in
          let t = heads_append (firsts a) d.0 ((d.1 ++ ws) ++ tail) p in
          rw (all, t, e) (left_bind (length tail) (repeat (read a) (firsts a) n ((d.1 ++ ws) ++ tail)) (λ y. Ok (v ∷ y.0, y.1)) ih (λ y k. k))
          )
    ]

-- ---- chains

abbrev BF : Rule → Rule → Bool → List Lexeme → Type 0
BF a b f us = OnFlag f (Begins a us) (Begins b us)

shrinks_flag : (a b : Rule) (f : Bool) (ts : List Lexeme) → Left (length ts) (by_flag (read a) (read b) f ts)
shrinks_flag a b true ts = left_bind (length ts) (read b ts) (λ x. Ok (inr x.0, x.1)) (shrinks b ts) (λ y k. k)
shrinks_flag a b false ts = left_bind (length ts) (read a ts) (λ x. Ok (inl x.0, x.1)) (shrinks a ts) (λ y k. k)

left_chain : (a b : Rule) (c m n : ℕ) (f : Bool) (ts : List Lexeme) → length ts ≤ n → Left n (chain (by_flag (read a) (read b)) (flag_firsts a b) c f m ts)
left_chain a b c zero n f ts le = le
left_chain a b c (suc m) n f ts le = go (left_chain a b c m n) (heads (flag_firsts a b f) ts)
  where
    go : ((g : Bool) (us : List Lexeme) → length us ≤ n → Left n (chain (by_flag (read a) (read b)) (flag_firsts a b) c g m us))
        → (t : Bool) → Left n (cond {A = Out (List (Tree a ⊎ Tree b))} t (by_flag (read a) (read b) f ts >>= λ x. chain (by_flag (read a) (read b)) (flag_firsts a b) c (ends c f (used ts x.1)) m x.1 >>= λ y. Ok (x.0 ∷ y.0, y.1)) (Ok ([], ts)))
    go ih true =
        left_bind n (by_flag (read a) (read b) f ts) (λ x. chain (by_flag (read a) (read b)) (flag_firsts a b) c (ends c f (used ts x.1)) m x.1 >>= λ y. Ok (x.0 ∷ y.0, y.1)) (left_more (length ts) n (by_flag (read a) (read b) f ts) le (shrinks_flag a b f ts))
        (λ x h. left_bind n (chain (by_flag (read a) (read b)) (flag_firsts a b) c (ends c f (used ts x.1)) m x.1) (λ y. Ok (x.0 ∷ y.0, y.1)) (ih (ends c f (used ts x.1)) x.1 h) (λ y k. k))
    go ih false = le

past_flag : (a b : Rule) → Past a → Past b → (f : Bool) (ts tail : List Lexeme) → BF a b f ts → Left (length tail) (by_flag (read a) (read b) f (ts ++ tail))
past_flag a b pa pb f ts tail (inl h) = rw h.0 (left_bind (length tail) (read a (ts ++ tail)) (λ x. Ok (inl x.0, x.1)) (pa ts tail h.1) (λ y k. k))
past_flag a b pa pb f ts tail (inr h) = rw h.0 (left_bind (length tail) (read b (ts ++ tail)) (λ x. Ok (inr x.0, x.1)) (pb ts tail h.1) (λ y k. k))

begins_flag_front : (a b : Rule) (f : Bool) (ts : List Lexeme) → BF a b f ts → (ts ≡ []) ⊎ (heads (flag_firsts a b f) ts ≡ true)
begins_flag_front a b f ts (inl h) = elim (begins_front a ts h.1) [ inl z ↦ inl z | inr z ↦ inr (rw h.0 z) ]
begins_flag_front a b f ts (inr h) = elim (begins_front b ts h.1) [ inl z ↦ inl z | inr z ↦ inr (rw h.0 z) ]

derives_flag_begins : (a b : Rule) (f : Bool) (ts : List Lexeme) (v : Tree a ⊎ Tree b) → ByFlag (Derives a) (Derives b) f ts v → BF a b f ts
derives_flag_begins a b f ts (inl v) d = inl (d.0, derives_begins a ts v d.1)
derives_flag_begins a b f ts (inr v) d = inr (d.0, derives_begins b ts v d.1)

link_past : (a b : Rule) → Past a → Past b → (c n : ℕ) (f : Bool) (ts tail : List Lexeme) → BF a b f ts → heads (flag_firsts a b f) ts ≡ true
    → Left (length tail) (chain (by_flag (read a) (read b)) (flag_firsts a b) c f (suc n) (ts ++ tail))
link_past a b pa pb c n f ts tail h t =
    let t2 = heads_append (flag_firsts a b f) ts tail t in
    rw t2 (left_bind (length tail) (by_flag (read a) (read b) f (ts ++ tail)) (λ x. chain (by_flag (read a) (read b)) (flag_firsts a b) c (ends c f (used (ts ++ tail) x.1)) n x.1 >>= λ y. Ok (x.0 ∷ y.0, y.1)) (past_flag a b pa pb f ts tail h)
    (λ x le. left_bind (length tail) (chain (by_flag (read a) (read b)) (flag_firsts a b) c (ends c f (used (ts ++ tail) x.1)) n x.1) (λ y. Ok (x.0 ∷ y.0, y.1)) (left_chain a b c n (length tail) (ends c f (used (ts ++ tail) x.1)) x.1 le) (λ y k. k)))

abbrev LastFlag : Rule → Rule → Bool → List Lexeme → Type 0
LastFlag a b f ws = (ws ≡ []) ⊎ BF a b f ws

rest_front : (a b : Rule) (c : ℕ) (f : Bool) (us ws : List Lexeme) (vs : List (Tree a ⊎ Tree b)) → Links (ByFlag (Derives a) (Derives b)) c f us vs → LastFlag a b (ends c f us) ws
    → (us ++ ws ≡ []) ⊎ (heads (flag_firsts a b f) (us ++ ws) ≡ true)
rest_front a b c f us ws vs d h =
    elim (front_chain (ByFlag (Derives a) (Derives b)) (flag_firsts a b) c (front_flag a b (front a) (front b)) f us vs d) [
      | inl p ↦
          elim h [
            | inl q ↦ inl (rw (p, q) refl)
            | inr q ↦ (
                let q2 = subst (λ (l : List Lexeme). BF a b (ends c f l) ws) p q in
                elim (begins_flag_front a b f ws q2) [ inl y ↦ inl (rw (p, y) refl) | inr y ↦ inr (rw p y) ]
                )
          ]
      | inr p ↦ inr (heads_append (flag_firsts a b f) us ws p)
    ]

chain_past : (a b : Rule) → Complete a → Complete b → Past a → Past b → nullable a ≡ false → nullable b ≡ false → disjoint (exts a ++ exts b) (firsts a ++ firsts b) ≡ true → (c n : ℕ) (f : Bool) (us ws tail : List Lexeme) (vs : List (Tree a ⊎ Tree b))
    → length (us ++ ws) ≤ n → Links (ByFlag (Derives a) (Derives b)) c f us vs → LastFlag a b (ends c f us) ws
    → Left (length tail) (chain (by_flag (read a) (read b)) (flag_firsts a b) c f n ((us ++ ws) ++ tail))
chain_past a b ca cb pa pb na nb dis c n f us ws tail [] le d h = last n le (subst (λ (l : List Lexeme). LastFlag a b (ends c f l) ws) d h)
  where
    more : (n : ℕ) → length (us ++ ws) ≤ n → BF a b f ws → heads (flag_firsts a b f) ws ≡ true → Left (length tail) (chain (by_flag (read a) (read b)) (flag_firsts a b) c f n ((us ++ ws) ++ tail))
    more zero le e z = absurd (let k = heads_some (flag_firsts a b f) ws z in let l = length-append us ws in omega arith)
    more (suc n) le e z = rw d (link_past a b pa pb c n f ws tail e z)

    last : (n : ℕ) → length (us ++ ws) ≤ n → LastFlag a b f ws → Left (length tail) (chain (by_flag (read a) (read b)) (flag_firsts a b) c f n ((us ++ ws) ++ tail))
    last n le (inl e) = rw (d, e) (left_chain a b c n (length tail) f tail (omega arith))
    last n le (inr e) =
        elim (begins_flag_front a b f ws e) [
          | inl z ↦ rw (d, z) (left_chain a b c n (length tail) f tail (omega arith))
          | inr z ↦ more n le e z
        ]
chain_past a b ca cb pa pb na nb dis c zero f us ws tail (v ∷ vs) le d h =
    let p = some_flag a b na nb f d.0 v d.3.0 in
    absurd (let k = heads_some (flag_firsts a b f) d.0 p in let l = length-append d.0 d.1 in let m = ap length d.2 in let o = length-append us ws in omega arith)
chain_past a b ca cb pa pb na nb dis c (suc n) f us ws tail (v ∷ vs) le d h =
    let p = some_flag a b na nb f d.0 v d.3.0 in
    let le2 : length (d.1 ++ ws) ≤ n = (let k = heads_some (flag_firsts a b f) d.0 p in let l = length-append d.0 d.1 in let m = ap length d.2 in let o = length-append us ws in let q = length-append d.1 ws in omega arith) in
    let flag : ends c f us ≡ ends c (ends c f d.0) d.1 = ap (ends c f) d.2 ∙ ends-append c f d.0 d.1 in
    let h2 = subst (λ (g : Bool). LastFlag a b g ws) flag h in
    let ih = chain_past a b ca cb pa pb na nb dis c n (ends c f d.0) d.1 ws tail vs le2 d.3.1 h2 in
    let all : (us ++ ws) ++ tail ≡ d.0 ++ ((d.1 ++ ws) ++ tail) = ap (λ (l : List Lexeme). (l ++ ws) ++ tail) d.2 ∙ simp append_assoc in
    elim (rest_front a b c (ends c f d.0) d.1 ws vs d.3.1 h2) [
      | inl z ↦ (
          let e : (us ++ ws) ++ tail ≡ d.0 ++ tail = all ∙ ap (λ (l : List Lexeme). d.0 ++ (l ++ tail)) z in
          subst (λ (l : List Lexeme). Left (length tail) (chain (by_flag (read a) (read b)) (flag_firsts a b) c f (suc n) l)) (sym e) (link_past a b pa pb c n f d.0 tail (derives_flag_begins a b f d.0 v d.3.0) p)
          )
      | inr z ↦ (
          let free = free_flag a b dis (ends c f d.0) ((d.1 ++ ws) ++ tail) (heads_append (flag_firsts a b (ends c f d.0)) (d.1 ++ ws) tail z) in
          let e = complete_flag a b ca cb f d.0 v ((d.1 ++ ws) ++ tail) d.3.0 free in
          let s = chain_step (by_flag (read a) (read b)) (flag_firsts a b) c n f d.0 ((d.1 ++ ws) ++ tail) v p e in
          subst (λ (l : List Lexeme). Left (length tail) (chain (by_flag (read a) (read b)) (flag_firsts a b) c f (suc n) l)) (sym all)
          (subst (Left (length tail)) (sym s) (left_bind (length tail) (chain (by_flag (read a) (read b)) (flag_firsts a b) c (ends c f d.0) n ((d.1 ++ ws) ++ tail)) (λ y. Ok (v ∷ y.0, y.1)) ih (λ y k. k)))
          )
    ]

pub past : (r : Rule) → good r ≡ true → Past r
past Empty g ts tail h = empty_past Empty ts tail h
past (Tok c) g ts tail (inl h) = empty_past (Tok c) ts tail h
past (Tok c) g ts tail (inr h) = rw (h.1, h.2, eq-eqb c c refl) (omega arith)
past (Seq a b) g ts tail (inl h) =
    let g1 = and_parts (good a && good b) (disjoint (exts a) (firsts b)) g in
    seq_first a b (past a (and_parts (good a) (good b) g1.0).0) ts tail h
past (Seq a b) g ts tail (inr h) =
    let g1 = and_parts (good a && good b) (disjoint (exts a) (firsts b)) g in
    let g2 = and_parts (good a) (good b) g1.0 in
    elim (begins_front b h.1 h.3.1) [
      | inl z ↦ (
          let e : ts ≡ h.0 = h.2 ∙ ap (λ (l : List Lexeme). h.0 ++ l) z ∙ append-nil h.0 in
          seq_first a b (past a g2.0) ts tail (rw e (derives_begins a h.0 h.3.0.0 h.3.0.1))
          )
      | inr z ↦ (
          let f = disjoint_heads (exts a) (firsts b) (h.1 ++ tail) g1.1 (heads_append (firsts b) h.1 tail z) in
          let e = complete a g2.0 h.0 h.3.0.0 (h.1 ++ tail) h.3.0.1 f in
          let all : ts ++ tail ≡ h.0 ++ (h.1 ++ tail) = ap (λ (l : List Lexeme). l ++ tail) h.2 ∙ append_assoc h.0 h.1 tail in
          rw (all, e) (left_bind (length tail) (read b (h.1 ++ tail)) (λ y. Ok ((h.3.0.0, y.0), y.1)) (past b g2.1 h.1 tail h.3.1) (λ y k. k))
          )
    ]
past (Alt a b) g ts tail (inl h) =
    let g1 = and_parts (good a && good b) (not (nullable a) && disjoint (firsts a) (firsts b)) g in
    elim (begins_front a ts h) [
      | inl z ↦ empty_past (Alt a b) ts tail z
      | inr z ↦ (
          let t = heads_append (firsts a) ts tail z in
          rw t (left_bind (length tail) (read a (ts ++ tail)) (λ x. Ok (inl x.0, x.1)) (past a (and_parts (good a) (good b) g1.0).0 ts tail h) (λ y k. k))
          )
    ]
past (Alt a b) g ts tail (inr h) =
    let g1 = and_parts (good a && good b) (not (nullable a) && disjoint (firsts a) (firsts b)) g in
    let g3 = and_parts (not (nullable a)) (disjoint (firsts a) (firsts b)) g1.1 in
    elim (begins_front b ts h) [
      | inl z ↦ empty_past (Alt a b) ts tail z
      | inr z ↦ (
          let t = disjoint_heads (firsts a) (firsts b) (ts ++ tail) g3.1 (heads_append (firsts b) ts tail z) in
          rw t (left_bind (length tail) (read b (ts ++ tail)) (λ x. Ok (inr x.0, x.1)) (past b (and_parts (good a) (good b) g1.0).1 ts tail h) (λ y k. k))
          )
    ]
past (Opt a) g ts tail (inl h) = empty_past (Opt a) ts tail h
past (Opt a) g ts tail (inr h) =
    elim (begins_front a ts h) [
      | inl z ↦ empty_past (Opt a) ts tail z
      | inr z ↦ (
          let t = heads_append (firsts a) ts tail z in
          rw t (left_bind (length tail) (read a (ts ++ tail)) (λ x. Ok (Some x.0, x.1)) (past a (and_parts (good a) (not (nullable a)) g).0 ts tail h) (λ y k. k))
          )
    ]
past (Many a) g ts tail h =
    let g1 = and_parts (good a && not (nullable a)) (disjoint (exts a) (firsts a)) g in
    let g2 = and_parts (good a) (not (nullable a)) g1.0 in
    let p = many_past a (complete a g2.0) (past a g2.0) (not-true (nullable a) g2.1) g1.1 (length (ts ++ tail)) h.0 h.1 tail h.3.0.0 (let l = length-append ts tail in let m = ap length h.2 in omega arith) h.3.0.1 h.3.1 in
    subst (λ (l : List Lexeme). Left (length tail) (repeat (read a) (firsts a) (length (ts ++ tail)) (l ++ tail))) (sym h.2) p
past (Refuse c k) g ts tail h = empty_past (Refuse c k) ts tail h
past (Chain c a b) g ts tail h =
    let k = good_chain c a b g in
    let le : length (h.0 ++ h.1) ≤ length (ts ++ tail) = (let l = length-append ts tail in let m = ap length h.2 in omega arith) in
    let p = chain_past a b (complete a k.first) (complete b k.second) (past a k.first) (past b k.second) k.first_some k.second_some k.free c (length (ts ++ tail)) false h.0 h.1 tail h.3.0.0 le h.3.0.1 h.3.1 in
    subst (λ (l : List Lexeme). Left (length tail) (chain (by_flag (read a) (read b)) (flag_firsts a b) c false (length (ts ++ tail)) (l ++ tail))) (sym h.2) p
