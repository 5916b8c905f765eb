-- A rule in which the next token says the way is read exactly: by the text that it derives, and up to the first token that begins no text.
use Rattle.std.proofs.Common.{◌≡◌, ℕ, zero, suc, ◌≤◌, ◌==◌, Bool, true, false, not, ◌&&◌, ◌||◌, cond, List, [], ◌∷◌, ◌++◌, length, Some, None, Ok, Err, refl, ap, subst, ◌∙◌, arith, inl, inr, append_assoc, length-append}
use Rattle.std.specs.Prelude.{◌⊎◌}
use Rattle.std.proofs.lemmas.Bool.{eqb-true, eq-eqb, and_parts, not-true}
use Rattle.std.proofs.Math.Bool.{or-true}
use Rattle.grammar.specs.Rules.{Lexeme, Kind, Syntax, Rule, Empty, Tok, Seq, Alt, Opt, Many, Refuse, Chain, Tree, Each, ByFlag, ends, Derives, Begins, heads, nullable, firsts, exts, disjoint, good, Out, ◌>>=◌, token, repeat, by_flag, read}
use Rattle.grammar.proofs.Binds.{bind_ok, ok_is, regroup}
use Rattle.grammar.proofs.Chains.{sound_chain, front_chain, complete_chain}
use Rattle.grammar.proofs.Sets.{heads_split, heads_left, heads_right, heads_append, heads_some, disjoint_heads}

-- ---- what is read is derived

abbrev pub Took : (r : Rule) → List Lexeme → Tree r × List Lexeme → Type 0
Took r ts x = (us : List Lexeme) × (ts ≡ us ++ x.1) × Derives r us x.0

abbrev TookEach : {A : Type 0} → (List Lexeme → A → Type 0) → List Lexeme → List A × List Lexeme → Type 0
TookEach D ts x = (us : List Lexeme) × (ts ≡ us ++ x.1) × Each D us x.0

sound_each : {A : Type 0} (p : List Lexeme → Out A) (D : List Lexeme → A → Type 0) (cs : List ℕ)
    → ((ts : List Lexeme) (x : A × List Lexeme) → p ts ≡ Ok x → (us : List Lexeme) × (ts ≡ us ++ x.1) × D us x.0)
    → (n : ℕ) (ts : List Lexeme) (x : List A × List Lexeme) → repeat p cs n ts ≡ Ok x → TookEach D ts x
sound_each {A} p D cs one zero ts x e = subst (TookEach D ts) (ok_is ([], ts) x e) ([], refl, refl)
sound_each {A} p D cs one (suc n) ts x e = go (sound_each p D cs one n) (heads cs ts) e
  where
    go : ((us : List Lexeme) (y : List A × List Lexeme) → repeat p cs n us ≡ Ok y → TookEach D us y)
        → (b : Bool) → cond b (p ts >>= λ x. repeat p cs n x.1 >>= λ y. Ok (x.0 ∷ y.0, y.1)) (Ok ([], ts)) ≡ Ok x → TookEach D ts x
    go ih true e =
        let a = bind_ok (p ts) (λ x. repeat p cs n x.1 >>= λ y. Ok (x.0 ∷ y.0, y.1)) x e in
        let b = bind_ok (repeat p cs n a.0.1) (λ y. Ok (a.0.0 ∷ y.0, y.1)) x a.2 in
        let s = one ts a.0 a.1 in
        let t = ih a.0.1 b.0 b.1 in
        subst (TookEach D ts) (ok_is (a.0.0 ∷ b.0.0, b.0.1) x b.2) (s.0 ++ t.0, regroup ts s.0 t.0 a.0.1 b.0.1 s.1 t.1, (s.0, t.0, refl, (s.2, t.2)))
    go ih false e = subst (TookEach D ts) (ok_is ([], ts) x e) ([], refl, refl)

abbrev tok_out : Bool → Kind → Lexeme → List Lexeme → Out Lexeme
tok_out b k t ts = cond b (Ok (t, ts)) (Err (k, t ∷ ts))

sound_tok : (c : ℕ) (ts : List Lexeme) (x : Lexeme × List Lexeme) → token c ts ≡ Ok x → Took (Tok c) ts x
sound_tok c [] x e = absurd cc
sound_tok c (t ∷ ts) x e = go (t.class == c) refl e
  where
    go : (b : Bool) → (t.class == c) ≡ b → tok_out b Syntax t ts ≡ Ok x → Took (Tok c) (t ∷ ts) x
    go true h e = subst (Took (Tok c) (t ∷ ts)) (ok_is (t, ts) x e) (t ∷ [], refl, (refl, eqb-true t.class c h))
    go false h e = absurd cc

abbrev pub TookFlag : (a b : Rule) → Bool → List Lexeme → (Tree a ⊎ Tree b) × List Lexeme → Type 0
TookFlag a b f ts x = (us : List Lexeme) × (ts ≡ us ++ x.1) × ByFlag (Derives a) (Derives b) f us x.0

pub sound_flag : (a b : Rule) → ((ts : List Lexeme) (x : Tree a × List Lexeme) → read a ts ≡ Ok x → Took a ts x) → ((ts : List Lexeme) (x : Tree b × List Lexeme) → read b ts ≡ Ok x → Took b ts x)
    → (f : Bool) (ts : List Lexeme) (x : (Tree a ⊎ Tree b) × List Lexeme) → by_flag (read a) (read b) f ts ≡ Ok x → TookFlag a b f ts x
sound_flag a b sa sb true ts x e =
    let p = bind_ok {B = (Tree a ⊎ Tree b) × List Lexeme} (read b ts) (λ x. Ok (inr x.0, x.1)) x e in
    let s = sb ts p.0 p.1 in
    subst (TookFlag a b true ts) (ok_is (inr p.0.0, p.0.1) x p.2) (s.0, s.1, (refl, s.2))
sound_flag a b sa sb false ts x e =
    let p = bind_ok {B = (Tree a ⊎ Tree b) × List Lexeme} (read a ts) (λ x. Ok (inl x.0, x.1)) x e in
    let s = sa ts p.0 p.1 in
    subst (TookFlag a b false ts) (ok_is (inl p.0.0, p.0.1) x p.2) (s.0, s.1, (refl, s.2))

abbrev pub flag_firsts : Rule → Rule → Bool → List ℕ
flag_firsts a b f = cond f (firsts b) (firsts a)

pub sound : (r : Rule) (ts : List Lexeme) (x : Tree r × List Lexeme) → read r ts ≡ Ok x → Took r ts x
sound Empty ts x e = subst (Took Empty ts) (ok_is (tt, ts) x e) ([], refl, refl)
sound (Tok c) ts x e = sound_tok c ts x e
sound (Seq a b) ts x e =
    let p = bind_ok (read a ts) (λ x. read b x.1 >>= λ y. Ok ((x.0, y.0), y.1)) x e in
    let q = bind_ok (read b p.0.1) (λ y. Ok ((p.0.0, y.0), y.1)) x p.2 in
    let s = sound a ts p.0 p.1 in
    let t = sound b p.0.1 q.0 q.1 in
    subst (Took (Seq a b) ts) (ok_is ((p.0.0, q.0.0), q.0.1) x q.2) (s.0 ++ t.0, regroup ts s.0 t.0 p.0.1 q.0.1 s.1 t.1, (s.0, t.0, refl, (s.2, t.2)))
sound (Alt a b) ts x e = go (sound a ts) (sound b ts) (heads (firsts a) ts) e
  where
    go : ((x : Tree a × List Lexeme) → read a ts ≡ Ok x → Took a ts x) → ((x : Tree b × List Lexeme) → read b ts ≡ Ok x → Took b ts x)
        → (h : Bool) → cond h (read a ts >>= λ x. Ok (inl x.0, x.1)) (read b ts >>= λ x. Ok (inr x.0, x.1)) ≡ Ok x → Took (Alt a b) ts x
    go f g true e =
        let p = bind_ok (read a ts) (λ x. Ok (inl x.0, x.1)) x e in
        subst (Took (Alt a b) ts) (ok_is (inl p.0.0, p.0.1) x p.2) (f p.0 p.1)
    go f g false e =
        let p = bind_ok (read b ts) (λ x. Ok (inr x.0, x.1)) x e in
        subst (Took (Alt a b) ts) (ok_is (inr p.0.0, p.0.1) x p.2) (g p.0 p.1)
sound (Opt a) ts x e = go (sound a ts) (heads (firsts a) ts) e
  where
    go : ((x : Tree a × List Lexeme) → read a ts ≡ Ok x → Took a ts x)
        → (h : Bool) → cond h (read a ts >>= λ x. Ok (Some x.0, x.1)) (Ok (None, ts)) ≡ Ok x → Took (Opt a) ts x
    go f true e =
        let p = bind_ok (read a ts) (λ x. Ok (Some x.0, x.1)) x e in
        subst (Took (Opt a) ts) (ok_is (Some p.0.0, p.0.1) x p.2) (f p.0 p.1)
    go f false e = subst (Took (Opt a) ts) (ok_is (None, ts) x e) ([], refl, refl)
sound (Many a) ts x e = sound_each (read a) (Derives a) (firsts a) (sound a) (length ts) ts x e
sound (Refuse c k) ts x e = absurd x.0
sound (Chain c a b) ts x e = sound_chain (by_flag (read a) (read b)) (ByFlag (Derives a) (Derives b)) (flag_firsts a b) c (sound_flag a b (sound a) (sound b)) (length ts) false ts x e

-- ---- the token at the front of a text

abbrev pub Front : (r : Rule) → List Lexeme → Type 0
Front r ts = ((ts ≡ []) × (nullable r ≡ true)) ⊎ (heads (firsts r) ts ≡ true)

-- the front of two parts
front_two : (cs ds : List ℕ) (m n : Bool) (ts us ws : List Lexeme) → ts ≡ us ++ ws
    → ((us ≡ []) × (m ≡ true)) ⊎ (heads cs us ≡ true) → ((ws ≡ []) × (n ≡ true)) ⊎ (heads ds ws ≡ true)
    → ((ts ≡ []) × ((m && n) ≡ true)) ⊎ (heads (cs ++ cond m ds []) ts ≡ true)
front_two cs ds m n ts us ws e (inl p) (inl q) = inl (rw (e, p.0, q.0) refl, rw (p.1, q.1) refl)
front_two cs ds m n ts us ws e (inl p) (inr q) = inr (rw (e, p.0, p.1) (heads_right cs ds ws q))
front_two cs ds m n ts us ws e (inr p) q = inr (rw e (heads_left cs (cond m ds []) (us ++ ws) (heads_append cs us ws p)))

pub front_each : (a : Rule) → ((ts : List Lexeme) (v : Tree a) → Derives a ts v → Front a ts)
    → (ts : List Lexeme) (vs : List (Tree a)) → Each (Derives a) ts vs → (ts ≡ []) ⊎ (heads (firsts a) ts ≡ true)
front_each a f ts [] d = inl d
front_each a f ts (v ∷ vs) d =
    elim (f d.0 v d.3.0) [
      | inl p ↦ elim (front_each a f d.1 vs d.3.1) [ inl q ↦ inl (rw (d.2, p.0, q) refl) | inr q ↦ inr (rw (d.2, p.0) q) ]
      | inr p ↦ inr (rw d.2 (heads_append (firsts a) d.0 d.1 p))
    ]

pub front_flag : (a b : Rule) → ((ts : List Lexeme) (v : Tree a) → Derives a ts v → Front a ts) → ((ts : List Lexeme) (v : Tree b) → Derives b ts v → Front b ts)
    → (f : Bool) (ts : List Lexeme) (v : Tree a ⊎ Tree b) → ByFlag (Derives a) (Derives b) f ts v → (ts ≡ []) ⊎ (heads (flag_firsts a b f) ts ≡ true)
front_flag a b fa fb f ts (inl v) d = elim (fa ts v d.1) [ inl p ↦ inl p.0 | inr p ↦ inr (rw d.0 p) ]
front_flag a b fa fb f ts (inr v) d = elim (fb ts v d.1) [ inl p ↦ inl p.0 | inr p ↦ inr (rw d.0 p) ]

pub front : (r : Rule) (ts : List Lexeme) (v : Tree r) → Derives r ts v → Front r ts
front Empty ts v d = inl (d, refl)
front (Tok c) ts x d = inr (rw (d.0, d.1) (eq_member c))
  where
    eq_member : (c : ℕ) → ((c == c) || false) ≡ true
    eq_member c = rw (eq-eqb c c refl) refl
front (Seq a b) ts v d = front_two (firsts a) (firsts b) (nullable a) (nullable b) ts d.0 d.1 d.2 (front a d.0 v.0 d.3.0) (front b d.1 v.1 d.3.1)
front (Alt a b) ts (inl v) d =
    elim (front a ts v d) [
      | inl p ↦ inl (p.0, rw p.1 refl)
      | inr p ↦ inr (heads_left (firsts a) (firsts b) ts p)
    ]
front (Alt a b) ts (inr v) d =
    elim (front b ts v d) [
      | inl p ↦ inl (p.0, rw p.1 (or-true (nullable a)))
      | inr p ↦ inr (heads_right (firsts a) (firsts b) ts p)
    ]
front (Opt a) ts None d = inl (d, refl)
front (Opt a) ts (Some v) d =
    elim (front a ts v d) [
      | inl p ↦ inl (p.0, refl)
      | inr p ↦ inr p
    ]
front (Many a) ts vs d =
    elim (front_each a (front a) ts vs d) [
      | inl p ↦ inl (p, refl)
      | inr p ↦ inr p
    ]
front (Refuse c k) ts v d = absurd d
front (Chain c a b) ts vs d =
    elim (front_chain (ByFlag (Derives a) (Derives b)) (flag_firsts a b) c (front_flag a b (front a) (front b)) false ts vs d) [
      | inl p ↦ inl (p, refl)
      | inr p ↦ inr p
    ]

abbrev pub FrontB : (r : Rule) → List Lexeme → Type 0
FrontB r ts = (ts ≡ []) ⊎ (heads (firsts r) ts ≡ true)

pub begins_front : (r : Rule) (ts : List Lexeme) → Begins r ts → FrontB r ts
begins_front Empty ts d = inl d
begins_front (Tok c) ts (inl d) = inl d
begins_front (Tok c) ts (inr d) = inr (rw (d.1, d.2, eq-eqb c c refl) refl)
begins_front (Seq a b) ts (inl d) =
    elim (begins_front a ts d) [
      | inl p ↦ inl p
      | inr p ↦ inr (heads_left (firsts a) (cond (nullable a) (firsts b) []) ts p)
    ]
begins_front (Seq a b) ts (inr d) =
    elim (front a d.0 d.3.0.0 d.3.0.1) [
      | inl p ↦
          elim (begins_front b d.1 d.3.1) [
            | inl q ↦ inl (rw (d.2, p.0, q) refl)
            | inr q ↦ inr (rw (d.2, p.0, p.1) (heads_right (firsts a) (firsts b) d.1 q))
          ]
      | inr p ↦ inr (rw d.2 (heads_left (firsts a) (cond (nullable a) (firsts b) []) (d.0 ++ d.1) (heads_append (firsts a) d.0 d.1 p)))
    ]
begins_front (Alt a b) ts (inl d) = elim (begins_front a ts d) [ inl p ↦ inl p | inr p ↦ inr (heads_left (firsts a) (firsts b) ts p) ]
begins_front (Alt a b) ts (inr d) = elim (begins_front b ts d) [ inl p ↦ inl p | inr p ↦ inr (heads_right (firsts a) (firsts b) ts p) ]
begins_front (Opt a) ts (inl d) = inl d
begins_front (Opt a) ts (inr d) = begins_front a ts d
begins_front (Many a) ts d =
    elim (front_each a (front a) d.0 d.3.0.0 d.3.0.1) [
      | inl p ↦
          elim d.3.1 [
            | inl q ↦ inl (rw (d.2, p, q) refl)
            | inr q ↦ elim (begins_front a d.1 q) [ inl z ↦ inl (rw (d.2, p, z) refl) | inr z ↦ inr (rw (d.2, p) z) ]
          ]
      | inr p ↦ inr (rw d.2 (heads_append (firsts a) d.0 d.1 p))
    ]
begins_front (Refuse c k) ts d = inl d
begins_front (Chain c a b) ts d =
    elim (front_chain (ByFlag (Derives a) (Derives b)) (flag_firsts a b) c (front_flag a b (front a) (front b)) false d.0 d.3.0.0 d.3.0.1) [
      | inl p ↦
          elim d.3.1 [
            | inl q ↦ inl (rw (d.2, p, q) refl)
            | inr q ↦
                elim q [
                  | inl z ↦ elim (begins_front a d.1 z.1) [ inl y ↦ inl (rw (d.2, p, y) refl) | inr y ↦ inr (rw (d.2, p) y) ]
                  | inr z ↦ absurd (let e : ends c false d.0 ≡ false = ap (ends c false) p in let t = z.0 in cc)
                ]
          ]
      | inr p ↦ inr (rw d.2 (heads_append (firsts a) d.0 d.1 p))
    ]

-- ---- what is derived is read

pub follow_two : (a b : Rule) (ws rest : List Lexeme) → disjoint (exts a) (firsts b) ≡ true → Front b ws
    → heads (exts b ++ cond (nullable b) (exts a) []) rest ≡ false → heads (exts a) (ws ++ rest) ≡ false
follow_two a b ws rest dis (inl p) h =
    let h2 : heads (exts b ++ exts a) rest ≡ false = subst (λ (m : Bool). heads (exts b ++ cond m (exts a) []) rest ≡ false) p.1 h in
    rw p.0 (heads_split (exts b) (exts a) rest h2).1
follow_two a b ws rest dis (inr p) h = disjoint_heads (exts a) (firsts b) (ws ++ rest) dis (heads_append (firsts b) ws rest p)

-- what follows one of many
pub follow_many : (a : Rule) (ws rest : List Lexeme) → disjoint (exts a) (firsts a) ≡ true → FrontB a ws
    → heads (firsts a ++ exts a) rest ≡ false → heads (exts a) (ws ++ rest) ≡ false
follow_many a ws rest dis (inl p) h = rw p (heads_split (firsts a) (exts a) rest h).1
follow_many a ws rest dis (inr p) h = disjoint_heads (exts a) (firsts a) (ws ++ rest) dis (heads_append (firsts a) ws rest p)

-- a text that isn't empty
pub some_front : (r : Rule) (ts : List Lexeme) → nullable r ≡ false → Front r ts → heads (firsts r) ts ≡ true
some_front r ts n (inl p) = absurd cc
some_front r ts n (inr p) = p

abbrev pub Complete : Rule → Type 0
Complete r = (us : List Lexeme) (v : Tree r) (rest : List Lexeme) → Derives r us v → heads (exts r) rest ≡ false → read r (us ++ rest) ≡ Ok (v, rest)

pub complete_each : (a : Rule) → Complete a → nullable a ≡ false → disjoint (exts a) (firsts a) ≡ true
    → (n : ℕ) (us : List Lexeme) (vs : List (Tree a)) (rest : List Lexeme) → length us ≤ n → Each (Derives a) us vs → heads (firsts a ++ exts a) rest ≡ false
    → repeat (read a) (firsts a) n (us ++ rest) ≡ Ok (vs, rest)
complete_each a one some dis zero us [] rest le d h = rw d refl
complete_each a one some dis (suc n) us [] rest le d h = rw (d, (heads_split (firsts a) (exts a) rest h).0) refl
complete_each a one some dis zero us (v ∷ vs) rest le d h =
    let p = some_front a d.0 some (front a d.0 v d.3.0) in
    absurd (let k = heads_some (firsts a) d.0 p in let l = length-append d.0 d.1 in let m = ap length d.2 in omega arith)
complete_each a one some dis (suc n) us (v ∷ vs) rest le d h =
    let p = some_front a d.0 some (front a d.0 v d.3.0) in
    let le2 : length d.1 ≤ n = (let k = heads_some (firsts a) d.0 p in let l = length-append d.0 d.1 in let m = ap length d.2 in omega arith) in
    let ih = complete_each a one some dis n d.1 vs rest le2 d.3.1 h in
    let f = follow_many a d.1 rest dis (front_each a (front a) d.1 vs d.3.1) h in
    let e = one d.0 v (d.1 ++ rest) d.3.0 f in
    let t = heads_append (firsts a) d.0 (d.1 ++ rest) p in
    ap (repeat (read a) (firsts a) (suc n)) (ap (λ (l : List Lexeme). l ++ rest) d.2 ∙ append_assoc d.0 d.1 rest) ∙ rw (t, e, ih) refl

pub complete_flag : (a b : Rule) → Complete a → Complete b → (f : Bool) (us : List Lexeme) (v : Tree a ⊎ Tree b) (rest : List Lexeme)
    → ByFlag (Derives a) (Derives b) f us v → heads (exts a ++ exts b) rest ≡ false → by_flag (read a) (read b) f (us ++ rest) ≡ Ok (v, rest)
complete_flag a b ca cb f us (inl v) rest d h = rw (d.0, ca us v rest d.1 (heads_split (exts a) (exts b) rest h).0) refl
complete_flag a b ca cb f us (inr v) rest d h = rw (d.0, cb us v rest d.1 (heads_split (exts a) (exts b) rest h).1) refl

pub some_flag : (a b : Rule) → nullable a ≡ false → nullable b ≡ false → (f : Bool) (us : List Lexeme) (v : Tree a ⊎ Tree b) → ByFlag (Derives a) (Derives b) f us v → heads (flag_firsts a b f) us ≡ true
some_flag a b na nb f us (inl v) d = rw d.0 (some_front a us na (front a us v d.1))
some_flag a b na nb f us (inr v) d = rw d.0 (some_front b us nb (front b us v d.1))

pub free_flag : (a b : Rule) → disjoint (exts a ++ exts b) (firsts a ++ firsts b) ≡ true → (f : Bool) (ts : List Lexeme) → heads (flag_firsts a b f) ts ≡ true → heads (exts a ++ exts b) ts ≡ false
free_flag a b d true ts h = disjoint_heads (exts a ++ exts b) (firsts a ++ firsts b) ts d (heads_right (firsts a) (firsts b) ts h)
free_flag a b d false ts h = disjoint_heads (exts a ++ exts b) (firsts a ++ firsts b) ts d (heads_left (firsts a) (firsts b) ts h)

-- what `good` says of a chain
pub record GoodChain (a b : Rule) : Type 0 where
  pub first : good a ≡ true
  pub second : good b ≡ true
  pub first_some : nullable a ≡ false
  pub second_some : nullable b ≡ false
  pub free : disjoint (exts a ++ exts b) (firsts a ++ firsts b) ≡ true

pub good_chain : (c : ℕ) (a b : Rule) → good (Chain c a b) ≡ true → GoodChain a b
good_chain c a b g =
    let g1 = and_parts ((good a && good b) && (not (nullable a) && not (nullable b))) (disjoint (exts a ++ exts b) (firsts a ++ firsts b)) g in
    let g2 = and_parts (good a && good b) (not (nullable a) && not (nullable b)) g1.0 in
    let g3 = and_parts (good a) (good b) g2.0 in
    let g4 = and_parts (not (nullable a)) (not (nullable b)) g2.1 in
    record { first = g3.0; second = g3.1; first_some = not-true (nullable a) g4.0; second_some = not-true (nullable b) g4.1; free = g1.1 }

not_first : (a b : Rule) (rest : List Lexeme) → heads (firsts a ++ firsts b) rest ≡ false → (f : Bool) → heads (flag_firsts a b f) rest ≡ false
not_first a b rest h true = (heads_split (firsts a) (firsts b) rest h).1
not_first a b rest h false = (heads_split (firsts a) (firsts b) rest h).0

pub complete : (r : Rule) → good r ≡ true → Complete r
complete Empty g us v rest d h = rw d refl
complete (Tok c) g us x rest d h = rw (d.0, d.1, eq-eqb c c refl) refl
complete (Seq a b) g us v rest d h =
    let g1 = and_parts (good a && good b) (disjoint (exts a) (firsts b)) g in
    let g2 = and_parts (good a) (good b) g1.0 in
    let f = follow_two a b d.1 rest g1.1 (front b d.1 v.1 d.3.1) h in
    let e1 = complete a g2.0 d.0 v.0 (d.1 ++ rest) d.3.0 f in
    let e2 = complete b g2.1 d.1 v.1 rest d.3.1 (heads_split (exts b) (cond (nullable b) (exts a) []) rest h).0 in
    ap (read (Seq a b)) (ap (λ (l : List Lexeme). l ++ rest) d.2 ∙ append_assoc d.0 d.1 rest) ∙ rw (e1, e2) refl
complete (Alt a b) g us (inl v) rest d h =
    let g1 = and_parts (good a && good b) (not (nullable a) && disjoint (firsts a) (firsts b)) g in
    let g2 = and_parts (good a) (good b) g1.0 in
    let g3 = and_parts (not (nullable a)) (disjoint (firsts a) (firsts b)) g1.1 in
    let h2 = (heads_split (exts a ++ exts b) (cond (nullable b) (firsts a) []) rest h).0 in
    let t = heads_append (firsts a) us rest (some_front a us (not-true (nullable a) g3.0) (front a us v d)) in
    let e = complete a g2.0 us v rest d (heads_split (exts a) (exts b) rest h2).0 in
    rw (t, e) refl
complete (Alt a b) g us (inr v) rest d h =
    let g1 = and_parts (good a && good b) (not (nullable a) && disjoint (firsts a) (firsts b)) g in
    let g2 = and_parts (good a) (good b) g1.0 in
    let g3 = and_parts (not (nullable a)) (disjoint (firsts a) (firsts b)) g1.1 in
    let h2 = heads_split (exts a ++ exts b) (cond (nullable b) (firsts a) []) rest h in
    let e = complete b g2.1 us v rest d (heads_split (exts a) (exts b) rest h2.0).1 in
    let t : heads (firsts a) (us ++ rest) ≡ false =
    elim (front b us v d) [
      | inl p ↦ (let h3 = subst (λ (m : Bool). heads (cond m (firsts a) []) rest ≡ false) p.1 h2.1 in rw p.0 h3)
      | inr p ↦ disjoint_heads (firsts a) (firsts b) (us ++ rest) g3.1 (heads_append (firsts b) us rest p)
    ] in
    rw (t, e) refl
complete (Opt a) g us None rest d h = rw (d, (heads_split (firsts a) (exts a) rest h).0) refl
complete (Opt a) g us (Some v) rest d h =
    let g1 = and_parts (good a) (not (nullable a)) g in
    let t = heads_append (firsts a) us rest (some_front a us (not-true (nullable a) g1.1) (front a us v d)) in
    let e = complete a g1.0 us v rest d (heads_split (firsts a) (exts a) rest h).1 in
    rw (t, e) refl
complete (Many a) g us vs rest d h =
    let g1 = and_parts (good a && not (nullable a)) (disjoint (exts a) (firsts a)) g in
    let g2 = and_parts (good a) (not (nullable a)) g1.0 in
    complete_each a (complete a g2.0) (not-true (nullable a) g2.1) g1.1 (length (us ++ rest)) us vs rest (let l = length-append us rest in omega arith) d h
complete (Refuse c k) g us v rest d h = absurd d
complete (Chain c a b) g us vs rest d h =
    let k = good_chain c a b g in
    let two = heads_split (firsts a ++ firsts b) (exts a ++ exts b) rest h in
    complete_chain (by_flag (read a) (read b)) (ByFlag (Derives a) (Derives b)) (flag_firsts a b) (exts a ++ exts b) c
    (complete_flag a b (complete a k.first) (complete b k.second)) (some_flag a b k.first_some k.second_some) (free_flag a b k.free)
    (length (us ++ rest)) false us vs rest (let l = length-append us rest in omega arith) d (not_first a b rest two.0) two.1
