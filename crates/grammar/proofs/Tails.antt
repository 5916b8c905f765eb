-- Rules that are alike but for what may stand behind their last token.
use Rattle.std.proofs.Common.{◌≡◌, ℕ, ◌==◌, ◌&&◌, ◌||◌, Bool, true, false, List, [], ◌∷◌, ◌++◌, Option, Some, None, refl, sym, ap, subst, ◌∙◌, inl, inr, append_assoc}
use Rattle.std.specs.Prelude.{◌⊎◌}
use Rattle.std.proofs.lemmas.Bool.{eq-eqb, or_parts}
use Rattle.std.proofs.lemmas.List.{append-nil}
use Rattle.grammar.specs.Rules.{Lexeme, Rule, Empty, Tok, Seq, Alt, Opt, Many, Refuse, Chain, Tree, Cut, Each, ends, nullable, heads, firsts, Derives, Begins}
use Rattle.grammar.proofs.Binds.{regroup}
use Rattle.grammar.proofs.Exactness.{front}
use Rattle.grammar.proofs.Past.{derives_begins}
use Rattle.grammar.proofs.Chains.{ends-append}
use Rattle.grammar.proofs.Same.{HasTree, Splits, SplitsBegun}

-- whether a text of the rule may end with a token of the class
abbrev pub may_end : ℕ → Rule → Bool
may_end c Empty = false
may_end c (Tok d) = d == c
may_end c (Seq a b) = may_end c b || (nullable b && may_end c a)
may_end c (Alt a b) = may_end c a || may_end c b
may_end c (Opt a) = may_end c a
may_end c (Many a) = may_end c a
may_end c (Refuse cs k) = false
may_end c (Chain d a b) = true

abbrev Quiet : ℕ → List Lexeme → Type 0
Quiet c us = (us ≡ []) ⊎ ((f : Bool) → ends c f us ≡ false)

quiet_two : (c : ℕ) (ts us ws : List Lexeme) → ts ≡ us ++ ws → ((f : Bool) → ends c f ws ≡ false) → Quiet c ts
quiet_two c ts us ws e h = inr (λ f. ap (ends c f) e ∙ ends-append c f us ws ∙ h (ends c f us))

quiet_each : (c : ℕ) (a : Rule) → ((us : List Lexeme) (v : Tree a) → Derives a us v → Quiet c us) → (ts : List Lexeme) (vs : List (Tree a)) → Each (Derives a) ts vs → Quiet c ts
quiet_each c a q ts [] d = inl d
quiet_each c a q ts (v ∷ vs) d =
    elim (quiet_each c a q d.1 vs d.3.1) [
      | inl z ↦ (let e : ts ≡ d.0 = d.2 ∙ ap (λ (l : List Lexeme). d.0 ++ l) z ∙ append-nil d.0 in subst (Quiet c) (sym e) (q d.0 v d.3.0))
      | inr z ↦ quiet_two c ts d.0 d.1 d.2 z
    ]

pub quiet : (c : ℕ) (r : Rule) → may_end c r ≡ false → (us : List Lexeme) (v : Tree r) → Derives r us v → Quiet c us
quiet c Empty m us v d = inl d
quiet c (Tok d) m us x h = inr (λ f. rw (h.0, h.1) m)
quiet c (Seq a b) m us v d =
    let k = or_parts (may_end c b) (nullable b && may_end c a) m in
    elim (quiet c b k.0 d.1 v.1 d.3.1) [
      | inl z ↦ (
          let e : us ≡ d.0 = d.2 ∙ ap (λ (l : List Lexeme). d.0 ++ l) z ∙ append-nil d.0 in
          elim (front b d.1 v.1 d.3.1) [
            | inl y ↦ (let ma : may_end c a ≡ false = subst (λ (t : Bool). (t && may_end c a) ≡ false) y.1 k.1 in subst (Quiet c) (sym e) (quiet c a ma d.0 v.0 d.3.0))
            | inr y ↦ absurd (let y2 : heads (firsts b) [] ≡ true = subst (λ (l : List Lexeme). heads (firsts b) l ≡ true) z y in cc)
          ]
          )
      | inr z ↦ quiet_two c us d.0 d.1 d.2 z
    ]
quiet c (Alt a b) m us (inl v) d = quiet c a (or_parts (may_end c a) (may_end c b) m).0 us v d
quiet c (Alt a b) m us (inr v) d = quiet c b (or_parts (may_end c a) (may_end c b) m).1 us v d
quiet c (Opt a) m us None d = inl d
quiet c (Opt a) m us (Some v) d = quiet c a m us v d
quiet c (Many a) m us vs d = quiet_each c a (quiet c a m) us vs d
quiet c (Refuse cs k) m us v d = absurd d
quiet c (Chain d a b) m us v h = absurd cc

not_empty : (r : Rule) → nullable r ≡ false → (us : List Lexeme) → HasTree r us → us ≡ [] → {A : Type 0} → A
not_empty r n us h e =
    elim (front r us h.0 h.1) [
      | inl y ↦ absurd (let k = y.1 in cc)
      | inr y ↦ absurd (let y2 : heads (firsts r) [] ≡ true = subst (λ (l : List Lexeme). heads (firsts r) l ≡ true) e y in cc)
    ]

-- a text that isn't empty ends alike whatever stands before it
pub solid : (c : ℕ) (r : Rule) → nullable r ≡ false → (us : List Lexeme) (f : Bool) → HasTree r us → ends c f us ≡ ends c false us
solid c r n [] f h = not_empty r n [] h refl
solid c r n (x ∷ xs) f h = refl

-- n is a, but a w may stand behind an a that ends with the token c
pub record Tail (c : ℕ) (n a w : Rule) : Type 0 where
  pub split : (ts : List Lexeme) → HasTree n ts → HasTree a ts ⊎ Cut ts (λ us vs. HasTree a us × ((f : Bool) → ends c f us ≡ true) × HasTree w vs)
  pub alone : (ts : List Lexeme) → HasTree a ts → HasTree n ts
  pub joined : (us vs : List Lexeme) → HasTree a us → ends c false us ≡ true → HasTree w vs → HasTree n (us ++ vs)
  pub split_b : (ts : List Lexeme) → Begins n ts → Begins a ts ⊎ Cut ts (λ us vs. HasTree a us × ((f : Bool) → ends c f us ≡ true) × Begins w vs)
  pub alone_b : (ts : List Lexeme) → Begins a ts → Begins n ts
  pub joined_b : (us vs : List Lexeme) → HasTree a us → ends c false us ≡ true → Begins w vs → Begins n (us ++ vs)

never : (c : ℕ) (a : Rule) → may_end c a ≡ false → nullable a ≡ false → (us : List Lexeme) → HasTree a us → ends c false us ≡ true → {A : Type 0} → A
never c a m n us h e =
    elim (quiet c a m us h.0 h.1) [
      | inl z ↦ not_empty a n us h z
      | inr z ↦ absurd (let k = z false in let t : true ≡ false = sym e ∙ k in cc)
    ]

-- a rule whose texts never end so
pub tail_same : (c : ℕ) (a w : Rule) → may_end c a ≡ false → nullable a ≡ false → Tail c a a w
tail_same c a w m n = record {
  split = λ ts h. inl h;
  alone = λ ts h. h;
  joined = λ us vs h e k. never c a m n us h e;
  split_b = λ ts h. inl h;
  alone_b = λ ts h. h;
  joined_b = λ us vs h e k. never c a m n us h e;
}

pub tok_ends : (c : ℕ) (us : List Lexeme) (x : Lexeme) → Derives (Tok c) us x → (f : Bool) → ends c f us ≡ true
tok_ends c us x h f = rw (h.0, h.1, eq-eqb c c refl) refl

-- the token itself
pub tail_end : (c : ℕ) (w : Rule) → Tail c (Seq (Tok c) (Opt w)) (Tok c) w
tail_end c w = record {
  split = λ ts h. whole ts h.0.0 h.0.1 h.1;
  alone = λ ts h. ((h.0, None), (ts, [], sym (append-nil ts), (h.1, refl)));
  joined = λ us vs h e k. ((h.0, Some k.0), (us, vs, refl, (h.1, k.1)));
  split_b = λ ts. elim [ inl h ↦ inl h | inr h ↦ begun ts h ];
  alone_b = λ ts h. inl h;
  joined_b = λ us vs h e k. inr (us, vs, refl, (h, inr k));
}
  where
    End : (List Lexeme → Type 0) → List Lexeme → Type 0
    End P ts = Cut ts (λ us vs. HasTree (Tok c) us × ((f : Bool) → ends c f us ≡ true) × P vs)

    whole : (ts : List Lexeme) (x : Lexeme) (o : Option (Tree w)) → Derives (Seq (Tok c) (Opt w)) ts (x, o) → HasTree (Tok c) ts ⊎ Cut ts (λ us vs. HasTree (Tok c) us × ((f : Bool) → ends c f us ≡ true) × HasTree w vs)
    whole ts x None d = inl (x, (let e : ts ≡ d.0 = d.2 ∙ ap (λ (l : List Lexeme). d.0 ++ l) d.3.1 ∙ append-nil d.0 in (e ∙ d.3.0.0, d.3.0.1)))
    whole ts x (Some v) d = inr (d.0, d.1, d.2, ((x, d.3.0), tok_ends c d.0 x d.3.0, (v, d.3.1)))

    begun : (ts : List Lexeme) → Cut ts (λ us ws. ((v : Lexeme) × Derives (Tok c) us v) × ((ws ≡ []) ⊎ Begins w ws)) → Begins (Tok c) ts ⊎ Cut ts (λ us vs. HasTree (Tok c) us × ((f : Bool) → ends c f us ≡ true) × Begins w vs)
    begun ts h =
        elim h.3.1 [
          | inl z ↦ (let e : ts ≡ h.0 = h.2 ∙ ap (λ (l : List Lexeme). h.0 ++ l) z ∙ append-nil h.0 in inl (subst (Begins (Tok c)) (sym e) (derives_begins (Tok c) h.0 h.3.0.0 h.3.0.1)))
          | inr z ↦ inr (h.0, h.1, h.2, (h.3.0, tok_ends c h.0 h.3.0.0 h.3.0.1, z))
        ]

pub tail_alt : (c : ℕ) (n1 a1 n2 a2 w : Rule) → Tail c n1 a1 w → Tail c n2 a2 w → Tail c (Alt n1 n2) (Alt a1 a2) w
tail_alt c n1 a1 n2 a2 w s t = record {
  split = λ ts h. whole ts h.0 h.1;
  alone = λ ts h. only ts h.0 h.1;
  joined = λ us vs h e k. both us vs h.0 h.1 e k;
  split_b = λ ts. elim [
    | inl h ↦ elim (s.split_b ts h) [ inl k ↦ inl (inl k) | inr k ↦ inr (k.0, k.1, k.2, ((inl k.3.0.0, k.3.0.1), k.3.1, k.3.2)) ]
    | inr h ↦ elim (t.split_b ts h) [ inl k ↦ inl (inr k) | inr k ↦ inr (k.0, k.1, k.2, ((inr k.3.0.0, k.3.0.1), k.3.1, k.3.2)) ]
  ];
  alone_b = λ ts. elim [ inl h ↦ inl (s.alone_b ts h) | inr h ↦ inr (t.alone_b ts h) ];
  joined_b = λ us vs h e k. both_b us vs h.0 h.1 e k;
}
  where
    whole : (ts : List Lexeme) (v : Tree n1 ⊎ Tree n2) → Derives (Alt n1 n2) ts v → HasTree (Alt a1 a2) ts ⊎ Cut ts (λ us vs. HasTree (Alt a1 a2) us × ((f : Bool) → ends c f us ≡ true) × HasTree w vs)
    whole ts (inl v) d = elim (s.split ts (v, d)) [ inl k ↦ inl (inl k.0, k.1) | inr k ↦ inr (k.0, k.1, k.2, ((inl k.3.0.0, k.3.0.1), k.3.1, k.3.2)) ]
    whole ts (inr v) d = elim (t.split ts (v, d)) [ inl k ↦ inl (inr k.0, k.1) | inr k ↦ inr (k.0, k.1, k.2, ((inr k.3.0.0, k.3.0.1), k.3.1, k.3.2)) ]

    only : (ts : List Lexeme) (v : Tree a1 ⊎ Tree a2) → Derives (Alt a1 a2) ts v → HasTree (Alt n1 n2) ts
    only ts (inl v) d = let k = s.alone ts (v, d) in (inl k.0, k.1)
    only ts (inr v) d = let k = t.alone ts (v, d) in (inr k.0, k.1)

    both : (us vs : List Lexeme) (v : Tree a1 ⊎ Tree a2) → Derives (Alt a1 a2) us v → ends c false us ≡ true → HasTree w vs → HasTree (Alt n1 n2) (us ++ vs)
    both us vs (inl v) d e k = let j = s.joined us vs (v, d) e k in (inl j.0, j.1)
    both us vs (inr v) d e k = let j = t.joined us vs (v, d) e k in (inr j.0, j.1)

    both_b : (us vs : List Lexeme) (v : Tree a1 ⊎ Tree a2) → Derives (Alt a1 a2) us v → ends c false us ≡ true → Begins w vs → Begins (Alt n1 n2) (us ++ vs)
    both_b us vs (inl v) d e k = inl (s.joined_b us vs (v, d) e k)
    both_b us vs (inr v) d e k = inr (t.joined_b us vs (v, d) e k)

-- behind something else
pub tail_seq : (c : ℕ) (p n a w : Rule) → nullable a ≡ false → Tail c n a w → Tail c (Seq p n) (Seq p a) w
tail_seq c p n a w some t = record {
  split = λ ts h. (elim (t.split h.1.1 (h.0.1, h.1.3.1)) [
    | inl k ↦ inl ((h.0.0, k.0), (h.1.0, h.1.1, h.1.2, (h.1.3.0, k.1)))
    | inr k ↦ inr (h.1.0 ++ k.0, k.1, regroup ts h.1.0 k.0 h.1.1 k.1 h.1.2 k.2, (((h.0.0, k.3.0.0), (h.1.0, k.0, refl, (h.1.3.0, k.3.0.1))), λ f. ends-append c f h.1.0 k.0 ∙ k.3.1 (ends c f h.1.0), k.3.2))
  ]);
  alone = λ ts h. (let k = t.alone h.1.1 (h.0.1, h.1.3.1) in ((h.0.0, k.0), (h.1.0, h.1.1, h.1.2, (h.1.3.0, k.1))));
  joined = λ us vs h e k. (let j = t.joined h.1.1 vs (h.0.1, h.1.3.1) (last us h e) k in ((h.0.0, j.0), (h.1.0, h.1.1 ++ vs, nearer us h.1.0 h.1.1 vs h.1.2, (h.1.3.0, j.1))));
  split_b = λ ts. elim [
    | inl h ↦ inl (inl h)
    | inr h ↦ elim (t.split_b h.1 h.3.1) [
      | inl k ↦ inl (inr (h.0, h.1, h.2, (h.3.0, k)))
      | inr k ↦ inr (h.0 ++ k.0, k.1, regroup ts h.0 k.0 h.1 k.1 h.2 k.2, (((h.3.0.0, k.3.0.0), (h.0, k.0, refl, (h.3.0.1, k.3.0.1))), λ f. ends-append c f h.0 k.0 ∙ k.3.1 (ends c f h.0), k.3.2))
    ]
  ];
  alone_b = λ ts. elim [ inl h ↦ inl h | inr h ↦ inr (h.0, h.1, h.2, (h.3.0, t.alone_b h.1 h.3.1)) ];
  joined_b = λ us vs h e k. inr (h.1.0, h.1.1 ++ vs, nearer us h.1.0 h.1.1 vs h.1.2, ((h.0.0, h.1.3.0), t.joined_b h.1.1 vs (h.0.1, h.1.3.1) (last us h e) k));
}
  where
    nearer : (us u1 u2 vs : List Lexeme) → us ≡ u1 ++ u2 → us ++ vs ≡ u1 ++ (u2 ++ vs)
    nearer us u1 u2 vs e = ap (λ (l : List Lexeme). l ++ vs) e ∙ append_assoc u1 u2 vs

    last : (us : List Lexeme) (h : HasTree (Seq p a) us) → ends c false us ≡ true → ends c false h.1.1 ≡ true
    last us h e = sym (solid c a some h.1.1 (ends c false h.1.0) (h.0.1, h.1.3.1)) ∙ sym (ends-append c false h.1.0 h.1.1) ∙ sym (ap (ends c false) h.1.2) ∙ e

-- ---- b is a or w

pub record Or (b a w : Rule) : Type 0 where
  pub second : (ts : List Lexeme) → HasTree b ts → HasTree a ts ⊎ HasTree w ts
  pub second_a : (ts : List Lexeme) → HasTree a ts → HasTree b ts
  pub second_w : (ts : List Lexeme) → HasTree w ts → HasTree b ts
  pub begun : (ts : List Lexeme) → Begins b ts → Begins a ts ⊎ Begins w ts
  pub begun_a : (ts : List Lexeme) → Begins a ts → Begins b ts
  pub begun_w : (ts : List Lexeme) → Begins w ts → Begins b ts

-- what may be left out
pub or_opt : (m e : Rule) → Or (Seq m (Opt e)) (Seq m e) m
or_opt m e = record {
  second = λ ts h. cut ts h.0.0 h.0.1 h.1;
  second_a = λ ts h. ((h.0.0, Some h.0.1), h.1);
  second_w = λ ts h. ((h.0, None), (ts, [], sym (append-nil ts), (h.1, refl)));
  begun = λ ts. elim [ inl h ↦ inl (inl h) | inr h ↦ cut_b ts h ];
  begun_a = λ ts. elim [ inl h ↦ inl h | inr h ↦ inr (h.0, h.1, h.2, (h.3.0, inr h.3.1)) ];
  begun_w = λ ts h. inl h;
}
  where
    cut : (ts : List Lexeme) (v : Tree m) (o : Option (Tree e)) → Derives (Seq m (Opt e)) ts (v, o) → HasTree (Seq m e) ts ⊎ HasTree m ts
    cut ts v None d = inr (v, (let q : ts ≡ d.0 = d.2 ∙ ap (λ (l : List Lexeme). d.0 ++ l) d.3.1 ∙ append-nil d.0 in subst (λ (l : List Lexeme). Derives m l v) (sym q) d.3.0))
    cut ts v (Some x) d = inl ((v, x), d)

    cut_b : (ts : List Lexeme) → Cut ts (λ us ws. ((v : Tree m) × Derives m us v) × ((ws ≡ []) ⊎ Begins e ws)) → Begins (Seq m e) ts ⊎ Begins m ts
    cut_b ts h =
        elim h.3.1 [
          | inl z ↦ (let q : ts ≡ h.0 = h.2 ∙ ap (λ (l : List Lexeme). h.0 ++ l) z ∙ append-nil h.0 in inr (subst (Begins m) (sym q) (derives_begins m h.0 h.3.0.0 h.3.0.1)))
          | inr z ↦ inl (inr (h.0, h.1, h.2, (h.3.0, z)))
        ]

pub or_left : (b a w x : Rule) → Or b a w → Or (Alt b x) (Alt a x) w
or_left b a w x s = record {
  second = λ ts h. cut ts h.0 h.1;
  second_a = λ ts h. put ts h.0 h.1;
  second_w = λ ts h. (let k = s.second_w ts h in (inl k.0, k.1));
  begun = λ ts. elim [ inl h ↦ elim (s.begun ts h) [ inl k ↦ inl (inl k) | inr k ↦ inr k ] | inr h ↦ inl (inr h) ];
  begun_a = λ ts. elim [ inl h ↦ inl (s.begun_a ts h) | inr h ↦ inr h ];
  begun_w = λ ts h. inl (s.begun_w ts h);
}
  where
    cut : (ts : List Lexeme) (v : Tree b ⊎ Tree x) → Derives (Alt b x) ts v → HasTree (Alt a x) ts ⊎ HasTree w ts
    cut ts (inl v) d = elim (s.second ts (v, d)) [ inl k ↦ inl (inl k.0, k.1) | inr k ↦ inr k ]
    cut ts (inr v) d = inl (inr v, d)

    put : (ts : List Lexeme) (v : Tree a ⊎ Tree x) → Derives (Alt a x) ts v → HasTree (Alt b x) ts
    put ts (inl v) d = let k = s.second_a ts (v, d) in (inl k.0, k.1)
    put ts (inr v) d = (inr v, d)

pub or_right : (b a w x : Rule) → Or b a w → Or (Alt x b) (Alt x a) w
or_right b a w x s = record {
  second = λ ts h. cut ts h.0 h.1;
  second_a = λ ts h. put ts h.0 h.1;
  second_w = λ ts h. (let k = s.second_w ts h in (inr k.0, k.1));
  begun = λ ts. elim [ inl h ↦ inl (inl h) | inr h ↦ elim (s.begun ts h) [ inl k ↦ inl (inr k) | inr k ↦ inr k ] ];
  begun_a = λ ts. elim [ inl h ↦ inl h | inr h ↦ inr (s.begun_a ts h) ];
  begun_w = λ ts h. inr (s.begun_w ts h);
}
  where
    cut : (ts : List Lexeme) (v : Tree x ⊎ Tree b) → Derives (Alt x b) ts v → HasTree (Alt x a) ts ⊎ HasTree w ts
    cut ts (inl v) d = inl (inl v, d)
    cut ts (inr v) d = elim (s.second ts (v, d)) [ inl k ↦ inl (inr k.0, k.1) | inr k ↦ inr k ]

    put : (ts : List Lexeme) (v : Tree x ⊎ Tree a) → Derives (Alt x a) ts v → HasTree (Alt x b) ts
    put ts (inl v) d = (inl v, d)
    put ts (inr v) d = let k = s.second_a ts (v, d) in (inr k.0, k.1)

pub or_seq : (b a w p : Rule) → Or b a w → Or (Seq p b) (Seq p a) (Seq p w)
or_seq b a w p s = record {
  second = λ ts h. (elim (s.second h.1.1 (h.0.1, h.1.3.1)) [ inl k ↦ inl ((h.0.0, k.0), (h.1.0, h.1.1, h.1.2, (h.1.3.0, k.1))) | inr k ↦ inr ((h.0.0, k.0), (h.1.0, h.1.1, h.1.2, (h.1.3.0, k.1))) ]);
  second_a = λ ts h. (let k = s.second_a h.1.1 (h.0.1, h.1.3.1) in ((h.0.0, k.0), (h.1.0, h.1.1, h.1.2, (h.1.3.0, k.1))));
  second_w = λ ts h. (let k = s.second_w h.1.1 (h.0.1, h.1.3.1) in ((h.0.0, k.0), (h.1.0, h.1.1, h.1.2, (h.1.3.0, k.1))));
  begun = λ ts. elim [
    | inl h ↦ inl (inl h)
    | inr h ↦ elim (s.begun h.1 h.3.1) [ inl k ↦ inl (inr (h.0, h.1, h.2, (h.3.0, k))) | inr k ↦ inr (inr (h.0, h.1, h.2, (h.3.0, k))) ]
  ];
  begun_a = λ ts. elim [ inl h ↦ inl h | inr h ↦ inr (h.0, h.1, h.2, (h.3.0, s.begun_a h.1 h.3.1)) ];
  begun_w = λ ts. elim [ inl h ↦ inl h | inr h ↦ inr (h.0, h.1, h.2, (h.3.0, s.begun_w h.1 h.3.1)) ];
}

-- ---- both together

pub splits : (c : ℕ) (n a b w : Rule) → Tail c n a w → Or b a w → nullable a ≡ false → nullable w ≡ false → may_end c w ≡ false → Splits c n a b w
splits c n a b w t o na nw m = record {
  split = t.split;
  alone = t.alone;
  joined = t.joined;
  second = o.second;
  second_a = o.second_a;
  second_w = o.second_w;
  quiet = λ ts f h. (elim (quiet c w m ts h.0 h.1) [ inl z ↦ not_empty w nw ts h z | inr z ↦ z f ]);
  solid = λ ts f h. solid c a na ts f h;
}

pub splits_begun : (c : ℕ) (n a b w : Rule) → Tail c n a w → Or b a w → SplitsBegun c n a b w
splits_begun c n a b w t o = record { split = t.split_b; alone = t.alone_b; joined = t.joined_b; second = o.begun; second_a = o.begun_a; second_w = o.begun_w }
