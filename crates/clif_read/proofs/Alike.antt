-- Rules that say the same.
use Rattle.std.proofs.Common.{◌≡◌, ℕ, List, [], ◌∷◌, ◌++◌, map, Option, Some, None, refl, sym, ap, subst, ◌∙◌, inl, inr, append_assoc}
use Rattle.std.specs.Prelude.{◌⊎◌}
use Rattle.grammar.specs.Rules.{Lexeme, Rule, Empty, Tok, Seq, Alt, Opt, Many, Refuse, Chain, Kind, Tree, Derives, Begins}
use Rattle.grammar.proofs.Binds.{regroup}
use Rattle.token_reader.specs.Values.{either}
use Rattle.clif_read.specs.Alike.{Means, Alike}

pub alike_same : {Y : Type 0} (r : Rule) (f g : Tree r → Y) → ((v : Tree r) → f v ≡ g v) → Alike r r f g
alike_same r f g e = record {
  there = λ ts v d. (v, d, sym (e v));
  back = λ ts v d. (v, d, e v);
  begun = λ ts b. b;
  begun_back = λ ts b. b;
}

pub alike_back : {Y : Type 0} {r s : Rule} {f : Tree r → Y} {g : Tree s → Y} → Alike r s f g → Alike s r g f
alike_back a = record { there = a.back; back = a.there; begun = a.begun_back; begun_back = a.begun }

pub alike_then : {Y : Type 0} {r s t : Rule} {f : Tree r → Y} {g : Tree s → Y} {h : Tree t → Y} → Alike r s f g → Alike s t g h → Alike r t f h
alike_then a b = record {
  there = λ ts v d. (let x = a.there ts v d in let y = b.there ts x.0 x.1 in (y.0, y.1, y.2 ∙ x.2));
  back = λ ts v d. (let x = b.back ts v d in let y = a.back ts x.0 x.1 in (y.0, y.1, y.2 ∙ x.2));
  begun = λ ts h. b.begun ts (a.begun ts h);
  begun_back = λ ts h. a.begun_back ts (b.begun_back ts h);
}

-- seen as something else
pub alike_map : {Y Z : Type 0} {r s : Rule} {f : Tree r → Y} {g : Tree s → Y} (h : Y → Z) → Alike r s f g → Alike r s (λ v. h (f v)) (λ v. h (g v))
alike_map h a = record {
  there = λ ts v d. (let x = a.there ts v d in (x.0, x.1, ap h x.2));
  back = λ ts v d. (let x = a.back ts v d in (x.0, x.1, ap h x.2));
  begun = a.begun;
  begun_back = a.begun_back;
}

-- ---- one of two

alt_there : {Y : Type 0} (a b c d : Rule) (fa : Tree a → Y) (fb : Tree b → Y) (fc : Tree c → Y) (fd : Tree d → Y)
    → ((ts : List Lexeme) (v : Tree a) → Derives a ts v → Means c fc ts (fa v)) → ((ts : List Lexeme) (v : Tree b) → Derives b ts v → Means d fd ts (fb v))
    → (ts : List Lexeme) (v : Tree a ⊎ Tree b) → Derives (Alt a b) ts v → Means (Alt c d) (either fc fd) ts (either fa fb v)
alt_there a b c d fa fb fc fd p q ts (inl v) h = let x = p ts v h in (inl x.0, x.1, x.2)
alt_there a b c d fa fb fc fd p q ts (inr v) h = let x = q ts v h in (inr x.0, x.1, x.2)

pub alt_alike : {Y : Type 0} {a b c d : Rule} {fa : Tree a → Y} {fb : Tree b → Y} {fc : Tree c → Y} {fd : Tree d → Y} → Alike a c fa fc → Alike b d fb fd → Alike (Alt a b) (Alt c d) (either fa fb) (either fc fd)
alt_alike {Y} {a} {b} {c} {d} {fa} {fb} {fc} {fd} x y = record {
  there = alt_there a b c d fa fb fc fd x.there y.there;
  back = alt_there c d a b fc fd fa fb x.back y.back;
  begun = λ ts. elim [ inl h ↦ inl (x.begun ts h) | inr h ↦ inr (y.begun ts h) ];
  begun_back = λ ts. elim [ inl h ↦ inl (x.begun_back ts h) | inr h ↦ inr (y.begun_back ts h) ];
}

alt_swap_there : {Y : Type 0} (a b : Rule) (f : Tree a → Y) (g : Tree b → Y) (ts : List Lexeme) (v : Tree a ⊎ Tree b) → Derives (Alt a b) ts v → Means (Alt b a) (either g f) ts (either f g v)
alt_swap_there a b f g ts (inl v) d = (inr v, d, refl)
alt_swap_there a b f g ts (inr v) d = (inl v, d, refl)

pub alt_swap : {Y : Type 0} (a b : Rule) (f : Tree a → Y) (g : Tree b → Y) → Alike (Alt a b) (Alt b a) (either f g) (either g f)
alt_swap a b f g = record {
  there = alt_swap_there a b f g;
  back = alt_swap_there b a g f;
  begun = λ ts. elim [ inl h ↦ inr h | inr h ↦ inl h ];
  begun_back = λ ts. elim [ inl h ↦ inr h | inr h ↦ inl h ];
}

alt_group_there : {Y : Type 0} (a b c : Rule) (f : Tree a → Y) (g : Tree b → Y) (h : Tree c → Y) (ts : List Lexeme) (v : (Tree a ⊎ Tree b) ⊎ Tree c) → Derives (Alt (Alt a b) c) ts v → Means (Alt a (Alt b c)) (either f (either g h)) ts (either (either f g) h v)
alt_group_there a b c f g h ts (inl (inl v)) d = (inl v, d, refl)
alt_group_there a b c f g h ts (inl (inr v)) d = (inr (inl v), d, refl)
alt_group_there a b c f g h ts (inr v) d = (inr (inr v), d, refl)

alt_group_back : {Y : Type 0} (a b c : Rule) (f : Tree a → Y) (g : Tree b → Y) (h : Tree c → Y) (ts : List Lexeme) (v : Tree a ⊎ (Tree b ⊎ Tree c)) → Derives (Alt a (Alt b c)) ts v → Means (Alt (Alt a b) c) (either (either f g) h) ts (either f (either g h) v)
alt_group_back a b c f g h ts (inl v) d = (inl (inl v), d, refl)
alt_group_back a b c f g h ts (inr (inl v)) d = (inl (inr v), d, refl)
alt_group_back a b c f g h ts (inr (inr v)) d = (inr v, d, refl)

pub alt_group : {Y : Type 0} (a b c : Rule) (f : Tree a → Y) (g : Tree b → Y) (h : Tree c → Y) → Alike (Alt (Alt a b) c) (Alt a (Alt b c)) (either (either f g) h) (either f (either g h))
alt_group a b c f g h = record {
  there = alt_group_there a b c f g h;
  back = alt_group_back a b c f g h;
  begun = λ ts. elim [ inl x ↦ elim x [ inl y ↦ inl y | inr y ↦ inr (inl y) ] | inr x ↦ inr (inr x) ];
  begun_back = λ ts. elim [ inl x ↦ inl (inl x) | inr x ↦ elim x [ inl y ↦ inl (inr y) | inr y ↦ inr y ] ];
}

-- ---- one after the other

pub seq_alike : {Y M N : Type 0} {a b c d : Rule} {fa : Tree a → M} {fc : Tree c → M} {fb : Tree b → N} {fd : Tree d → N} (F : M → N → Y) → Alike a c fa fc → Alike b d fb fd
    → Alike (Seq a b) (Seq c d) (λ v. F (fa v.0) (fb v.1)) (λ v. F (fc v.0) (fd v.1))
seq_alike {Y} {M} {N} {a} {b} {c} {d} {fa} {fc} {fb} {fd} F x y = record {
  there = λ ts v h. (let k = x.there h.0 v.0 h.3.0 in let l = y.there h.1 v.1 h.3.1 in ((k.0, l.0), (h.0, h.1, h.2, (k.1, l.1)), rw (k.2, l.2) refl));
  back = λ ts v h. (let k = x.back h.0 v.0 h.3.0 in let l = y.back h.1 v.1 h.3.1 in ((k.0, l.0), (h.0, h.1, h.2, (k.1, l.1)), rw (k.2, l.2) refl));
  begun = λ ts. elim [ inl h ↦ inl (x.begun ts h) | inr h ↦ (let k = x.there h.0 h.3.0.0 h.3.0.1 in inr (h.0, h.1, h.2, ((k.0, k.1), y.begun h.1 h.3.1))) ];
  begun_back = λ ts. elim [ inl h ↦ inl (x.begun_back ts h) | inr h ↦ (let k = x.back h.0 h.3.0.0 h.3.0.1 in inr (h.0, h.1, h.2, ((k.0, k.1), y.begun_back h.1 h.3.1))) ];
}

-- the second by what the first is
pub seq_second : {Y M : Type 0} {a b d : Rule} (m : Tree a → M) (f : M → Tree b → Y) (g : M → Tree d → Y) → ((x : M) → Alike b d (f x) (g x)) → Alike (Seq a b) (Seq a d) (λ v. f (m v.0) v.1) (λ v. g (m v.0) v.1)
seq_second m f g y = record {
  there = λ ts v h. (let l = (y (m v.0)).there h.1 v.1 h.3.1 in ((v.0, l.0), (h.0, h.1, h.2, (h.3.0, l.1)), l.2));
  back = λ ts v h. (let l = (y (m v.0)).back h.1 v.1 h.3.1 in ((v.0, l.0), (h.0, h.1, h.2, (h.3.0, l.1)), l.2));
  begun = λ ts. elim [ inl h ↦ inl h | inr h ↦ inr (h.0, h.1, h.2, (h.3.0, (y (m h.3.0.0)).begun h.1 h.3.1)) ];
  begun_back = λ ts. elim [ inl h ↦ inl h | inr h ↦ inr (h.0, h.1, h.2, (h.3.0, (y (m h.3.0.0)).begun_back h.1 h.3.1)) ];
}

further : (ts us ws u1 u2 : List Lexeme) → ts ≡ us ++ ws → us ≡ u1 ++ u2 → ts ≡ u1 ++ (u2 ++ ws)
further ts us ws u1 u2 e f = e ∙ ap (λ (l : List Lexeme). l ++ ws) f ∙ append_assoc u1 u2 ws

pub seq_group : {Y : Type 0} (a b c : Rule) (F : Tree a → Tree b → Tree c → Y) → Alike (Seq (Seq a b) c) (Seq a (Seq b c)) (λ v. F v.0.0 v.0.1 v.1) (λ v. F v.0 v.1.0 v.1.1)
seq_group a b c F = record {
  there = λ ts v h. ((v.0.0, (v.0.1, v.1)), (h.3.0.0, h.3.0.1 ++ h.1, further ts h.0 h.1 h.3.0.0 h.3.0.1 h.2 h.3.0.2, (h.3.0.3.0, (h.3.0.1, h.1, refl, (h.3.0.3.1, h.3.1)))), refl);
  back = λ ts v h. (((v.0, v.1.0), v.1.1), (h.0 ++ h.3.1.0, h.3.1.1, regroup ts h.0 h.3.1.0 h.1 h.3.1.1 h.2 h.3.1.2, ((h.0, h.3.1.0, refl, (h.3.0, h.3.1.3.0)), h.3.1.3.1)), refl);
  begun = λ ts. elim [
    | inl h ↦ elim h [ inl k ↦ inl k | inr k ↦ inr (k.0, k.1, k.2, (k.3.0, inl k.3.1)) ]
    | inr h ↦ (let d = h.3.0.1 in inr (d.0, d.1 ++ h.1, further ts h.0 h.1 d.0 d.1 h.2 d.2, ((h.3.0.0.0, d.3.0), inr (d.1, h.1, refl, ((h.3.0.0.1, d.3.1), h.3.1)))))
  ];
  begun_back = λ ts. elim [
    | inl h ↦ inl (inl h)
    | inr h ↦ elim h.3.1 [
      | inl k ↦ inl (inr (h.0, h.1, h.2, (h.3.0, k)))
      | inr k ↦ inr (h.0 ++ k.0, k.1, regroup ts h.0 k.0 h.1 k.1 h.2 k.2, (((h.3.0.0, k.3.0.0), (h.0, k.0, refl, (h.3.0.1, k.3.0.1))), k.3.1))
    ]
  ];
}

seq_alt_there : {Y : Type 0} (a b c : Rule) (F : Tree a → Tree b → Y) (G : Tree a → Tree c → Y) (ts : List Lexeme) (x : Tree a) (v : Tree b ⊎ Tree c) → Derives (Seq a (Alt b c)) ts (x, v)
    → Means (Alt (Seq a b) (Seq a c)) (either (λ w. F w.0 w.1) (λ w. G w.0 w.1)) ts (either (F x) (G x) v)
seq_alt_there a b c F G ts x (inl v) h = (inl (x, v), h, refl)
seq_alt_there a b c F G ts x (inr v) h = (inr (x, v), h, refl)

seq_alt_back : {Y : Type 0} (a b c : Rule) (F : Tree a → Tree b → Y) (G : Tree a → Tree c → Y) (ts : List Lexeme) (v : (Tree a × Tree b) ⊎ (Tree a × Tree c)) → Derives (Alt (Seq a b) (Seq a c)) ts v
    → Means (Seq a (Alt b c)) (λ w. either (F w.0) (G w.0) w.1) ts (either (λ w. F w.0 w.1) (λ w. G w.0 w.1) v)
seq_alt_back a b c F G ts (inl v) h = ((v.0, inl v.1), h, refl)
seq_alt_back a b c F G ts (inr v) h = ((v.0, inr v.1), h, refl)

pub seq_alt : {Y : Type 0} (a b c : Rule) (F : Tree a → Tree b → Y) (G : Tree a → Tree c → Y) → Alike (Seq a (Alt b c)) (Alt (Seq a b) (Seq a c)) (λ v. either (F v.0) (G v.0) v.1) (either (λ v. F v.0 v.1) (λ v. G v.0 v.1))
seq_alt a b c F G = record {
  there = λ ts v h. seq_alt_there a b c F G ts v.0 v.1 h;
  back = seq_alt_back a b c F G;
  begun = λ ts. elim [
    | inl h ↦ inl (inl h)
    | inr h ↦ elim h.3.1 [ inl k ↦ inl (inr (h.0, h.1, h.2, (h.3.0, k))) | inr k ↦ inr (inr (h.0, h.1, h.2, (h.3.0, k))) ]
  ];
  begun_back = λ ts. elim [
    | inl h ↦ elim h [ inl k ↦ inl k | inr k ↦ inr (k.0, k.1, k.2, (k.3.0, inl k.3.1)) ]
    | inr h ↦ elim h [ inl k ↦ inl k | inr k ↦ inr (k.0, k.1, k.2, (k.3.0, inr k.3.1)) ]
  ];
}

-- ---- what may be left out

begun_nothing : (r : Rule) → Begins r []
begun_nothing Empty = refl
begun_nothing (Tok c) = inl refl
begun_nothing (Seq a b) = inl (begun_nothing a)
begun_nothing (Alt a b) = inl (begun_nothing a)
begun_nothing (Opt a) = inl refl
begun_nothing (Many a) = ([], [], refl, (([], refl), inl refl))
begun_nothing (Refuse cs k) = refl
begun_nothing (Chain c a b) = ([], [], refl, (([], refl), inl refl))

opt_seq_there : {Y : Type 0} (a b : Rule) (F : Option (Tree a) → Tree b → Y) (ts : List Lexeme) (o : Option (Tree a)) (v : Tree b) → Derives (Seq (Opt a) b) ts (o, v)
    → Means (Alt b (Seq a b)) (either (F None) (λ w. F (Some w.0) w.1)) ts (F o v)
opt_seq_there a b F ts None v h = (inl v, subst (λ (l : List Lexeme). Derives b l v) (sym (h.2 ∙ ap (λ (l : List Lexeme). l ++ h.1) h.3.0)) h.3.1, refl)
opt_seq_there a b F ts (Some x) v h = (inr (x, v), h, refl)

opt_seq_back : {Y : Type 0} (a b : Rule) (F : Option (Tree a) → Tree b → Y) (ts : List Lexeme) (v : Tree b ⊎ (Tree a × Tree b)) → Derives (Alt b (Seq a b)) ts v
    → Means (Seq (Opt a) b) (λ w. F w.0 w.1) ts (either (F None) (λ w. F (Some w.0) w.1) v)
opt_seq_back a b F ts (inl v) h = ((None, v), ([], ts, refl, (refl, h)), refl)
opt_seq_back a b F ts (inr v) h = ((Some v.0, v.1), h, refl)

opt_cut : (a b : Rule) (ts us ws : List Lexeme) (o : Option (Tree a)) → ts ≡ us ++ ws → Derives (Opt a) us o → Begins b ws → Begins (Alt b (Seq a b)) ts
opt_cut a b ts us ws None e h k = inl (subst (Begins b) (sym (e ∙ ap (λ (l : List Lexeme). l ++ ws) h)) k)
opt_cut a b ts us ws (Some x) e h k = inr (inr (us, ws, e, ((x, h), k)))

pub opt_seq : {Y : Type 0} (a b : Rule) (F : Option (Tree a) → Tree b → Y) → Alike (Seq (Opt a) b) (Alt b (Seq a b)) (λ v. F v.0 v.1) (either (F None) (λ v. F (Some v.0) v.1))
opt_seq a b F = record {
  there = λ ts v h. opt_seq_there a b F ts v.0 v.1 h;
  back = opt_seq_back a b F;
  begun = λ ts. elim [
    | inl h ↦ elim h [ inl k ↦ inl (subst (Begins b) (sym k) (begun_nothing b)) | inr k ↦ inr (inl k) ]
    | inr h ↦ opt_cut a b ts h.0 h.1 h.3.0.0 h.2 h.3.0.1 h.3.1
  ];
  begun_back = λ ts. elim [
    | inl h ↦ inr ([], ts, refl, ((None, refl), h))
    | inr h ↦ elim h [ inl k ↦ inl (inr k) | inr k ↦ inr (k.0, k.1, k.2, ((Some k.3.0.0, k.3.0.1), k.3.1)) ]
  ];
}

-- ---- lists

each_alike : {Y : Type 0} (a b : Rule) (f : Tree a → Y) (g : Tree b → Y) → ((ts : List Lexeme) (v : Tree a) → Derives a ts v → Means b g ts (f v))
    → (ts : List Lexeme) (vs : List (Tree a)) → Derives (Many a) ts vs → Means (Many b) (map g) ts (map f vs)
each_alike a b f g p ts [] h = ([], h, refl)
each_alike {Y} a b f g p ts (v ∷ vs) h =
    let k = p h.0 v h.3.0 in
    let l = each_alike a b f g p h.1 vs h.3.1 in
    (k.0 ∷ l.0, (h.0, h.1, h.2, (k.1, l.1)), rw (k.2, l.2) refl)

pub many_alike : {Y : Type 0} {a b : Rule} {f : Tree a → Y} {g : Tree b → Y} → Alike a b f g → Alike (Many a) (Many b) (map f) (map g)
many_alike {Y} {a} {b} {f} {g} x = record {
  there = each_alike a b f g x.there;
  back = each_alike b a g f x.back;
  begun = λ ts h. (let k = each_alike a b f g x.there h.0 h.3.0.0 h.3.0.1 in (h.0, h.1, h.2, ((k.0, k.1), elim h.3.1 [ inl e ↦ inl e | inr e ↦ inr (x.begun h.1 e) ])));
  begun_back = λ ts h. (let k = each_alike b a g f x.back h.0 h.3.0.0 h.3.0.1 in (h.0, h.1, h.2, ((k.0, k.1), elim h.3.1 [ inl e ↦ inl e | inr e ↦ inr (x.begun_back h.1 e) ])));
}

-- ---- words that are refused

pub refuse_alike : {Y : Type 0} (cs ds : List ℕ) (j k : Kind) (f : ⊥ → Y) → Alike (Refuse cs j) (Refuse ds k) f f
refuse_alike cs ds j k f = record {
  there = λ ts v d. absurd v;
  back = λ ts v d. absurd v;
  begun = λ ts h. h;
  begun_back = λ ts h. h;
}
