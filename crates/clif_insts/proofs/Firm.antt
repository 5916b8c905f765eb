-- Where no word is refused behind a whole text of a rule, reading that text and what follows it ends with a value, or goes on into what follows.
use Rattle.std.proofs.Common.{◌≡◌, ℕ, zero, suc, ◌≤◌, ◌<◌, Bool, true, false, not, ◌&&◌, ◌||◌, ◌==◌, cond, List, [], ◌∷◌, ◌++◌, length, Some, None, Ok, Err, refl, sym, ap, subst, ◌∙◌, arith, inl, inr, append_assoc, length-append}
use Rattle.std.proofs.lemmas.Bool.{eqb-true, eq-eqb, and_parts, not-true}
use Rattle.std.proofs.lemmas.List.Folds.{list_any-append}
use Rattle.grammar.specs.Rules.{Lexeme, Kind, Rule, Empty, Tok, Seq, Alt, Opt, Many, Refuse, Chain, Tree, Each, Derives, heads, member, nullable, firsts, exts, disjoint, good, Out, ◌>>=◌, repeat, read}
use Rattle.grammar.proofs.Sets.{one_way, heads_split, heads_append, heads_some, disjoint_heads}
use Rattle.grammar.proofs.Exactness.{front, front_each, complete, some_front}
use Rattle.grammar.proofs.Past.{Left, shrinks, left_bind, left_more}
use Rattle.token_reader.proofs.Takes.{or_false}

-- no word is refused where the rule begins
abbrev pub early : Rule → Bool
early Empty = true
early (Tok c) = true
early (Seq a b) = early a && (not (nullable a) || early b)
early (Alt a b) = early a && early b
early (Opt a) = early a
early (Many a) = early a
early (Refuse cs k) = false
early (Chain c a b) = false

-- no word is refused behind a whole text of the rule
abbrev pub firm : Rule → Bool
firm Empty = true
firm (Tok c) = true
firm (Seq a b) = firm b && (not (nullable b) || (firm a && early b))
firm (Alt a b) = (firm a && firm b) && (not (nullable b) || early a)
firm (Opt a) = firm a && early a
firm (Many a) = firm a && early a
firm (Refuse cs k) = true
firm (Chain c a b) = false

abbrev Less : {A : Type 0} → ℕ → Out A → Type 0
Less n (Ok x) = length x.1 < n
Less n (Err e) = length e.1 < n

-- no more is left than this many tokens, and fewer at a fault
abbrev pub Over : {A : Type 0} → ℕ → Out A → Type 0
Over n (Ok x) = length x.1 ≤ n
Over n (Err e) = length e.1 < n

less_then : {A B : Type 0} (n : ℕ) (o : Out A) (f : A × List Lexeme → Out B) → Less n o → ((x : A × List Lexeme) → length x.1 < n → Less n (f x)) → Less n (o >>= f)
less_then n (Ok x) f h g = g x h
less_then n (Err e) f h g = h

over_then : {A B : Type 0} (n : ℕ) (o : Out A) (f : A × List Lexeme → Out B) → Over n o → ((x : A × List Lexeme) → length x.1 ≤ n → Over n (f x)) → Over n (o >>= f)
over_then n (Ok x) f h g = g x h
over_then n (Err e) f h g = h

left_less : {A : Type 0} (m n : ℕ) (o : Out A) → m < n → Left m o → Less n o
left_less m n (Ok x) lt h = omega arith
left_less m n (Err e) lt h = omega arith

less_over : {A : Type 0} (m n : ℕ) (o : Out A) → m ≤ n → Less m o → Over n o
less_over m n (Ok x) le h = omega arith
less_over m n (Err e) le h = omega arith

rest_left : (a : Rule) (m : ℕ) (ts : List Lexeme) → Left (length ts) (repeat (read a) (firsts a) m ts)
rest_left a zero ts = omega arith
rest_left a (suc m) ts = go (rest_left a m) (heads (firsts a) ts)
  where
    go : ((us : List Lexeme) → Left (length us) (repeat (read a) (firsts a) m us))
        → (b : Bool) → Left (length ts) (cond {A = Out (List (Tree a))} b (read a ts >>= λ x. repeat (read a) (firsts a) m x.1 >>= λ y. Ok (x.0 ∷ y.0, y.1)) (Ok ([], ts)))
    go ih true =
        left_bind (length ts) (read a ts) (λ x. repeat (read a) (firsts a) m x.1 >>= λ y. Ok (x.0 ∷ y.0, y.1)) (shrinks a ts)
        (λ x h. left_bind (length ts) (repeat (read a) (firsts a) m x.1) (λ y. Ok (x.0 ∷ y.0, y.1)) (left_more (length x.1) (length ts) (repeat (read a) (firsts a) m x.1) h (ih x.1)) (λ y k. k))
    go ih false = omega arith

right_of : (cs ds : List ℕ) (ts : List Lexeme) → heads (cs ++ ds) ts ≡ true → heads cs ts ≡ false → heads ds ts ≡ true
right_of cs ds [] h f = h
right_of cs ds (x ∷ xs) h f = let q : (member x.class cs || member x.class ds) ≡ true = sym (list_any-append (λ d. d == x.class) cs ds) ∙ h in rw f at q

when_true : (a b : Bool) → (not a || b) ≡ true → a ≡ true → b ≡ true
when_true true b h e = h
when_true false b h e = absurd cc

-- a rule that may be left out reads nothing where none of its first tokens is next
skips : (r : Rule) → good r ≡ true → nullable r ≡ true → (ts : List Lexeme) → heads (firsts r) ts ≡ false → (w : Tree r) × (read r ts ≡ Ok (w, ts))
skips Empty g n ts h = (tt, refl)
skips (Tok c) g n ts h = absurd cc
skips (Seq a b) g n ts h =
    let g1 = and_parts (good a && good b) (disjoint (exts a) (firsts b)) g in
    let g2 = and_parts (good a) (good b) g1.0 in
    let n2 = and_parts (nullable a) (nullable b) n in
    let h1 : heads (firsts a ++ firsts b) ts ≡ false = rw n2.0 at h in
    let h2 = heads_split (firsts a) (firsts b) ts h1 in
    let x = skips a g2.0 n2.0 ts h2.0 in
    let y = skips b g2.1 n2.1 ts h2.1 in
    ((x.0, y.0), rw (x.1, y.1) refl)
skips (Alt a b) g n ts h =
    let g1 = and_parts (good a && good b) (not (nullable a) && disjoint (firsts a) (firsts b)) g in
    let g2 = and_parts (good a) (good b) g1.0 in
    let g3 = and_parts (not (nullable a)) (disjoint (firsts a) (firsts b)) g1.1 in
    let n2 : nullable b ≡ true = rw (not-true (nullable a) g3.0) at n in
    let h2 = heads_split (firsts a) (firsts b) ts h in
    let y = skips b g2.1 n2 ts h2.1 in
    (inr y.0, rw (h2.0, y.1) refl)
skips (Opt a) g n ts h = (None, rw h refl)
skips (Many a) g n [] h = ([], refl)
skips (Many a) g n (x ∷ xs) h = ([], rw h refl)
skips (Refuse cs k) g n ts h = absurd cc
skips (Chain c a b) g n [] h = ([], refl)
skips (Chain c a b) g n (x ∷ xs) h = ([], rw h refl)

-- where one of its first tokens is next, a rule goes past it
moves : (r : Rule) → good r ≡ true → early r ≡ true → (ts : List Lexeme) → heads (firsts r) ts ≡ true → Less (length ts) (read r ts)
moves Empty g e [] h = absurd cc
moves Empty g e (x ∷ xs) h = absurd cc
moves (Tok c) g e [] h = absurd cc
moves (Tok c) g e (x ∷ xs) h =
    let same : (x.class == c) ≡ true = eq-eqb x.class c (sym (eqb-true c x.class (sym (or_false (c == x.class)) ∙ h))) in
    rw same (omega arith)
moves (Seq a b) g e ts h =
    let g1 = and_parts (good a && good b) (disjoint (exts a) (firsts b)) g in
    let g2 = and_parts (good a) (good b) g1.0 in
    let e1 = and_parts (early a) (not (nullable a) || early b) e in
    elim (one_way (heads (firsts a) ts)) [
      | inl p ↦ less_then (length ts) (read a ts) (λ x. read b x.1 >>= λ y. Ok ((x.0, y.0), y.1)) (moves a g2.0 e1.0 ts p)
          (λ x lt. less_then (length ts) (read b x.1) (λ y. Ok ((x.0, y.0), y.1)) (left_less (length x.1) (length ts) (read b x.1) lt (shrinks b x.1)) (λ y k. k))
      | inr p ↦ second g2.0 g2.1 e1.1 p (moves b g2.1) (nullable a) refl (right_of (firsts a) (cond (nullable a) (firsts b) []) ts h p)
    ]
  where
    second : good a ≡ true → good b ≡ true → (not (nullable a) || early b) ≡ true → heads (firsts a) ts ≡ false → (early b ≡ true → (us : List Lexeme) → heads (firsts b) us ≡ true → Less (length us) (read b us))
        → (n : Bool) → nullable a ≡ n → heads (cond n (firsts b) []) ts ≡ true → Less (length ts) (read (Seq a b) ts)
    second ga gb eb p ih true n q =
        let x = skips a ga n ts p in
        rw x.1 (less_then (length ts) (read b ts) (λ y. Ok ((x.0, y.0), y.1)) (ih (when_true (nullable a) (early b) eb n) ts q) (λ y k. k))
    second ga gb eb p ih false n q = absurd (none ts q)
      where
        none : (us : List Lexeme) → heads [] us ≡ true → ⊥
        none [] q = absurd cc
        none (x ∷ xs) q = absurd cc
moves (Alt a b) g e ts h =
    let g1 = and_parts (good a && good b) (not (nullable a) && disjoint (firsts a) (firsts b)) g in
    let g2 = and_parts (good a) (good b) g1.0 in
    let e1 = and_parts (early a) (early b) e in
    elim (one_way (heads (firsts a) ts)) [
      | inl p ↦ rw p (less_then (length ts) (read a ts) (λ x. Ok (inl x.0, x.1)) (moves a g2.0 e1.0 ts p) (λ x k. k))
      | inr p ↦ rw p (less_then (length ts) (read b ts) (λ x. Ok (inr x.0, x.1)) (moves b g2.1 e1.1 ts (right_of (firsts a) (firsts b) ts h p)) (λ x k. k))
    ]
moves (Opt a) g e ts h =
    let g1 = and_parts (good a) (not (nullable a)) g in
    rw h (less_then (length ts) (read a ts) (λ x. Ok (Some x.0, x.1)) (moves a g1.0 e ts h) (λ x k. k))
moves (Many a) g e [] h = absurd cc
moves (Many a) g e (x ∷ xs) h =
    let g1 = and_parts (good a && not (nullable a)) (disjoint (exts a) (firsts a)) g in
    let g2 = and_parts (good a) (not (nullable a)) g1.0 in
    rw h (less_then (length (x ∷ xs)) (read a (x ∷ xs)) (λ y. repeat (read a) (firsts a) (length xs) y.1 >>= λ z. Ok (y.0 ∷ z.0, z.1)) (moves a g2.0 e (x ∷ xs) h)
    (λ y lt. less_then (length (x ∷ xs)) (repeat (read a) (firsts a) (length xs) y.1) (λ z. Ok (y.0 ∷ z.0, z.1)) (left_less (length y.1) (length (x ∷ xs)) (repeat (read a) (firsts a) (length xs) y.1) lt (rest_left a (length xs) y.1)) (λ z k. k)))
moves (Refuse cs k) g e ts h = absurd cc
moves (Chain c a b) g e ts h = absurd cc

abbrev pub OverTexts : Rule → Type 0
OverTexts r = (us : List Lexeme) (v : Tree r) (tail : List Lexeme) → Derives r us v → Over (length tail) (read r (us ++ tail))

-- a repetition, from here on
over_rest : (a : Rule) → good a ≡ true → early a ≡ true → (n : ℕ) (ts : List Lexeme) → Over (length ts) (repeat (read a) (firsts a) n ts)
over_rest a g e zero ts = omega arith
over_rest a g e (suc n) ts =
    elim (one_way (heads (firsts a) ts)) [
      | inl p ↦ rw p (less_over (length ts) (length ts) (read a ts >>= λ x. repeat (read a) (firsts a) n x.1 >>= λ y. Ok (x.0 ∷ y.0, y.1)) (omega arith)
          (less_then (length ts) (read a ts) (λ x. repeat (read a) (firsts a) n x.1 >>= λ y. Ok (x.0 ∷ y.0, y.1)) (moves a g e ts p)
          (λ x lt. less_then (length ts) (repeat (read a) (firsts a) n x.1) (λ y. Ok (x.0 ∷ y.0, y.1)) (left_less (length x.1) (length ts) (repeat (read a) (firsts a) n x.1) lt (rest_left a n x.1)) (λ y k. k))))
      | inr p ↦ rw p (omega arith)
    ]

over_more : {A : Type 0} (m n : ℕ) (o : Out A) → m ≤ n → Over m o → Over n o
over_more m n (Ok x) le h = omega arith
over_more m n (Err e) le h = omega arith

over_each : (a : Rule) → good a ≡ true → early a ≡ true → OverTexts a → nullable a ≡ false → disjoint (exts a) (firsts a) ≡ true
    → (n : ℕ) (us : List Lexeme) (vs : List (Tree a)) (tail : List Lexeme) → length us ≤ n → Each (Derives a) us vs → Over (length tail) (repeat (read a) (firsts a) n (us ++ tail))
over_each a g e one some dis n us [] tail le d = rw d (over_rest a g e n tail)
over_each a g e one some dis zero us (v ∷ vs) tail le d =
    let p = some_front a d.0 some (front a d.0 v d.3.0) in
    absurd (let k = heads_some (firsts a) d.0 p in let l = length-append d.0 d.1 in let m = ap length d.2 in omega arith)
over_each a g e one some dis (suc n) us (v ∷ vs) tail le d =
    let p = some_front a d.0 some (front a d.0 v d.3.0) in
    let le2 : length d.1 ≤ n = (let k = heads_some (firsts a) d.0 p in let l = length-append d.0 d.1 in let m = ap length d.2 in omega arith) in
    let ih = over_each a g e one some dis n d.1 vs tail le2 d.3.1 in
    let t = heads_append (firsts a) d.0 (d.1 ++ tail) p in
    let whole : us ++ tail ≡ d.0 ++ (d.1 ++ tail) = ap (λ (l : List Lexeme). l ++ tail) d.2 ∙ append_assoc d.0 d.1 tail in
    subst (λ (l : List Lexeme). Over (length tail) (repeat (read a) (firsts a) (suc n) l)) (sym whole) (rw t (
    elim (one_way (heads (exts a) (d.1 ++ tail))) [
      | inr q ↦ rw (complete a g d.0 v (d.1 ++ tail) d.3.0 q) (over_then (length tail) (repeat (read a) (firsts a) n (d.1 ++ tail)) (λ y. Ok (v ∷ y.0, y.1)) ih (λ y k. k))
      | inl q ↦ elim (front_each a (front a) d.1 vs d.3.1) [
        | inr f ↦ absurd (let z = disjoint_heads (exts a) (firsts a) (d.1 ++ tail) dis (heads_append (firsts a) d.1 tail f) in let y : false ≡ true = sym z ∙ q in cc)
        | inl f ↦ subst (λ (l : List Lexeme). Over (length tail) (read a (d.0 ++ (l ++ tail)) >>= λ x. repeat (read a) (firsts a) n x.1 >>= λ y. Ok (x.0 ∷ y.0, y.1))) (sym f)
            (over_then (length tail) (read a (d.0 ++ tail)) (λ x. repeat (read a) (firsts a) n x.1 >>= λ y. Ok (x.0 ∷ y.0, y.1)) (one d.0 v tail d.3.0)
            (λ x k. over_then (length tail) (repeat (read a) (firsts a) n x.1) (λ y. Ok (x.0 ∷ y.0, y.1)) (over_more (length x.1) (length tail) (repeat (read a) (firsts a) n x.1) k (over_rest a g e n x.1)) (λ y j. j)))
      ]
    ]))

-- behind a text that ends with a rule that may be left out
over_second : (b : Rule) → good b ≡ true → early b ≡ true → nullable b ≡ true → (ts : List Lexeme) → Over (length ts) (read b ts)
over_second b g e n ts =
    elim (one_way (heads (firsts b) ts)) [
      | inl p ↦ less_over (length ts) (length ts) (read b ts) (omega arith) (moves b g e ts p)
      | inr p ↦ (let x = skips b g n ts p in rw x.1 (omega arith))
    ]

pub over : (r : Rule) → good r ≡ true → firm r ≡ true → OverTexts r
over Empty g f us v tail d = rw d (omega arith)
over (Tok c) g f us x tail d = rw (d.0, d.1, eq-eqb c c refl) (omega arith)
over (Seq a b) g f us v tail d =
    let g1 = and_parts (good a && good b) (disjoint (exts a) (firsts b)) g in
    let g2 = and_parts (good a) (good b) g1.0 in
    let f1 = and_parts (firm b) (not (nullable b) || (firm a && early b)) f in
    let whole : us ++ tail ≡ d.0 ++ (d.1 ++ tail) = ap (λ (l : List Lexeme). l ++ tail) d.2 ∙ append_assoc d.0 d.1 tail in
    subst (λ (l : List Lexeme). Over (length tail) (read (Seq a b) l)) (sym whole) (
    elim (one_way (heads (exts a) (d.1 ++ tail))) [
      | inr q ↦ rw (complete a g2.0 d.0 v.0 (d.1 ++ tail) d.3.0 q) (over_then (length tail) (read b (d.1 ++ tail)) (λ y. Ok ((v.0, y.0), y.1)) (over b g2.1 f1.0 d.1 v.1 tail d.3.1) (λ y k. k))
      | inl q ↦ elim (front b d.1 v.1 d.3.1) [
        | inr p ↦ absurd (let z = disjoint_heads (exts a) (firsts b) (d.1 ++ tail) g1.1 (heads_append (firsts b) d.1 tail p) in let y : false ≡ true = sym z ∙ q in cc)
        | inl p ↦ (
            let f2 = and_parts (firm a) (early b) (when_true (nullable b) (firm a && early b) f1.1 p.1) in
            subst (λ (l : List Lexeme). Over (length tail) (read (Seq a b) (d.0 ++ (l ++ tail)))) (sym p.0)
            (over_then (length tail) (read a (d.0 ++ tail)) (λ x. read b x.1 >>= λ y. Ok ((x.0, y.0), y.1)) (over a g2.0 f2.0 d.0 v.0 tail d.3.0)
            (λ x k. over_then (length tail) (read b x.1) (λ y. Ok ((x.0, y.0), y.1)) (over_more (length x.1) (length tail) (read b x.1) k (over_second b g2.1 f2.1 p.1 x.1)) (λ y j. j))))
      ]
    ])
over (Alt a b) g f us (inl v) tail d =
    let g1 = and_parts (good a && good b) (not (nullable a) && disjoint (firsts a) (firsts b)) g in
    let g2 = and_parts (good a) (good b) g1.0 in
    let g3 = and_parts (not (nullable a)) (disjoint (firsts a) (firsts b)) g1.1 in
    let f1 = and_parts (firm a && firm b) (not (nullable b) || early a) f in
    let f2 = and_parts (firm a) (firm b) f1.0 in
    let t = heads_append (firsts a) us tail (some_front a us (not-true (nullable a) g3.0) (front a us v d)) in
    rw t (over_then (length tail) (read a (us ++ tail)) (λ x. Ok (inl x.0, x.1)) (over a g2.0 f2.0 us v tail d) (λ x k. k))
over (Alt a b) g f us (inr v) tail d =
    let g1 = and_parts (good a && good b) (not (nullable a) && disjoint (firsts a) (firsts b)) g in
    let g2 = and_parts (good a) (good b) g1.0 in
    let g3 = and_parts (not (nullable a)) (disjoint (firsts a) (firsts b)) g1.1 in
    let f1 = and_parts (firm a && firm b) (not (nullable b) || early a) f in
    let f2 = and_parts (firm a) (firm b) f1.0 in
    let second = over b g2.1 f2.1 us v tail d in
    elim (one_way (heads (firsts a) (us ++ tail))) [
      | inr t ↦ rw t (over_then (length tail) (read b (us ++ tail)) (λ x. Ok (inr x.0, x.1)) second (λ x k. k))
      | inl t ↦ elim (front b us v d) [
        | inr p ↦ absurd (let z = disjoint_heads (firsts a) (firsts b) (us ++ tail) g3.1 (heads_append (firsts b) us tail p) in let y : false ≡ true = sym z ∙ t in cc)
        | inl p ↦ (
            let t2 : heads (firsts a) tail ≡ true = subst (λ (l : List Lexeme). heads (firsts a) (l ++ tail) ≡ true) p.0 t in
            let m = less_over (length tail) (length tail) (read a tail) (omega arith) (moves a g2.0 (when_true (nullable b) (early a) f1.1 p.1) tail t2) in
            subst (λ (l : List Lexeme). Over (length tail) (read (Alt a b) (l ++ tail))) (sym p.0) (rw t2 (over_then (length tail) (read a tail) (λ x. Ok (inl x.0, x.1)) m (λ x k. k))))
      ]
    ]
over (Opt a) g f us None tail d =
    let g1 = and_parts (good a) (not (nullable a)) g in
    let f1 = and_parts (firm a) (early a) f in
    rw d (
    elim (one_way (heads (firsts a) tail)) [
      | inl t ↦ rw t (over_then (length tail) (read a tail) (λ x. Ok (Some x.0, x.1)) (less_over (length tail) (length tail) (read a tail) (omega arith) (moves a g1.0 f1.1 tail t)) (λ x k. k))
      | inr t ↦ rw t (omega arith)
    ])
over (Opt a) g f us (Some v) tail d =
    let g1 = and_parts (good a) (not (nullable a)) g in
    let f1 = and_parts (firm a) (early a) f in
    let t = heads_append (firsts a) us tail (some_front a us (not-true (nullable a) g1.1) (front a us v d)) in
    rw t (over_then (length tail) (read a (us ++ tail)) (λ x. Ok (Some x.0, x.1)) (over a g1.0 f1.0 us v tail d) (λ x k. k))
over (Many a) g f us vs tail d =
    let g1 = and_parts (good a && not (nullable a)) (disjoint (exts a) (firsts a)) g in
    let g2 = and_parts (good a) (not (nullable a)) g1.0 in
    let f1 = and_parts (firm a) (early a) f in
    over_each a g2.0 f1.1 (over a g2.0 f1.0) (not-true (nullable a) g2.1) g1.1 (length (us ++ tail)) us vs tail (let l = length-append us tail in omega arith) d
over (Refuse cs k) g f us v tail d = absurd d
over (Chain c a b) g f us vs tail d = absurd cc

-- where reading stops with a fault, what was read before is no text
pub no_text : (r : Rule) → good r ≡ true → firm r ≡ true → (ts us rest : List Lexeme) (k : Kind) → ts ≡ us ++ rest → read r ts ≡ Err (k, rest) → (v : Tree r) → Derives r us v → ⊥
no_text r g f ts us rest k e h v d =
    let o : Over (length rest) (read r (us ++ rest)) = over r g f us v rest d in
    let same : read r (us ++ rest) ≡ Err (k, rest) = sym (ap (read r) e) ∙ h in
    let less : length rest < length rest = subst (Over (length rest)) same o in
    omega arith
