-- Where reading stops: behind a text that begins the rule, and before the first token with which it does not.
use Rattle.std.proofs.Common.{◌≡◌, ℕ, zero, suc, ◌==◌, Bool, true, false, cond, List, [], ◌∷◌, ◌++◌, length, Some, None, Result, Ok, Err, refl, sym, ap, subst, ◌∙◌, inl, inr, append_assoc}
use Rattle.std.specs.Prelude.{◌⊎◌}
use Rattle.grammar.specs.Rules.{Lexeme, Kind, Syntax, Rule, Empty, Tok, Seq, Alt, Opt, Many, Refuse, Chain, Tree, ByFlag, OnFlag, Derives, Begins, Refuses, member, heads, firsts, Out, ◌>>=◌, token, refusal, repeat, by_flag, read}
use Rattle.grammar.proofs.Binds.{Stop, bind_err, ok_err, regroup}
use Rattle.grammar.proofs.Chains.{stopped_chain}
use Rattle.grammar.proofs.Exactness.{sound_flag, flag_firsts, sound, Took}

abbrev failed : {A : Type 0} → Stop → Result A Stop
failed e = Err e

pub err_is : {A : Type 0} (x y : Stop) → failed {A = A} x ≡ failed {A = A} y → x ≡ y
err_is {A} x y e = cc

-- ---- what was read before a stop begins the rule

abbrev Why : Rule → List Lexeme → Stop → Type 0
Why r us e = (e.0 ≡ Syntax) ⊎ ((x : Lexeme) × (more : List Lexeme) × (e.1 ≡ x ∷ more) × Refuses r us x e.0)

abbrev pub Stopped : Rule → List Lexeme → Stop → Type 0
Stopped r ts e = (us : List Lexeme) × (ts ≡ us ++ e.1) × Begins r us × Why r us e

why_more : (r q : Rule) (us ws : List Lexeme) (e : Stop) → ((x : Lexeme) (k : Kind) → Refuses r us x k → Refuses q ws x k) → Why r us e → Why q ws e
why_more r q us ws e f (inl h) = inl h
why_more r q us ws e f (inr h) = inr (h.0, h.1, h.2, f h.0 e.0 h.3)

stopped_each : (a : Rule) → ((ts : List Lexeme) (e : Stop) → read a ts ≡ Err e → Stopped a ts e)
    → (n : ℕ) (ts : List Lexeme) (e : Stop) → repeat (read a) (firsts a) n ts ≡ Err e → Stopped (Many a) ts e
stopped_each a one zero ts e h = ok_err ([], ts) e h
stopped_each a one (suc n) ts e h = go (stopped_each a one n) (heads (firsts a) ts) h
  where
    more : (x : Tree a × List Lexeme) → Took a ts x → Stopped (Many a) x.1 e → Stopped (Many a) ts e
    more x s t =
        let m = t.2 in (
          s.0 ++ t.0,
          regroup ts s.0 t.0 x.1 e.1 s.1 t.1,
          (s.0 ++ m.0, m.1, ap (λ (l : List Lexeme). s.0 ++ l) m.2 ∙ sym (append_assoc s.0 m.0 m.1), ((x.0 ∷ m.3.0.0, (s.0, m.0, refl, (s.2, m.3.0.1))), m.3.1)),
          why_more (Many a) (Many a) t.0 (s.0 ++ t.0) e (λ y k w. (s.0 ++ w.0, w.1, ap (λ (l : List Lexeme). s.0 ++ l) w.2 ∙ sym (append_assoc s.0 w.0 w.1), ((x.0 ∷ w.3.0.0, (s.0, w.0, refl, (s.2, w.3.0.1))), w.3.1))) t.3,
        )

    go : ((us : List Lexeme) (e : Stop) → repeat (read a) (firsts a) n us ≡ Err e → Stopped (Many a) us e)
        → (b : Bool) → cond {A = Out (List (Tree a))} b (read a ts >>= λ x. repeat (read a) (firsts a) n x.1 >>= λ y. Ok (x.0 ∷ y.0, y.1)) (Ok ([], ts)) ≡ Err e → Stopped (Many a) ts e
    go ih true h =
        elim (bind_err {B = List (Tree a) × List Lexeme} (read a ts) (λ x. repeat (read a) (firsts a) n x.1 >>= λ y. Ok (x.0 ∷ y.0, y.1)) e h) [
          | inl p ↦
              let s = one ts e p in
              (s.0, s.1, ([], s.0, refl, (([], refl), inr s.2)), why_more a (Many a) s.0 s.0 e (λ y k w. ([], s.0, refl, (([], refl), w))) s.3)
          | inr p ↦
              elim (bind_err {B = List (Tree a) × List Lexeme} (repeat (read a) (firsts a) n p.0.1) (λ y. Ok (p.0.0 ∷ y.0, y.1)) e p.2) [
                | inl q ↦ more p.0 (sound a ts p.0 p.1) (ih p.0.1 e q)
                | inr q ↦ ok_err (p.0.0 ∷ q.0.0, q.0.1) e q.2
              ]
        ]
    go ih false h = ok_err ([], ts) e h

abbrev tok_out : Bool → Kind → Lexeme → List Lexeme → Out Lexeme
tok_out b k t ts = cond b (Ok (t, ts)) (Err (k, t ∷ ts))

stopped_tok : (c : ℕ) (ts : List Lexeme) (e : Stop) → token c ts ≡ Err e → Stopped (Tok c) ts e
stopped_tok c [] e h = subst (Stopped (Tok c) []) (err_is {A = Lexeme × List Lexeme} (Syntax, []) e h) ([], refl, inl refl, inl refl)
stopped_tok c (t ∷ ts) e h = go (t.class == c) h
  where
    go : (b : Bool) → tok_out b Syntax t ts ≡ Err e → Stopped (Tok c) (t ∷ ts) e
    go true h = ok_err (t, ts) e h
    go false h = subst (Stopped (Tok c) (t ∷ ts)) (err_is {A = Lexeme × List Lexeme} (Syntax, t ∷ ts) e h) ([], refl, inl refl, inl refl)

abbrev ref_out : Bool → Kind → Lexeme → List Lexeme → Out ⊥
ref_out b k t ts = cond b (Err (k, t ∷ ts)) (Err (Syntax, t ∷ ts))

stopped_ref : (c : List ℕ) (k : Kind) (ts : List Lexeme) (e : Stop) → refusal c k ts ≡ Err e → Stopped (Refuse c k) ts e
stopped_ref c k [] e h = subst (Stopped (Refuse c k) []) (err_is {A = ⊥ × List Lexeme} (Syntax, []) e h) ([], refl, refl, inl refl)
stopped_ref c k (t ∷ ts) e h = go (member t.class c) refl h
  where
    go : (b : Bool) → member t.class c ≡ b → ref_out b k t ts ≡ Err e → Stopped (Refuse c k) (t ∷ ts) e
    go true w h = subst (Stopped (Refuse c k) (t ∷ ts)) (err_is {A = ⊥ × List Lexeme} (k, t ∷ ts) e h) ([], refl, refl, inr (t, ts, refl, (refl, w, refl)))
    go false w h = subst (Stopped (Refuse c k) (t ∷ ts)) (err_is {A = ⊥ × List Lexeme} (Syntax, t ∷ ts) e h) ([], refl, refl, inl refl)

abbrev BeginsFlag : Rule → Rule → Bool → List Lexeme → Type 0
BeginsFlag a b f us = OnFlag f (Begins a us) (Begins b us)

abbrev RefusesFlag : Rule → Rule → Bool → List Lexeme → Lexeme → Kind → Type 0
RefusesFlag a b f us x k = OnFlag f (Refuses a us x k) (Refuses b us x k)

abbrev WhyFlag : Rule → Rule → Bool → List Lexeme → Stop → Type 0
WhyFlag a b f us e = (e.0 ≡ Syntax) ⊎ ((x : Lexeme) × (more : List Lexeme) × (e.1 ≡ x ∷ more) × RefusesFlag a b f us x e.0)

why_a : (a b : Rule) (us : List Lexeme) (e : Stop) → Why a us e → WhyFlag a b false us e
why_a a b us e (inl h) = inl h
why_a a b us e (inr h) = inr (h.0, h.1, h.2, inl (refl, h.3))

why_b : (a b : Rule) (us : List Lexeme) (e : Stop) → Why b us e → WhyFlag a b true us e
why_b a b us e (inl h) = inl h
why_b a b us e (inr h) = inr (h.0, h.1, h.2, inr (refl, h.3))

stopped_flag : (a b : Rule) → ((ts : List Lexeme) (e : Stop) → read a ts ≡ Err e → Stopped a ts e) → ((ts : List Lexeme) (e : Stop) → read b ts ≡ Err e → Stopped b ts e)
    → (f : Bool) (ts : List Lexeme) (e : Stop) → by_flag (read a) (read b) f ts ≡ Err e → (us : List Lexeme) × (ts ≡ us ++ e.1) × BeginsFlag a b f us × WhyFlag a b f us e
stopped_flag a b sa sb true ts e h =
    elim (bind_err {B = (Tree a ⊎ Tree b) × List Lexeme} (read b ts) (λ x. Ok (inr x.0, x.1)) e h) [
      | inl p ↦ (let s = sb ts e p in (s.0, s.1, inr (refl, s.2), why_b a b s.0 e s.3))
      | inr p ↦ ok_err (inr p.0.0, p.0.1) e p.2
    ]
stopped_flag a b sa sb false ts e h =
    elim (bind_err {B = (Tree a ⊎ Tree b) × List Lexeme} (read a ts) (λ x. Ok (inl x.0, x.1)) e h) [
      | inl p ↦ (let s = sa ts e p in (s.0, s.1, inl (refl, s.2), why_a a b s.0 e s.3))
      | inr p ↦ ok_err (inl p.0.0, p.0.1) e p.2
    ]

pub stopped : (r : Rule) (ts : List Lexeme) (e : Stop) → read r ts ≡ Err e → Stopped r ts e
stopped Empty ts e h = ok_err (let x : Unit {0} × List Lexeme = (tt, ts) in x) e h
stopped (Tok c) ts e h = stopped_tok c ts e h
stopped (Seq a b) ts e h =
    elim (bind_err {B = Tree (Seq a b) × List Lexeme} (read a ts) (λ x. read b x.1 >>= λ y. Ok ((x.0, y.0), y.1)) e h) [
      | inl p ↦ (let s = stopped a ts e p in (s.0, s.1, inl s.2, why_more a (Seq a b) s.0 s.0 e (λ y k w. inl w) s.3))
      | inr p ↦
          elim (bind_err {B = Tree (Seq a b) × List Lexeme} (read b p.0.1) (λ y. Ok ((p.0.0, y.0), y.1)) e p.2) [
            | inl q ↦ (
                let s = sound a ts p.0 p.1 in
                let t = stopped b p.0.1 e q in
                (s.0 ++ t.0, regroup ts s.0 t.0 p.0.1 e.1 s.1 t.1, inr (s.0, t.0, refl, ((p.0.0, s.2), t.2)), why_more b (Seq a b) t.0 (s.0 ++ t.0) e (λ y k w. inr (s.0, t.0, refl, ((p.0.0, s.2), w))) t.3)
                )
            | inr q ↦ ok_err ((p.0.0, q.0.0), q.0.1) e q.2
          ]
    ]
stopped (Alt a b) ts e h = go (stopped a ts) (stopped b ts) (heads (firsts a) ts) h
  where
    go : ((e : Stop) → read a ts ≡ Err e → Stopped a ts e) → ((e : Stop) → read b ts ≡ Err e → Stopped b ts e)
        → (w : Bool) → cond {A = Out (Tree (Alt a b))} w (read a ts >>= λ x. Ok (inl x.0, x.1)) (read b ts >>= λ x. Ok (inr x.0, x.1)) ≡ Err e → Stopped (Alt a b) ts e
    go f g true h =
        elim (bind_err {B = Tree (Alt a b) × List Lexeme} (read a ts) (λ x. Ok (inl x.0, x.1)) e h) [
          | inl p ↦ (let s = f e p in (s.0, s.1, inl s.2, why_more a (Alt a b) s.0 s.0 e (λ y k w. inl w) s.3))
          | inr p ↦ ok_err (inl p.0.0, p.0.1) e p.2
        ]
    go f g false h =
        elim (bind_err {B = Tree (Alt a b) × List Lexeme} (read b ts) (λ x. Ok (inr x.0, x.1)) e h) [
          | inl p ↦ (let s = g e p in (s.0, s.1, inr s.2, why_more b (Alt a b) s.0 s.0 e (λ y k w. inr w) s.3))
          | inr p ↦ ok_err (inr p.0.0, p.0.1) e p.2
        ]
stopped (Opt a) ts e h = go (stopped a ts) (heads (firsts a) ts) h
  where
    go : ((e : Stop) → read a ts ≡ Err e → Stopped a ts e)
        → (w : Bool) → cond {A = Out (Tree (Opt a))} w (read a ts >>= λ x. Ok (Some x.0, x.1)) (Ok (None, ts)) ≡ Err e → Stopped (Opt a) ts e
    go f true h =
        elim (bind_err {B = Tree (Opt a) × List Lexeme} (read a ts) (λ x. Ok (Some x.0, x.1)) e h) [
          | inl p ↦ (let s = f e p in (s.0, s.1, inr s.2, why_more a (Opt a) s.0 s.0 e (λ y k w. w) s.3))
          | inr p ↦ ok_err (Some p.0.0, p.0.1) e p.2
        ]
    go f false h = ok_err (None, ts) e h
stopped (Many a) ts e h = stopped_each a (stopped a) (length ts) ts e h
stopped (Refuse c k) ts e h = stopped_ref c k ts e h
stopped (Chain c a b) ts e h =
    stopped_chain (by_flag (read a) (read b)) (ByFlag (Derives a) (Derives b)) (BeginsFlag a b) (RefusesFlag a b) (flag_firsts a b) c
    (sound_flag a b (sound a) (sound b)) (stopped_flag a b (stopped a) (stopped b)) (length ts) false ts e h
