-- A chain of texts, each of the rule that what stands before it asks for.
use Rattle.std.proofs.Common.{◌≡◌, ℕ, zero, suc, ◌-◌, ◌<◌, ◌≤◌, ◌==◌, Bool, true, false, cond, List, [], ◌∷◌, ◌++◌, length, Ok, Err, refl, sym, ap, subst, ◌∙◌, arith, inl, inr, append_assoc, length-append}
use Rattle.std.specs.Prelude.{◌⊎◌}
use Rattle.std.proofs.lemmas.List.{take_at}
use Rattle.grammar.specs.Rules.{Lexeme, Kind, Syntax, Cut, Links, ends, heads, Out, ◌>>=◌, used, chain}
use Rattle.grammar.proofs.Sets.{heads_append, heads_some}
use Rattle.grammar.proofs.Binds.{Stop, bind_ok, bind_err, ok_is, ok_err, regroup}

pub ends-append : (c : ℕ) (f : Bool) (us ws : List Lexeme) → ends c f (us ++ ws) ≡ ends c (ends c f us) ws
ends-append c f [] ws = refl
ends-append c f (u ∷ us) ws = ends-append c (u.class == c) us ws

pub used_is : (ts us rest : List Lexeme) → ts ≡ us ++ rest → used ts rest ≡ us
used_is ts us rest e =
    let n : length (us ++ rest) - length rest ≡ length us = omega (arith, length-append us rest) in
    ap (λ (l : List Lexeme). used l rest) e ∙ rw n (take_at us rest (length us) refl)

-- ---- what is read is derived

abbrev pub TookLinks : {A : Type 0} → (Bool → List Lexeme → A → Type 0) → ℕ → Bool → List Lexeme → List A × List Lexeme → Type 0
TookLinks D c f ts x = (us : List Lexeme) × (ts ≡ us ++ x.1) × Links D c f us x.0

pub sound_chain : {A : Type 0} (p : Bool → List Lexeme → Out A) (D : Bool → List Lexeme → A → Type 0) (cs : Bool → List ℕ) (c : ℕ)
    → ((f : Bool) (ts : List Lexeme) (x : A × List Lexeme) → p f ts ≡ Ok x → (us : List Lexeme) × (ts ≡ us ++ x.1) × D f us x.0)
    → (n : ℕ) (f : Bool) (ts : List Lexeme) (x : List A × List Lexeme) → chain p cs c f n ts ≡ Ok x → TookLinks D c f ts x
sound_chain {A} p D cs c one zero f ts x e = subst (TookLinks D c f ts) (ok_is ([], ts) x e) ([], refl, refl)
sound_chain {A} p D cs c one (suc n) f ts x e = go (sound_chain p D cs c one n) (heads (cs f) ts) e
  where
    go : ((g : Bool) (us : List Lexeme) (y : List A × List Lexeme) → chain p cs c g n us ≡ Ok y → TookLinks D c g us y)
        → (b : Bool) → cond {A = Out (List A)} b (p f ts >>= λ x. chain p cs c (ends c f (used ts x.1)) n x.1 >>= λ y. Ok (x.0 ∷ y.0, y.1)) (Ok ([], ts)) ≡ Ok x → TookLinks D c f ts x
    go ih true e =
        let a = bind_ok {B = List A × List Lexeme} (p f ts) (λ x. chain p cs c (ends c f (used ts x.1)) n x.1 >>= λ y. Ok (x.0 ∷ y.0, y.1)) x e in
        let b = bind_ok {B = List A × List Lexeme} (chain p cs c (ends c f (used ts a.0.1)) n a.0.1) (λ y. Ok (a.0.0 ∷ y.0, y.1)) x a.2 in
        let s = one f ts a.0 a.1 in
        let t = ih (ends c f (used ts a.0.1)) a.0.1 b.0 b.1 in
        let l = subst (λ (us : List Lexeme). Links D c (ends c f us) t.0 b.0.0) (used_is ts s.0 a.0.1 s.1) t.2 in
        subst (TookLinks D c f ts) (ok_is (a.0.0 ∷ b.0.0, b.0.1) x b.2) (s.0 ++ t.0, regroup ts s.0 t.0 a.0.1 b.0.1 s.1 t.1, (s.0, t.0, refl, (s.2, l)))
    go ih false e = subst (TookLinks D c f ts) (ok_is ([], ts) x e) ([], refl, refl)

-- ---- the token at the front

pub front_chain : {A : Type 0} (D : Bool → List Lexeme → A → Type 0) (cs : Bool → List ℕ) (c : ℕ)
    → ((f : Bool) (ts : List Lexeme) (v : A) → D f ts v → (ts ≡ []) ⊎ (heads (cs f) ts ≡ true))
    → (f : Bool) (ts : List Lexeme) (vs : List A) → Links D c f ts vs → (ts ≡ []) ⊎ (heads (cs f) ts ≡ true)
front_chain D cs c one f ts [] d = inl d
front_chain {A} D cs c one f ts (v ∷ vs) d =
    elim (one f d.0 v d.3.0) [
      | inl p ↦ (
          let l = subst (λ (us : List Lexeme). Links D c (ends c f us) d.1 vs) p d.3.1 in
          elim (front_chain D cs c one f d.1 vs l) [ inl q ↦ inl (rw (d.2, p, q) refl) | inr q ↦ inr (rw (d.2, p) q) ]
          )
      | inr p ↦ inr (rw d.2 (heads_append (cs f) d.0 d.1 p))
    ]

-- ---- where reading stops

abbrev pub BeginsLinks : {A : Type 0} → (Bool → List Lexeme → A → Type 0) → (Bool → List Lexeme → Type 0) → ℕ → Bool → List Lexeme → Type 0
BeginsLinks {A} D B c f ts = Cut ts (λ us ws. ((vs : List A) × Links D c f us vs) × ((ws ≡ []) ⊎ B (ends c f us) ws))

abbrev pub RefusesLinks : {A : Type 0} → (Bool → List Lexeme → A → Type 0) → (Bool → List Lexeme → Lexeme → Kind → Type 0) → ℕ → Bool → List Lexeme → Lexeme → Kind → Type 0
RefusesLinks {A} D R c f ts x k = Cut ts (λ us ws. ((vs : List A) × Links D c f us vs) × R (ends c f us) ws x k)

abbrev pub WhyBy : (Lexeme → Kind → Type 0) → Stop → Type 0
WhyBy R e = (e.0 ≡ Syntax) ⊎ ((x : Lexeme) × (more : List Lexeme) × (e.1 ≡ x ∷ more) × R x e.0)

why_by : (R Q : Lexeme → Kind → Type 0) (e : Stop) → ((x : Lexeme) (k : Kind) → R x k → Q x k) → WhyBy R e → WhyBy Q e
why_by R Q e f (inl h) = inl h
why_by R Q e f (inr h) = inr (h.0, h.1, h.2, f h.0 e.0 h.3)

pub stopped_chain : {A : Type 0} (p : Bool → List Lexeme → Out A) (D : Bool → List Lexeme → A → Type 0) (B : Bool → List Lexeme → Type 0) (R : Bool → List Lexeme → Lexeme → Kind → Type 0) (cs : Bool → List ℕ) (c : ℕ)
    → ((f : Bool) (ts : List Lexeme) (x : A × List Lexeme) → p f ts ≡ Ok x → (us : List Lexeme) × (ts ≡ us ++ x.1) × D f us x.0)
    → ((f : Bool) (ts : List Lexeme) (e : Stop) → p f ts ≡ Err e → (us : List Lexeme) × (ts ≡ us ++ e.1) × B f us × WhyBy (R f us) e)
    → (n : ℕ) (f : Bool) (ts : List Lexeme) (e : Stop) → chain p cs c f n ts ≡ Err e → (us : List Lexeme) × (ts ≡ us ++ e.1) × BeginsLinks D B c f us × WhyBy (RefusesLinks D R c f us) e
stopped_chain {A} p D B R cs c one stop zero f ts e h = ok_err ([], ts) e h
stopped_chain {A} p D B R cs c one stop (suc n) f ts e h = go (stopped_chain p D B R cs c one stop n) (heads (cs f) ts) h
  where
    more : (x : A × List Lexeme) → (us : List Lexeme) × (ts ≡ us ++ x.1) × D f us x.0
        → (us : List Lexeme) × (x.1 ≡ us ++ e.1) × BeginsLinks D B c (ends c f (used ts x.1)) us × WhyBy (RefusesLinks D R c (ends c f (used ts x.1)) us) e
        → (us : List Lexeme) × (ts ≡ us ++ e.1) × BeginsLinks D B c f us × WhyBy (RefusesLinks D R c f us) e
    more x s t0 =
        let t = subst (λ (w : List Lexeme). (us : List Lexeme) × (x.1 ≡ us ++ e.1) × BeginsLinks D B c (ends c f w) us × WhyBy (RefusesLinks D R c (ends c f w) us) e) (used_is ts s.0 x.1 s.1) t0 in
        let m = t.2 in
        let last : (m.1 ≡ []) ⊎ B (ends c f (s.0 ++ m.0)) m.1 = subst (λ (g : Bool). (m.1 ≡ []) ⊎ B g m.1) (sym (ends-append c f s.0 m.0)) m.3.1 in (
          s.0 ++ t.0,
          regroup ts s.0 t.0 x.1 e.1 s.1 t.1,
          (s.0 ++ m.0, m.1, ap (λ (l : List Lexeme). s.0 ++ l) m.2 ∙ sym (append_assoc s.0 m.0 m.1), ((x.0 ∷ m.3.0.0, (s.0, m.0, refl, (s.2, m.3.0.1))), last)),
          why_by (RefusesLinks D R c (ends c f s.0) t.0) (RefusesLinks D R c f (s.0 ++ t.0)) e
              (λ y k w. (s.0 ++ w.0, w.1, ap (λ (l : List Lexeme). s.0 ++ l) w.2 ∙ sym (append_assoc s.0 w.0 w.1), ((x.0 ∷ w.3.0.0, (s.0, w.0, refl, (s.2, w.3.0.1))), subst (λ (g : Bool). R g w.1 y k) (sym (ends-append c f s.0 w.0)) w.3.1))) t.3,
        )

    go : ((g : Bool) (us : List Lexeme) (e : Stop) → chain p cs c g n us ≡ Err e → (ws : List Lexeme) × (us ≡ ws ++ e.1) × BeginsLinks D B c g ws × WhyBy (RefusesLinks D R c g ws) e)
        → (b : Bool) → cond {A = Out (List A)} b (p f ts >>= λ x. chain p cs c (ends c f (used ts x.1)) n x.1 >>= λ y. Ok (x.0 ∷ y.0, y.1)) (Ok ([], ts)) ≡ Err e
        → (us : List Lexeme) × (ts ≡ us ++ e.1) × BeginsLinks D B c f us × WhyBy (RefusesLinks D R c f us) e
    go ih true h =
        elim (bind_err {B = List A × List Lexeme} (p f ts) (λ x. chain p cs c (ends c f (used ts x.1)) n x.1 >>= λ y. Ok (x.0 ∷ y.0, y.1)) e h) [
          | inl q ↦ (
              let s = stop f ts e q in
              (s.0, s.1, ([], s.0, refl, (([], refl), inr s.2)), why_by (R f s.0) (RefusesLinks D R c f s.0) e (λ y k w. ([], s.0, refl, (([], refl), w))) s.3)
              )
          | inr q ↦
              elim (bind_err {B = List A × List Lexeme} (chain p cs c (ends c f (used ts q.0.1)) n q.0.1) (λ y. Ok (q.0.0 ∷ y.0, y.1)) e q.2) [
                | inl r ↦ more q.0 (one f ts q.0 q.1) (ih (ends c f (used ts q.0.1)) q.0.1 e r)
                | inr r ↦ ok_err (q.0.0 ∷ r.0.0, r.0.1) e r.2
              ]
        ]
    go ih false h = ok_err ([], ts) e h

-- ---- what is derived is read

-- the step of a chain over one text
pub chain_step : {A : Type 0} (p : Bool → List Lexeme → Out A) (cs : Bool → List ℕ) (c n : ℕ) (f : Bool) (us rest : List Lexeme) (v : A)
    → heads (cs f) us ≡ true → p f (us ++ rest) ≡ Ok (v, rest)
    → chain p cs c f (suc n) (us ++ rest) ≡ (chain p cs c (ends c f us) n rest >>= λ y. Ok (v ∷ y.0, y.1))
chain_step {A} p cs c n f us rest v h e =
    let t = heads_append (cs f) us rest h in
    let u = used_is (us ++ rest) us rest refl in
    ap (λ (b : Bool). cond {A = Out (List A)} b (p f (us ++ rest) >>= λ x. chain p cs c (ends c f (used (us ++ rest) x.1)) n x.1 >>= λ y. Ok (x.0 ∷ y.0, y.1)) (Ok ([], us ++ rest))) t
    ∙ ap (λ (o : Out A). o >>= λ x. chain p cs c (ends c f (used (us ++ rest) x.1)) n x.1 >>= λ y. Ok (x.0 ∷ y.0, y.1)) e
    ∙ ap (λ (w : List Lexeme). chain p cs c (ends c f w) n rest >>= λ y. Ok (v ∷ y.0, y.1)) u

pub complete_chain : {A : Type 0} (p : Bool → List Lexeme → Out A) (D : Bool → List Lexeme → A → Type 0) (cs : Bool → List ℕ) (xs : List ℕ) (c : ℕ)
    → ((f : Bool) (us : List Lexeme) (v : A) (rest : List Lexeme) → D f us v → heads xs rest ≡ false → p f (us ++ rest) ≡ Ok (v, rest))
    → ((f : Bool) (us : List Lexeme) (v : A) → D f us v → heads (cs f) us ≡ true)
    → ((f : Bool) (ts : List Lexeme) → heads (cs f) ts ≡ true → heads xs ts ≡ false)
    → (n : ℕ) (f : Bool) (us : List Lexeme) (vs : List A) (rest : List Lexeme) → length us ≤ n → Links D c f us vs → ((g : Bool) → heads (cs g) rest ≡ false) → heads xs rest ≡ false
    → chain p cs c f n (us ++ rest) ≡ Ok (vs, rest)
complete_chain p D cs xs c one some dis zero f us [] rest le d h k = rw d refl
complete_chain p D cs xs c one some dis (suc n) f us [] rest le d h k = rw (d, h f) refl
complete_chain p D cs xs c one some dis zero f us (v ∷ vs) rest le d h k =
    let q = some f d.0 v d.3.0 in
    absurd (let i = heads_some (cs f) d.0 q in let l = length-append d.0 d.1 in let m = ap length d.2 in omega arith)
complete_chain {A} p D cs xs c one some dis (suc n) f us (v ∷ vs) rest le d h k =
    let q = some f d.0 v d.3.0 in
    let le2 : length d.1 ≤ n = (let i = heads_some (cs f) d.0 q in let l = length-append d.0 d.1 in let m = ap length d.2 in omega arith) in
    let ih = complete_chain p D cs xs c one some dis n (ends c f d.0) d.1 vs rest le2 d.3.1 h k in
    let free : heads xs (d.1 ++ rest) ≡ false =
    elim (front_chain D cs c (λ g ts w z. inr (some g ts w z)) (ends c f d.0) d.1 vs d.3.1) [
      | inl z ↦ rw z k
      | inr z ↦ dis (ends c f d.0) (d.1 ++ rest) (heads_append (cs (ends c f d.0)) d.1 rest z)
    ] in
    let e = one f d.0 v (d.1 ++ rest) d.3.0 free in
    ap (chain p cs c f (suc n)) (ap (λ (l : List Lexeme). l ++ rest) d.2 ∙ append_assoc d.0 d.1 rest) ∙ chain_step p cs c n f d.0 (d.1 ++ rest) v q e
    ∙ ap (λ (o : Out (List A)). o >>= λ y. Ok (v ∷ y.0, y.1)) ih

-- ---- refusals

pub refused_chain : {A : Type 0} (p : Bool → List Lexeme → Out A) (D : Bool → List Lexeme → A → Type 0) (R : Bool → List Lexeme → Lexeme → Kind → Type 0) (cs : Bool → List ℕ) (xs : List ℕ) (c : ℕ)
    → ((f : Bool) (us : List Lexeme) (v : A) (rest : List Lexeme) → D f us v → heads xs rest ≡ false → p f (us ++ rest) ≡ Ok (v, rest))
    → ((f : Bool) (us : List Lexeme) (v : A) → D f us v → heads (cs f) us ≡ true)
    → ((f : Bool) (ts : List Lexeme) → heads (cs f) ts ≡ true → heads xs ts ≡ false)
    → ((f : Bool) (ts : List Lexeme) (x : Lexeme) (k : Kind) (tail : List Lexeme) → R f ts x k → heads (cs f) (ts ++ x ∷ tail) ≡ true)
    → ((f : Bool) (ts : List Lexeme) (x : Lexeme) (k : Kind) (tail : List Lexeme) → R f ts x k → p f (ts ++ x ∷ tail) ≡ Err (k, x ∷ tail))
    → (n : ℕ) (f : Bool) (us ws : List Lexeme) (vs : List A) (x : Lexeme) (k : Kind) (tail : List Lexeme) → length us < n → Links D c f us vs → R (ends c f us) ws x k
    → chain p cs c f n (us ++ (ws ++ x ∷ tail)) ≡ Err (k, x ∷ tail)
refused_chain p D R cs xs c one some dis heads_r ref zero f us ws vs x k tail le d h = absurd (omega arith)
refused_chain {A} p D R cs xs c one some dis heads_r ref (suc n) f us ws [] x k tail le d h =
    let h2 = subst (λ (l : List Lexeme). R (ends c f l) ws x k) d h in
    rw (d, heads_r f ws x k tail h2, ref f ws x k tail h2) refl
refused_chain {A} p D R cs xs c one some dis heads_r ref (suc n) f us ws (v ∷ vs) x k tail le d h =
    let q = some f d.0 v d.3.0 in
    let le2 : length d.1 < n = (let i = heads_some (cs f) d.0 q in let l = length-append d.0 d.1 in let m = ap length d.2 in omega arith) in
    let flag : ends c f us ≡ ends c (ends c f d.0) d.1 = ap (ends c f) d.2 ∙ ends-append c f d.0 d.1 in
    let h2 = subst (λ (g : Bool). R g ws x k) flag h in
    let ih = refused_chain p D R cs xs c one some dis heads_r ref n (ends c f d.0) d.1 ws vs x k tail le2 d.3.1 h2 in
    let next : heads (cs (ends c f d.0)) (d.1 ++ (ws ++ x ∷ tail)) ≡ true =
    elim (front_chain D cs c (λ g ts w z. inr (some g ts w z)) (ends c f d.0) d.1 vs d.3.1) [
      | inl z ↦ (let h3 = subst (λ (l : List Lexeme). R (ends c (ends c f d.0) l) ws x k) z h2 in rw z (heads_r (ends c f d.0) ws x k tail h3))
      | inr z ↦ heads_append (cs (ends c f d.0)) d.1 (ws ++ x ∷ tail) z
    ] in
    let e = one f d.0 v (d.1 ++ (ws ++ x ∷ tail)) d.3.0 (dis (ends c f d.0) (d.1 ++ (ws ++ x ∷ tail)) next) in
    ap (chain p cs c f (suc n)) (ap (λ (l : List Lexeme). l ++ (ws ++ x ∷ tail)) d.2 ∙ append_assoc d.0 d.1 (ws ++ x ∷ tail)) ∙ chain_step p cs c n f d.0 (d.1 ++ (ws ++ x ∷ tail)) v q e
    ∙ ap (λ (o : Out (List A)). o >>= λ y. Ok (v ∷ y.0, y.1)) ih
