-- Reading by the next token gives the one reading, or the place where no text goes on.
use Rattle.std.proofs.Common.{◌≡◌, ◌≤◌, true, cond, List, [], ◌∷◌, ◌++◌, length, Result, Ok, Err, refl, sym, ap, subst, ◌∙◌, arith, inl, inr, append_assoc}
use Rattle.std.proofs.lemmas.List.{append-nil}
use Rattle.grammar.specs.Rules.{Lexeme, Kind, Syntax, Rule, Tree, Derives, Begins, Refuses, good, Out, ◌>>=◌, read, heads_any, read_all, Answers}
use Rattle.grammar.proofs.Binds.{ok_is}
use Rattle.grammar.proofs.Exactness.{sound, complete}
use Rattle.grammar.proofs.Stops.{stopped, err_is}
use Rattle.grammar.proofs.Past.{Left, past, derives_begins}
use Rattle.grammar.proofs.Refused.{refused}

abbrev Stop : Type 0
Stop = Kind × List Lexeme

pub split_at_next : (us more : List Lexeme) (x : Lexeme) → us ++ x ∷ more ≡ (us ++ x ∷ []) ++ more
split_at_next us more x = simp append_assoc

-- with the next token the text does not begin the rule, if reading stopped before it
no_more : (r : Rule) → good r ≡ true → (ts us more : List Lexeme) (x : Lexeme) (o : Out (Tree r)) → ts ≡ us ++ x ∷ more → read r ts ≡ o → (Left (length more) o → ⊥) → Begins r (us ++ x ∷ []) → ⊥
no_more r g ts us more x o e h small b =
    let p = past r g (us ++ x ∷ []) more b in
    small (subst (Left (length more)) h (subst (λ (l : List Lexeme). Left (length more) (read r l)) (sym (e ∙ split_at_next us more x)) p))

same_kind : {A : Type 0} (j k : Kind) (ts us : List Lexeme) → (let z : Result A Stop = Err (j, ts) in z) ≡ Err (k, us) → j ≡ k
same_kind {A} j k ts us h = ap (λ (p : Stop). p.0) (err_is {A = A} (j, ts) (k, us) h)

pub longer : (x : Lexeme) (more : List Lexeme) → length (x ∷ more) ≤ length more → ⊥
longer x more h = omega arith

pub exact : (r : Rule) → good r ≡ true → (ts : List Lexeme) → Answers r ts (read_all r ts)
exact r g ts = go (read r ts) refl
  where
    ok_end : (v : Tree r) → read r ts ≡ Ok (v, []) → Answers r ts (Ok v)
    ok_end v h =
        let s = sound r ts (v, []) h in
        let e : ts ≡ s.0 = s.1 ∙ append-nil s.0 in (
          subst (λ (l : List Lexeme). Derives r l v) (sym e) s.2,
          λ w d. (let c = complete r g ts w [] d refl in
              let c2 : read r ts ≡ Ok (w, []) = ap (read r) (sym (append-nil ts)) ∙ c in
              ap (λ (p : Tree r × List Lexeme). p.0) (ok_is (w, []) (v, []) (sym c2 ∙ h))),
        )

    ok_more : (v : Tree r) (x : Lexeme) (more : List Lexeme) → read r ts ≡ Ok (v, x ∷ more) → Answers r ts (Err (Syntax, x ∷ more))
    ok_more v x more h =
        let s = sound r ts (v, x ∷ more) h in (
          s.0,
          x ∷ more,
          s.1,
          (
            refl,
            derives_begins r s.0 v s.2,
            (
              no_more r g ts s.0 more x (Ok (v, x ∷ more)) s.1 h (longer x more),
              λ j d. absurd (let q = refused r g s.0 x j more d in let q2 = sym (ap (read r) s.1 ∙ q) ∙ h in let q3 : (let z : Out (Tree r) = Err (j, x ∷ more) in z) ≡ Ok (v, x ∷ more) = q2 in cc),
              inl refl,
            ),
          ),
        )

    err_end : (k : Kind) → read r ts ≡ Err (k, []) → Answers r ts (Err (k, []))
    err_end k h =
        let s = stopped r ts (k, []) h in
        let zero_kind : k ≡ Syntax = elim s.3 [ inl z ↦ z | inr z ↦ absurd (let q = z.2 in cc) ] in (
          s.0,
          [],
          s.1,
          (
            refl,
            s.2,
            (
              zero_kind,
              λ v d. (
                  let c = complete r g s.0 v [] d refl in
                  let c2 : (let z : Out (Tree r) = Err (k, []) in z) ≡ Ok (v, []) = sym h ∙ ap (read r) s.1 ∙ c in
                  absurd cc),
            ),
          ),
        )

    err_more : (k : Kind) (x : Lexeme) (more : List Lexeme) → read r ts ≡ Err (k, x ∷ more) → Answers r ts (Err (k, x ∷ more))
    err_more k x more h =
        let s = stopped r ts (k, x ∷ more) h in (
          s.0,
          x ∷ more,
          s.1,
          (
            refl,
            s.2,
            (
              no_more r g ts s.0 more x (Err (k, x ∷ more)) s.1 h (longer x more),
              λ j d. (let q = refused r g s.0 x j more d in same_kind {A = Tree r × List Lexeme} k j (x ∷ more) (x ∷ more) (sym h ∙ ap (read r) s.1 ∙ q)),
              elim s.3 [ inl z ↦ inl z | inr z ↦ inr (let e : x ≡ z.0 = (let q = z.2 in cc) in subst (λ (y : Lexeme). Refuses r s.0 y k) (sym e) z.3) ],
            ),
          ),
        )

    go : (o : Out (Tree r)) → read r ts ≡ o → Answers r ts (o >>= λ x. cond (heads_any x.1) (Err (Syntax, x.1)) (Ok x.0))
    go (Ok x) h = go_ok x.0 x.1 h
      where
        go_ok : (v : Tree r) (rest : List Lexeme) → read r ts ≡ Ok (v, rest) → Answers r ts (cond (heads_any rest) (Err (Syntax, rest)) (Ok v))
        go_ok v [] h = ok_end v h
        go_ok v (x ∷ more) h = ok_more v x more h
    go (Err e) h = go_err e.0 e.1 h
      where
        go_err : (k : Kind) (rest : List Lexeme) → read r ts ≡ Err (k, rest) → Answers r ts (Err (k, rest))
        go_err k [] h = err_end k h
        go_err k (x ∷ more) h = err_more k x more h
