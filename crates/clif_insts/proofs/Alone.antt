-- A `return` whose next words begin the next line, by reading and by the grammar.
use Rattle.std.proofs.Common.{◌≡◌, Bool, true, false, cond, ◌==◌, List, [], ◌∷◌, ◌++◌, None, Ok, Err, refl, sym, ap, ◌∙◌, inl, inr}
use Rattle.std.specs.Prelude.{◌⊎◌}
use Rattle.std.proofs.lemmas.Bool.{eqb-true}
use Rattle.grammar.specs.Rules.{Lexeme, Rule, Many, Tree, Kind, Syntax, Out, heads, exts, read, ◌>>=◌}
use Rattle.grammar.proofs.Exactness.{sound, complete}
use Rattle.clif_words.specs.declared.class.Class.{Class}
use Rattle.clif_words.specs.declared.class.Class.TheVariants as classes
use Rattle.token_reader.specs.declared.raw.RawName.{RawName}
use Rattle.clif_insts.specs.declared.opening.Opening.TheVariants.{AfterResults}
use Rattle.clif_insts.specs.declared.raw.RawInst.{RawInst}
use Rattle.clif_insts.specs.declared.raw.RawOperands.TheVariants as operands
use Rattle.clif_words.specs.Classes.{code}
use Rattle.clif_words.specs.Terminals.{◌then◌, ◌or◌, arrow, comma, equals, value}
use Rattle.clif_insts.specs.Grammar.{return_alone}
use Rattle.token_reader.specs.Reading.{next_is, name, opcode, opcode_at, name_at, commas_at}
use Rattle.clif_insts.specs.Arguments.{more_values_at}
use Rattle.token_reader.specs.Values.{◌otherwise◌, seen}
use Rattle.clif_insts.specs.InstValues.{raw}
use Rattle.clif_insts.specs.Forms.{inst_by, inst_at, return_inst_at, opt_values_at, return_values_at, whole_at, own_values_at, return_line_at, one_at}
use Rattle.clif_insts.specs.Insts.{Starts}
use Rattle.token_reader.proofs.Seen.{Is, then_is, alt_is, name_is}
use Rattle.clif_insts.proofs.PartLaws.{more_values_is}
use Rattle.token_reader.proofs.Takes.{takes_name, misses_name}

-- ---- the grammar's words, read from left to right

abbrev Tail : Rule
Tail = arrow or (Many (comma then value) then equals)

abbrev tail_value : Tree Tail → RawName
tail_value = name otherwise (λ w. name w.1)

abbrev tail_at : RawName → List Lexeme → Out RawName
tail_at v ts = cond (next_is classes.Arrow ts) (name_at classes.Arrow ts) (more_values_at (v ∷ []) ts >>= λ vs. name_at classes.Equals vs.1)

abbrev behind_at : List Lexeme → Out RawName
behind_at ts = name_at classes.Value ts >>= λ v. tail_at v.0 v.1

abbrev alone_at : List Lexeme → Out RawName
alone_at ts = name_at classes.Return ts >>= λ o. behind_at o.1

tail_is : (v : RawName) → Is Tail tail_value (tail_at v)
tail_is v = alt_is (name_is classes.Arrow) (then_is (more_values_is (v ∷ [])) equals (λ vs w. name w) (λ vs. name_at classes.Equals) (λ vs. name_is classes.Equals))

alone_is : Is return_alone (λ v. tail_value v.1.1) alone_at
alone_is =
    then_is (name_is classes.Return) (value then Tail) (λ o w. tail_value w.1) (λ o ts. behind_at ts)
    (λ o. then_is (name_is classes.Value) Tail (λ v w. tail_value w) (λ v. tail_at v) (λ v. tail_is v))

starts_ok : (ts : List Lexeme) (y : RawName × List Lexeme) → alone_at ts ≡ Ok y → Starts return_alone ts
starts_ok ts y h = go (read return_alone ts) refl
  where
    go : (o : Out (Tree return_alone)) → read return_alone ts ≡ o → Starts return_alone ts
    go (Ok x) e = let s = sound return_alone ts x e in (s.0, x.1, s.1, (x.0, s.2))
    go (Err x) e =
        let g : alone_at ts ≡ Err x = alone_is.same ts ∙ ap (seen (λ (v : Tree return_alone). tail_value v.1.1)) e in
        absurd cc

no_exts : (rest : List Lexeme) → heads (exts return_alone) rest ≡ false
no_exts [] = refl
no_exts (x ∷ xs) = refl

starts_err : (ts : List Lexeme) (e : Kind × List Lexeme) → alone_at ts ≡ Err e → Starts return_alone ts → ⊥
starts_err ts e h (us, rest, cut, (v, d)) =
    let c : read return_alone (us ++ rest) ≡ Ok (v, rest) = complete return_alone refl us v rest d (no_exts rest) in
    let c2 : read return_alone ts ≡ Ok (v, rest) = ap (read return_alone) cut ∙ c in
    let g : alone_at ts ≡ Ok (tail_value v.1.1, rest) = alone_is.same ts ∙ ap (seen (λ (w : Tree return_alone). tail_value w.1.1)) c2 in
    absurd cc

-- ---- the values that are a `return`'s own

taken : (class : Class) (ts : List Lexeme) → next_is class ts ≡ true → (y : RawName × List Lexeme) × (name_at class ts ≡ Ok y)
taken class [] h = absurd cc
taken class (x ∷ xs) h = ((name x, xs), takes_name class (x ∷ xs) h (name x) xs (λ y ys e. ap name (let f : x ≡ y = cc in f)) refl)

abbrev Decided : List Lexeme → Type 0
Decided ts = ((y : RawName × List Lexeme) × (behind_at ts ≡ Ok y) × (own_values_at ts ≡ Ok ([], ts))) ⊎ ((e : Kind × List Lexeme) × (behind_at ts ≡ Err e) × (own_values_at ts ≡ opt_values_at ts))

no_value : (ts : List Lexeme) → next_is classes.Value ts ≡ false → Decided ts
unfolding own_values_at opt_values_at
no_value ts h = inr ((Syntax, ts), ap (λ (z : Out RawName). z >>= λ v. tail_at v.0 v.1) (misses_name classes.Value ts h), rw h refl)

with_arrow : (ts : List Lexeme) (v : RawName × List Lexeme) → next_is classes.Value ts ≡ true → name_at classes.Value ts ≡ Ok v → next_is classes.Arrow v.1 ≡ true → Decided ts
unfolding own_values_at opt_values_at
with_arrow ts v h e a =
    let y = taken classes.Arrow v.1 a in
    inl (y.0, rw (e, a) y.1, rw (h, e, a) refl)

with_values : (ts : List Lexeme) (v : RawName × List Lexeme) → next_is classes.Value ts ≡ true → name_at classes.Value ts ≡ Ok v → next_is classes.Arrow v.1 ≡ false
    → (o : Out (List RawName)) → more_values_at (v.0 ∷ []) v.1 ≡ o → Decided ts
unfolding own_values_at opt_values_at commas_at
with_values ts v h e a (Err x) m = inr (x, rw (e, a, m) refl, rw (h, e, a, m) refl)
with_values ts v h e a (Ok vs) m = go (next_is classes.Equals vs.1) refl
  where
    go : (b : Bool) → next_is classes.Equals vs.1 ≡ b → Decided ts
    go true q = let y = taken classes.Equals vs.1 q in inl (y.0, rw (e, a, m) y.1, rw (h, e, a, m, q) refl)
    go false q = inr ((Syntax, vs.1), rw (e, a, m) (misses_name classes.Equals vs.1 q), rw (h, e, a, m, q) refl)

decide : (ts : List Lexeme) → Decided ts
decide ts = go (next_is classes.Value ts) refl
  where
    by_arrow : (v : RawName × List Lexeme) → next_is classes.Value ts ≡ true → name_at classes.Value ts ≡ Ok v → (b : Bool) → next_is classes.Arrow v.1 ≡ b → Decided ts
    by_arrow v h e true a = with_arrow ts v h e a
    by_arrow v h e false a = with_values ts v h e a (more_values_at (v.0 ∷ []) v.1) refl

    go : (b : Bool) → next_is classes.Value ts ≡ b → Decided ts
    go false h = no_value ts h
    go true h = let t = taken classes.Value ts h in by_arrow t.0 h t.1 (next_is classes.Arrow t.0.1) refl

-- ---- one instruction

by_return : (p q : List Lexeme → Out RawInst) (ts : List Lexeme) → inst_by AfterResults p ts ≡ cond (next_is classes.Return ts) (p ts) (inst_by AfterResults q ts)
by_return p q [] = refl
by_return p q (x ∷ xs) = go (code classes.Return == x.class) refl
  where
    go : (b : Bool) → (code classes.Return == x.class) ≡ b → inst_by AfterResults p (x ∷ xs) ≡ cond (next_is classes.Return (x ∷ xs)) (p (x ∷ xs)) (inst_by AfterResults q (x ∷ xs))
    go true e = let same : x.class ≡ code classes.Return = sym (eqb-true (code classes.Return) x.class e) in rw same refl
    go false e = rw e refl

whole_by : (ts : List Lexeme) → whole_at ts ≡ cond (next_is classes.Return ts) (return_values_at ts) (inst_at AfterResults ts)
unfolding whole_at inst_at
whole_by ts = by_return return_values_at return_inst_at ts

-- a `return` with no values, and the tokens behind it
pub record Alone (ts : List Lexeme) : Type 0 where
  pub first : Lexeme
  pub rest : List Lexeme
  pub all : ts ≡ first ∷ rest
  pub is_return : first.class ≡ code classes.Return
  pub starts : Starts return_alone ts
  pub read : one_at ts ≡ Ok (raw (opcode first) None (operands.Return []), rest)

pub record NotAlone (ts : List Lexeme) : Type 0 where
  pub starts_not : Starts return_alone ts → ⊥
  pub read : one_at ts ≡ whole_at ts

no_return : (ts : List Lexeme) → next_is classes.Return ts ≡ false → NotAlone ts
unfolding one_at
no_return ts h = record {
  starts_not = starts_err ts (Syntax, ts) (ap (λ (z : Out RawName). z >>= λ o. behind_at o.1) (misses_name classes.Return ts h));
  read = rw h (sym (whole_by ts ∙ rw h refl));
}

with_return : (x : Lexeme) (xs : List Lexeme) → next_is classes.Return (x ∷ xs) ≡ true → Decided xs → Alone (x ∷ xs) ⊎ NotAlone (x ∷ xs)
unfolding one_at return_line_at return_values_at opcode_at
with_return x xs h d =
    let takes : name_at classes.Return (x ∷ xs) ≡ Ok (name x, xs) = takes_name classes.Return (x ∷ xs) h (name x) xs (λ y ys e. ap name (let f : x ≡ y = cc in f)) refl in
    elim d [
      | inl w ↦ inl (record {
        first = x;
        rest = xs;
        all = refl;
        is_return = return_class h;
        starts = starts_ok (x ∷ xs) w.0 (rw takes w.1);
        read = rw (h, takes, w.2) refl;
      })
      | inr w ↦ inr (record {
        starts_not = starts_err (x ∷ xs) w.0 (rw takes w.1);
        read = rw h (rw (takes, w.2) (sym (whole_by (x ∷ xs) ∙ rw (h, takes) refl)));
      })
    ]
  where
    return_class : next_is classes.Return (x ∷ xs) ≡ true → x.class ≡ code classes.Return
    return_class h = sym (eqb-true (code classes.Return) x.class (go (code classes.Return == x.class) refl h))
      where
        go : (b : Bool) → (code classes.Return == x.class) ≡ b → next_is classes.Return (x ∷ xs) ≡ true → (code classes.Return == x.class) ≡ true
        go true e h = e
        go false e h = absurd (let f : false ≡ true = rw e at h in cc)

-- an instruction is a `return` alone, or is read as the grammar says
pub alone_or_not : (ts : List Lexeme) → Alone ts ⊎ NotAlone ts
alone_or_not [] = inr (no_return [] refl)
alone_or_not (x ∷ xs) = go (next_is classes.Return (x ∷ xs)) refl
  where
    go : (b : Bool) → next_is classes.Return (x ∷ xs) ≡ b → Alone (x ∷ xs) ⊎ NotAlone (x ∷ xs)
    go true h = with_return x xs h (decide xs)
    go false h = inr (no_return (x ∷ xs) h)
