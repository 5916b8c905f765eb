-- Whether a text ends with a `return` word is told by what the text means.
use Rattle.std.proofs.Common.{◌≡◌, Bool, true, false, List, [], refl, sym, ap, subst, ◌∙◌, inl, inr}
use Rattle.std.specs.Prelude.{◌⊎◌}
use Rattle.std.proofs.lemmas.Bool.{eq-eqb}
use Rattle.grammar.specs.Rules.{Lexeme, Class, Kind, Rule, Tok, Seq, Alt, Refuse, Tree, Derives, ends, nullable, heads, firsts}
use Rattle.grammar.proofs.Chains.{ends-append}
use Rattle.grammar.proofs.Exactness.{front}
use Rattle.grammar.proofs.Tails.{may_end, quiet}
use Rattle.token_reader.specs.Values.{either}

-- a text of the rule ends with a token of the class where this is true of what the text means
pub record Ends {A : Type 0} (c : Class) (g : A → Bool) (r : Rule) (f : Tree r → A) : Type 0 where
  pub so : (us : List Lexeme) (v : Tree r) → Derives r us v → (before : Bool) → ends c before us ≡ g (f v)

not_empty : (r : Rule) → nullable r ≡ false → (us : List Lexeme) (v : Tree r) → Derives r us v → us ≡ [] → ⊥
not_empty r n us v d e =
    elim (front r us v d) [
      | inl y ↦ absurd (let k = y.1 in cc)
      | inr y ↦ absurd (let y2 : heads (firsts r) [] ≡ true = subst (λ (l : List Lexeme). heads (firsts r) l ≡ true) e y in cc)
    ]

-- no text of the rule ends so
pub never_ends : {A : Type 0} {c : Class} {g : A → Bool} {r : Rule} {f : Tree r → A} → may_end c r ≡ false → nullable r ≡ false → ((v : Tree r) → g (f v) ≡ false) → Ends c g r f
never_ends {A} {c} {g} {r} {f} m n h = record {
  so = λ us v d before. elim (quiet c r m us v d) [
    | inl z ↦ absurd (not_empty r n us v d z)
    | inr z ↦ z before ∙ sym (h v)
  ];
}

-- the token itself
pub token_ends : {A : Type 0} {c : Class} {g : A → Bool} {f : Lexeme → A} → ((x : Lexeme) → g (f x) ≡ true) → Ends c g (Tok c) f
token_ends {A} {c} {g} {f} h = record {
  so = λ us v d before. let e : ends c before us ≡ true = rw (d.0, d.1, eq-eqb c c refl) refl in e ∙ sym (h v);
}

-- one of two
pub either_ends : {A : Type 0} {c : Class} {g : A → Bool} {a b : Rule} {f : Tree a → A} {h : Tree b → A} → Ends c g a f → Ends c g b h → Ends c g (Alt a b) (either f h)
either_ends {A} {c} {g} {a} {b} {f} {h} d e = record { so = go }
  where
    go : (us : List Lexeme) (v : Tree a ⊎ Tree b) → Derives (Alt a b) us v → (before : Bool) → ends c before us ≡ g (either f h v)
    go us (inl v) k before = d.so us v k before
    go us (inr v) k before = e.so us v k before

-- a word that is refused is no text
pub refused_ends : {A : Type 0} {c : Class} {g : A → Bool} {cs : List Class} {kind : Kind} {f : ⊥ → A} → Ends c g (Refuse cs kind) f
refused_ends = record { so = λ us v d before. absurd v }

-- one rule, and then another by which it ends
pub then_ends : {A : Type 0} {c : Class} {g : A → Bool} (a : Rule) {b : Rule} (f : Tree a → Tree b → A) → ((x : Tree a) → Ends c g b (f x)) → Ends c g (Seq a b) (λ v. f v.0 v.1)
then_ends {A} {c} {g} a {b} f e = record {
  so = λ us v d before. ap (ends c before) d.2 ∙ ends-append c before d.0 d.1 ∙ (e v.0).so d.1 v.1 d.3.1 (ends c before d.0);
}

-- the same told of another meaning
pub also_ends : {A B : Type 0} {c : Class} {g : A → Bool} {r : Rule} {f : Tree r → A} → Ends c g r f → (h : B → Bool) (k : Tree r → B) → ((v : Tree r) → h (k v) ≡ g (f v)) → Ends c h r k
also_ends e h k same = record { so = λ us v d before. e.so us v d before ∙ sym (same v) }
