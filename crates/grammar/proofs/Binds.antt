-- Steps that succeed or fail.
use Rattle.std.proofs.Common.{◌≡◌, List, ◌++◌, Result, Ok, Err, refl, sym, ap, ◌∙◌, inl, inr, append_assoc}
use Rattle.std.specs.Prelude.{◌⊎◌}
use Rattle.grammar.specs.Rules.{Lexeme, Kind, ◌>>=◌}

abbrev pub Stop : Type 0
Stop = Kind × List Lexeme

pub bind_ok : {A B : Type 0} (r : Result A Stop) (f : A → Result B Stop) (y : B) → (r >>= f) ≡ Ok y → (x : A) × (r ≡ Ok x) × (f x ≡ Ok y)
bind_ok (Ok x) f y e = (x, refl, e)
bind_ok (Err d) f y e = absurd cc

pub bind_err : {A B : Type 0} (r : Result A Stop) (f : A → Result B Stop) (d : Stop) → (r >>= f) ≡ Err d → (r ≡ Err d) ⊎ ((x : A) × (r ≡ Ok x) × (f x ≡ Err d))
bind_err (Ok x) f d e = inr (x, refl, e)
bind_err (Err c) f d e = inl (same c d e)
  where
    same : {A B : Type 0} (c d : Stop) → (let x : Result B Stop = Err c in x) ≡ Err d → (let x : Result A Stop = Err c in x) ≡ Err d
    same c d e = ap (λ (k : Stop). Err k) cc

abbrev done : {A : Type 0} → A → Result A Stop
done x = Ok x

pub ok_is : {A : Type 0} (x y : A) → done x ≡ done y → x ≡ y
ok_is x y e = cc

pub ok_err : {A : Type 0} (x : A) (e : Stop) {B : Type 0} → (let y : Result A Stop = Ok x in y) ≡ Err e → B
ok_err x e h = absurd cc

pub regroup : (ts us ws rest more : List Lexeme) → ts ≡ us ++ rest → rest ≡ ws ++ more → ts ≡ (us ++ ws) ++ more
regroup ts us ws rest more e f = e ∙ ap (λ (l : List Lexeme). us ++ l) f ∙ sym (append_assoc us ws more)
