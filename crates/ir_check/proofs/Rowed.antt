-- Operations on no values, or on more than three, have no row.
use Rattle.std.proofs.Common.{◌≡◌, ℕ, suc, ◌≤◌, List, [], ◌∷◌, map, length, Option, Some, None, refl, sym, ap, subst, ◌∙◌, arith}
use Rattle.std.specs.Prelude.{IsSome}
use Rattle.std.proofs.lemmas.Option.{same_Some}
use Rattle.std.proofs.lemmas.List.{length-map}
use Rattle.clk_num.specs.declared.op.Op.{Op}
use Rattle.clk_num.specs.declared.width.Width.{Width}
use Rattle.clk_num.specs.Rows.{row, Fits}
use Rattle.clk_num.specs.Operations.{DataValue, widths}
use Rattle.clk_num.proofs.RowLemmas.{count_of}
use Rattle.ir_core.specs.Module.{Function}
use Rattle.ir_core.specs.Lookup.{and_then}
use Rattle.ir_semantics.specs.TypeRules.{widths_of_values, width_at}
use Rattle.ir_semantics.specs.Values.{all_of, cons_some}

some_value : Width → DataValue
some_value w = record { width = w; value = 0 }

widths_back : (ts : List Width) → widths (map some_value ts) ≡ ts
unfolding some_value
widths_back [] = refl
widths_back (t ∷ ts) = ap (λ z. t ∷ z) (widths_back ts)

row_none : (op : Op) (ts : List Width) → ((1 ≤ length ts) × (length ts ≤ 3) → ⊥) → row op ts ≡ None
row_none op ts none = by (row op ts) refl
  where
    by : (o : Option (List Width)) → row op ts ≡ o → row op ts ≡ None
    by None e = e
    by (Some r) e =
        let fits : Fits op ts = subst (λ (o : Option (List Width)). IsSome o) (sym e) refl in
        let c = count_of op (map some_value ts) (subst (Fits op) (sym (widths_back ts)) fits) in
        let l : length (map some_value ts) ≡ length ts = length-map ts some_value in
        let a = c.0 in
        let b = c.1 in
        absurd (none (omega arith, omega arith))

length_all : {A B : Type 0} (get : A → Option B) (xs : List A) (ys : List B) → all_of get xs ≡ Some ys → length ys ≡ length xs
length_all get [] ys e = sym (ap length (same_Some _ ys e))
length_all {A} {B} get (x ∷ xs) ys e = by (get x) (all_of get xs) e (length_all get xs)
  where
    by : (o : Option B) (p : Option (List B)) → cons_some o p ≡ Some ys → ((zs : List B) → p ≡ Some zs → length zs ≡ length xs) → length ys ≡ suc (length xs)
    by None p e ih = absurd cc
    by (Some y) None e ih = absurd cc
    by (Some y) (Some zs) e ih = sym (ap length (same_Some (y ∷ zs) ys e)) ∙ ap suc (ih zs refl)

pub rows_none : (f : Function) (op : Op) (vs : List ℕ) → ((1 ≤ length vs) × (length vs ≤ 3) → ⊥) → None ≡ and_then (widths_of_values f vs) (row op)
rows_none f op vs none = by (widths_of_values f vs) refl
  where
    by : (o : Option (List Width)) → widths_of_values f vs ≡ o → None ≡ and_then (widths_of_values f vs) (row op)
    by None e = sym (ap (λ o. and_then o (row op)) e)
    by (Some ws) e =
        let l = length_all (width_at f) vs ws e in
        sym (ap (λ o. and_then o (row op)) e ∙ row_none op ws (λ h. none (let a = h.0 in let b = h.1 in (omega arith, omega arith))))
