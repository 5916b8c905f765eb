-- Parts taken one after another out of a limit.
use Rattle.std.specs.Prelude.{SomeIff}
use Rattle.std.proofs.Common.{◌≡◌, ℕ, ◌+◌, ◌<◌, ◌≤◌, List, length, take, drop, get_or, Option, None, sym, subst, ap, ◌∙◌, arith}
use Rattle.std.proofs.lemmas.List.{take-append-drop}
use Rattle.ir_core.specs.Size.{total}
use Rattle.ir_core.proofs.Sizing.{total_join, total_more}

total_front : {A : Type 0} (f : A → ℕ) (k : ℕ) (xs : List A) → total f (take k xs) ≤ total f xs
total_front f k xs = let e = ap (total f) (sym (take-append-drop k xs)) ∙ total_join f (take k xs) (drop k xs) in omega (arith, e)

-- an item with those before it is no more than all
pub total_part : {A : Type 0} (f : A → ℕ) (xs : List A) (i : ℕ) (d : A) → i < length xs → total f (take i xs) + f (get_or xs i d) ≤ total f xs
total_part f xs i d h = let a = total_more f xs i d h in let b = total_front f (i + 1) xs in omega (arith, a, b)

-- where a part is more than is left, all are more than the limit
pub refused : {A : Type 0} (r : Option A) (v : A) (limit left spent part all : ℕ) → r ≡ None → left + spent ≡ limit → (part ≤ left → ⊥) → spent + part ≤ all → SomeIff r (all ≤ limit) v
refused r v limit left spent part all e f g h = subst (λ o. SomeIff o (all ≤ limit) v) (sym e) (λ k. g (omega (arith, f, h, k)))
