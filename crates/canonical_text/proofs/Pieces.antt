-- What is left of a text, and of another behind it, without their first bytes.
use Rattle.std.proofs.Common.{◌≡◌, ℕ, ◌-◌, cond, List, ◌++◌, length, drop, refl, sym, ap, ap₂, ◌∙◌, arith, inl, inr}
use Rattle.std.specs.Ordering.{nat_cmp, ord_min, is_lt}
use Rattle.std.proofs.lemmas.Bool.{cases_lt}
use Rattle.std.proofs.lemmas.Bool.Decides.{nat_tests}
use Rattle.std.proofs.lemmas.List.{drop-append-le, drop-drop, drop_all, drop_at}

pub drop_across : (k from : ℕ) (a b : List ℕ) → from ≡ ord_min nat_cmp k (length a) → drop k (a ++ b) ≡ drop from a ++ drop (k - from) b
drop_across k from a b is =
    let least : from ≡ cond (is_lt (nat_cmp (length a) k)) (length a) k = is in
    elim (cases_lt k (length a)) [
      | inl below ↦ (
          let all : k ≡ from = grind (arith, nat_tests, least, below) in
          let none : 0 ≡ k - from = omega (arith, all) in
          drop-append-le k a b (omega (arith, below)) ∙ ap₂ (λ (i j : ℕ). drop i a ++ drop j b) all none)
      | inr behind ↦ (
          let whole : from ≡ length a = grind (arith, nat_tests, least, behind) in
          let left : k - length a ≡ k - from = omega (arith, whole) in
          ap (λ (n : ℕ). drop n (a ++ b)) (omega (arith, behind))
          ∙ (sym (drop-drop (k - length a) (length a) (a ++ b))
          ∙ (ap (drop (k - length a)) (drop_at a b (length a) refl)
          ∙ ap₂ (λ (l : List ℕ) (j : ℕ). l ++ drop j b) (sym (drop_all from a (omega (arith, whole)))) left)))
    ]
