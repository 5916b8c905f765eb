-- The comparison of names is a total order, and agrees with the tests of the definition.
use Rattle.std.proofs.Common.{◌≡◌, ℕ, List, [], ◌∷◌, Bool, ◌&&◌, ◌||◌, refl, sym, ap, ap₂, ◌∙◌, arith, nat_eq, inl, inr}
use Rattle.std.specs.Prelude.{nat_lt, true, false}
use Rattle.std.specs.declared.cmp.Ordering.{Ordering}
use Rattle.std.specs.declared.cmp.Ordering.TheVariants.{Less, Equal, Greater}
use Rattle.std.specs.Ordering.{is_lt, is_eq, nat_cmp, ordering_then, ordering_reverse}
use Rattle.std.specs.Cmp.{IsTotalOrder}
use Rattle.std.specs.Cmp.Lexicographic.{slice_cmp}
use Rattle.std.proofs.lemmas.Cmp.{nat_list_cmp_total, same_from_slice_cmp}
use Rattle.std.proofs.lemmas.Bool.Decides.{nat_tests}
use Rattle.ir_core.specs.declared.names.FuncName.{FuncName}
use Rattle.ir_core.specs.declared.names.FuncName.TheVariants as name
use Rattle.ir_core.specs.Lookup.{same_name, same_bytes}
use Rattle.ir_core.proofs.Equal.{name_equal}
use Rattle.ir_semantics.specs.Names.{bytes_before, name_before}
use Rattle.func_addrs.specs.Order.{name_cmp}

-- a name as numbers that compare alike
key : FuncName → List ℕ
key (name.Text a) = 0 ∷ a
key (name.User a i) = 1 ∷ a ∷ i ∷ []

then_equal : (o : Ordering) → ordering_then o Equal ≡ o
then_equal Less = refl
then_equal Equal = refl
then_equal Greater = refl

by_key : (a b : FuncName) → slice_cmp nat_cmp (key a) (key b) ≡ name_cmp a b
unfolding key
by_key (name.Text a) (name.Text b) = refl
by_key (name.Text a) (name.User b j) = refl
by_key (name.User a i) (name.Text b) = refl
by_key (name.User a i) (name.User b j) = ap (λ o. ordering_then (nat_cmp a b) o) (then_equal (nat_cmp i j))

pub name_total : IsTotalOrder name_cmp
name_total = record {
  antisymm = λ x y. sym (by_key x y) ∙ (nat_list_cmp_total.antisymm (key x) (key y) ∙ ap ordering_reverse (by_key y x));
  trans = λ x y z p q. sym (by_key x z) ∙ nat_list_cmp_total.trans (key x) (key y) (key z) (by_key x y ∙ p) (by_key y z ∙ q);
  congr = λ x y z p. sym (by_key x z) ∙ (nat_list_cmp_total.congr (key x) (key y) (key z) (by_key x y ∙ p) ∙ by_key y z);
}

users_before : (a i b j : ℕ) → is_lt (ordering_then (nat_cmp a b) (nat_cmp i j)) ≡ nat_lt a b || (nat_eq a b && nat_lt i j)
users_before a i b j = grind (arith, nat_tests)

pub before_is : (a b : FuncName) → is_lt (name_cmp a b) ≡ name_before a b
before_is (name.Text a) (name.Text b) = same_from_slice_cmp nat_cmp is_lt bytes_before refl (λ _ _. refl) (λ _ _. refl) (λ x y xs ys o h. grind (arith, nat_tests)) a b (slice_cmp nat_cmp a b) refl
before_is (name.Text a) (name.User b j) = refl
before_is (name.User a i) (name.Text b) = refl
before_is (name.User a i) (name.User b j) = users_before a i b j

users_same : (a i b j : ℕ) → is_eq (ordering_then (nat_cmp a b) (nat_cmp i j)) ≡ nat_eq a b && nat_eq i j
users_same a i b j = grind (arith, nat_tests)

pub same_is : (a b : FuncName) → is_eq (name_cmp a b) ≡ same_name a b
same_is (name.Text a) (name.Text b) = same_from_slice_cmp nat_cmp is_eq same_bytes refl (λ _ _. refl) (λ _ _. refl) (λ x y xs ys o h. grind (arith, nat_tests)) a b (slice_cmp nat_cmp a b) refl
same_is (name.Text a) (name.User b j) = refl
same_is (name.User a i) (name.Text b) = refl
same_is (name.User a i) (name.User b j) = users_same a i b j

pub equal_is : (a b : FuncName) → name_cmp a b ≡ Equal → a ≡ b
equal_is a b h = name_equal a b (sym (same_is a b) ∙ ap is_eq h)
