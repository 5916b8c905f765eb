-- An index with one more key.
use Rattle.std.proofs.Common.{◌≡◌, ℕ, ◌+◌, ◌<◌, List, Bool, true, false, cond, Option, Some, None, refl, sym, ap, ap₂, ◌∙◌, arith}
use Rattle.std.specs.Prelude.{Vec}
use Rattle.std.specs.declared.cmp.Ordering.TheVariants.{Equal}
use Rattle.std.specs.declared.alloc.Global.{Global}
use Rattle.std.specs.Ordering.{is_eq, nat_cmp}
use Rattle.std.specs.Cmp.Lexicographic.{slice_cmp}
use Rattle.std.specs.Map.{lookup}
use Rattle.std.specs.BTreeMap.{insert_entry, is_at}
use Rattle.ir_core.specs.Lookup.{same_bytes}
use Rattle.ir_core.specs.Named.{compare_texts}
use Rattle.ir_core.proofs.Indexing.{text_test, equal_from_test, lookup_insert}
use Rattle.ir_core.proofs.Equal.{bytes_same, bytes_equal}

pub entry_more : (key : Vec ℕ Global) (n : ℕ) (es : List (Vec ℕ Global × ℕ)) (k : List ℕ) → lookup (is_at (compare_texts k)) (insert_entry (λ a b. slice_cmp nat_cmp a.items b.items) es key n) ≡ cond (same_bytes key.items k) (Some n) (lookup (is_at (compare_texts k)) es)
entry_more key n es k =
    lookup_insert (λ a b. slice_cmp nat_cmp a.items b.items) (is_at (compare_texts k)) key n same only es
    ∙ ap (λ b. cond b (Some n) (lookup (is_at (compare_texts k)) es)) (text_test k key.items)
  where
    same : (e : Vec ℕ Global) → slice_cmp nat_cmp key.items e.items ≡ Equal → is_eq (slice_cmp nat_cmp k e.items) ≡ is_eq (slice_cmp nat_cmp k key.items)
    same e h = let q : e.items ≡ key.items = bytes_equal e.items key.items (sym (text_test key.items e.items) ∙ ap is_eq h) in ap (λ z. is_eq (slice_cmp nat_cmp k z)) q

    only : (e : Vec ℕ Global) → is_eq (slice_cmp nat_cmp k e.items) ≡ true → is_eq (slice_cmp nat_cmp k key.items) ≡ true → slice_cmp nat_cmp key.items e.items ≡ Equal
    only e h g =
        let a : e.items ≡ k = bytes_equal e.items k (sym (text_test k e.items) ∙ h) in
        let b : key.items ≡ k = bytes_equal key.items k (sym (text_test k key.items) ∙ g) in
        equal_from_test (slice_cmp nat_cmp key.items e.items) (text_test key.items e.items ∙ (ap₂ (λ x y. same_bytes x y) a b ∙ bytes_same k))

-- where f gives the numbers before, and g those after the key has the number n
module _ (f g : List ℕ → Option ℕ) (key : List ℕ) (n : ℕ) (more : (k : List ℕ) → g k ≡ cond (same_bytes key k) (Some n) (f k)) (absent : f key ≡ None) where
  pub number_new : g key ≡ Some n
  number_new = more key ∙ ap (λ b. cond b (Some n) (f key)) (bytes_same key)

  pub numbers_stay : (k : List ℕ) (v : ℕ) → f k ≡ Some v → g k ≡ Some v
  numbers_stay k v e = more k ∙ by (same_bytes key k) refl
    where
      by : (b : Bool) → same_bytes key k ≡ b → cond b (Some n) (f k) ≡ Some v
      by true h = let z : None ≡ Some v = sym absent ∙ (ap f (bytes_equal key k h) ∙ e) in cc
      by false h = e

  module _ (below : (k : List ℕ) (v : ℕ) → f k ≡ Some v → v < n) where
    pub below_more : (m : ℕ) → m ≡ n + 1 → (k : List ℕ) (v : ℕ) → g k ≡ Some v → v < m
    below_more m s k v e = by (same_bytes key k) (sym (more k) ∙ e)
      where
        by : (b : Bool) → cond b (Some n) (f k) ≡ Some v → v < m
        by true h = let q : n ≡ v = cc in omega (arith, q, s)
        by false h = let l = below k v h in omega (arith, l, s)

    pub apart_more : ((j k : List ℕ) (v : ℕ) → f j ≡ Some v → f k ≡ Some v → j ≡ k) → (j k : List ℕ) (v : ℕ) → g j ≡ Some v → g k ≡ Some v → j ≡ k
    apart_more apart j k v p q = by (same_bytes key j) refl (same_bytes key k) refl (sym (more j) ∙ p) (sym (more k) ∙ q)
      where
        new : (i : List ℕ) → f i ≡ Some v → Some n ≡ Some v → ⊥
        new i h s = let q : n ≡ v = cc in let l = below i v h in omega (arith, l, q)

        by : (a : Bool) → same_bytes key j ≡ a → (b : Bool) → same_bytes key k ≡ b → cond a (Some n) (f j) ≡ Some v → cond b (Some n) (f k) ≡ Some v → j ≡ k
        by true x true y p q = sym (bytes_equal key j x) ∙ bytes_equal key k y
        by true x false y p q = absurd (new k q p)
        by false x true y p q = absurd (new j p q)
        by false x false y p q = apart j k v p q
