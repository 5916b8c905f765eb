-- Keys in order.
use Rattle.std.proofs.Common.{◌≡◌, ◌⊎◌, inl, inr, ℕ, zero, suc, ◌<◌, List, [], ◌∷◌, length, get_or, Option, Some, None, IfSome, refl, sym, ap, ◌∙◌, subst, arith}
use Rattle.std.specs.List.{All}
use Rattle.std.specs.Ordering.{nat_cmp, match_ordering}
use Rattle.std.specs.BTreeSet.{insert_key}
use Rattle.std.specs.declared.cmp.Ordering.{Ordering}
use Rattle.std.specs.declared.cmp.Ordering.TheVariants.{Less, Equal, Greater}
use Rattle.std.proofs.lemmas.Cmp.{ranked}
use Rattle.ir_core.specs.Lists.{In}
use Rattle.call_graph.proofs.Places.{at_in}

cmp_less : (a b : ℕ) → nat_cmp a b ≡ Less → a < b
cmp_less a b e = ranked a b Less (sym e)

cmp_equal : (a b : ℕ) → nat_cmp a b ≡ Equal → a ≡ b
cmp_equal a b e = ranked a b Equal (sym e)

pub key_in : (k : ℕ) (ks : List ℕ) → In k (insert_key nat_cmp ks k)
key_in k [] = inl refl
key_in k (x ∷ xs) = go (nat_cmp k x) refl (key_in k xs)
  where
    go : (o : Ordering) → nat_cmp k x ≡ o → In k (insert_key nat_cmp xs k) → In k (match_ordering o (k ∷ x ∷ xs) (x ∷ xs) (x ∷ insert_key nat_cmp xs k))
    go Less e i = inl refl
    go Equal e i = inl (cmp_equal k x e)
    go Greater e i = inr i

pub key_kept : (k : ℕ) (ks : List ℕ) (j : ℕ) → In j ks → In j (insert_key nat_cmp ks k)
key_kept k [] j i = elim i [ ]
key_kept k (x ∷ xs) j i = go (nat_cmp k x) i (key_kept k xs j)
  where
    go : (o : Ordering) → In j (x ∷ xs) → (In j xs → In j (insert_key nat_cmp xs k)) → In j (match_ordering o (k ∷ x ∷ xs) (x ∷ xs) (x ∷ insert_key nat_cmp xs k))
    go Less i ih = inr i
    go Equal i ih = i
    go Greater (inl e) ih = inl e
    go Greater (inr m) ih = inr (ih m)

pub key_from : (k : ℕ) (ks : List ℕ) (j : ℕ) → In j (insert_key nat_cmp ks k) → (j ≡ k) ⊎ In j ks
key_from k [] j (inl e) = inl e
key_from k [] j (inr i) = elim i [ ]
key_from k (x ∷ xs) j i = go (nat_cmp k x) i (key_from k xs j)
  where
    go : (o : Ordering) → In j (match_ordering o (k ∷ x ∷ xs) (x ∷ xs) (x ∷ insert_key nat_cmp xs k)) → (In j (insert_key nat_cmp xs k) → (j ≡ k) ⊎ In j xs) → (j ≡ k) ⊎ In j (x ∷ xs)
    go Less (inl e) ih = inl e
    go Less (inr m) ih = inr m
    go Equal m ih = inr m
    go Greater (inl e) ih = inr (inl e)
    go Greater (inr m) ih = elim (ih m) [ inl e ↦ inl e | inr n ↦ inr (inr n) ]

pub least_popped : (o : Option ℕ) (was now : List ℕ) → IfSome o (λ k. was ≡ k ∷ now) → IfSome o (λ k. All (λ b. nat_cmp k b ≡ Less) now)
    → IfSome o (λ k. (was ≡ k ∷ now) × ((j : ℕ) → In j now → k < j))
least_popped None was now a b = a
least_popped (Some k) was now a b = (a, λ j i. let r = at_in j now i in subst (λ (z : ℕ). k < z) r.2 (cmp_less k (get_or now r.0 0) (b r.0 0 r.1)))
