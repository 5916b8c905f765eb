-- Names in order: the list depends only on which names it is made of, and of names that never fall it has each once.
use Rattle.std.proofs.Common.{◌≡◌, ℕ, zero, suc, ◌+◌, ◌<◌, ◌≤◌, ◌⊎◌, inl, inr, List, [], ◌∷◌, Bool, true, false, refl, sym, ap, ap₂, ◌∙◌, subst, arith, length, get_or}
use Rattle.std.specs.Prelude.{if◌then◌else◌, Contains, IsPermutation}
use Rattle.std.specs.declared.cmp.Ordering.{Ordering}
use Rattle.std.specs.declared.cmp.Ordering.TheVariants.{Less, Equal, Greater}
use Rattle.std.specs.Ordering.{is_lt, is_eq, ordering_reverse}
use Rattle.std.specs.List.{AllByRecursion}
use Rattle.std.specs.List.Sorted.{IsStrictlySortedBy}
use Rattle.std.proofs.lemmas.List.Sorted.{Contains-permutation, IsPermutation-sym}
use Rattle.std.proofs.lemmas.Cmp.{tied_itself}
use Rattle.ir_core.specs.declared.names.FuncName.{FuncName}
use Rattle.ir_core.specs.Lookup.{same_name}
use Rattle.ir_core.specs.Lists.{In}
use Rattle.ir_semantics.specs.Names.{name_before, with_name, in_order}
use Rattle.ir_semantics.proofs.SafetyPlaces.{in_ordered}
use Rattle.func_addrs.specs.Order.{name_cmp, NeverFalls, begins_apart}
use Rattle.func_addrs.proofs.Comparing.{name_total, before_is, same_is, equal_is}

-- a name in its place, by how it compares to the first
abbrev put_by : Ordering → FuncName → FuncName → List FuncName → List FuncName
put_by Less n x xs = n ∷ x ∷ xs
put_by Equal n x xs = x ∷ xs
put_by Greater n x xs = x ∷ with_name n xs

by_tests : (o : Ordering) (n x : FuncName) (xs : List FuncName) → (if is_eq o then x ∷ xs else (if is_lt o then n ∷ x ∷ xs else x ∷ with_name n xs)) ≡ put_by o n x xs
by_tests Less n x xs = refl
by_tests Equal n x xs = refl
by_tests Greater n x xs = refl

with_is : (n x : FuncName) (xs : List FuncName) → put_by (name_cmp n x) n x xs ≡ with_name n (x ∷ xs)
with_is n x xs =
    sym (by_tests (name_cmp n x) n x xs)
    ∙ ap₂ (λ b c. if b then x ∷ xs else (if c then n ∷ x ∷ xs else x ∷ with_name n xs)) (same_is n x) (before_is n x)

-- ---- strict order

abbrev Rising : List FuncName → Type 0
Rising xs = IsStrictlySortedBy name_cmp xs

abbrev Above : FuncName → List FuncName → Type 0
Above n xs = AllByRecursion (λ y. name_cmp n y ≡ Less) xs

rising_cons : (x : FuncName) (xs : List FuncName) → Above x xs → Rising xs → Rising (x ∷ xs)
unfolding IsStrictlySortedBy
rising_cons x xs a r = (a, r)

rising_parts : (x : FuncName) (xs : List FuncName) → Rising (x ∷ xs) → Above x xs × Rising xs
unfolding IsStrictlySortedBy
rising_parts x xs r = (r.0, r.1)

rising_none : Rising []
unfolding IsStrictlySortedBy
rising_none = tt

turned : (n x : FuncName) → name_cmp n x ≡ Greater → name_cmp x n ≡ Less
turned n x h = name_total.antisymm x n ∙ ap ordering_reverse h

not_itself : (n : FuncName) → name_cmp n n ≡ Less → ⊥
not_itself n h = let e : Less ≡ Equal = sym h ∙ tied_itself name_total n in cc

above_on : (n x : FuncName) (xs : List FuncName) → name_cmp n x ≡ Less → Above x xs → Above n xs
above_on n x [] h a = tt
above_on n x (y ∷ xs) h a = (name_total.trans n x y h a.0, above_on n x xs h a.1)

above_in : (n x : FuncName) (xs : List FuncName) → Above n xs → In x xs → name_cmp n x ≡ Less
above_in n x [] a i = elim i [ ]
above_in n x (y ∷ xs) a (inl e) = subst (λ z. name_cmp n z ≡ Less) (sym e) a.0
above_in n x (y ∷ xs) a (inr i) = above_in n x xs a.1 i

above_with : (x n : FuncName) (xs : List FuncName) → name_cmp x n ≡ Less → Above x xs → Above x (with_name n xs)
above_with x n [] h a = (h, tt)
above_with x n (y ∷ xs) h a = subst (Above x) (with_is n y xs) (go (name_cmp n y) (above_with x n xs h a.1))
  where
    go : (o : Ordering) → Above x (with_name n xs) → Above x (put_by o n y xs)
    go Less r = (h, a)
    go Equal r = a
    go Greater r = (a.0, r)

rising_with : (n : FuncName) (xs : List FuncName) → Rising xs → Rising (with_name n xs)
rising_with n [] r = rising_cons n [] tt rising_none
rising_with n (x ∷ xs) r = subst Rising (with_is n x xs) (go (name_cmp n x) refl (rising_with n xs (rising_parts x xs r).1))
  where
    go : (o : Ordering) → name_cmp n x ≡ o → Rising (with_name n xs) → Rising (put_by o n x xs)
    go Less e s = let p = rising_parts x xs r in rising_cons n (x ∷ xs) (e, above_on n x xs e p.0) r
    go Equal e s = r
    go Greater e s = let p = rising_parts x xs r in rising_cons x (with_name n xs) (above_with x n xs (turned n x e) p.0) s

pub order_rises : (ns : List FuncName) → IsStrictlySortedBy name_cmp (in_order ns)
order_rises [] = rising_none
order_rises (n ∷ ns) = rising_with n (in_order ns) (order_rises ns)

-- ---- members

in_with : (a n : FuncName) (xs : List FuncName) → In a (with_name n xs) → In a (n ∷ xs)
in_with a n [] i = i
in_with a n (x ∷ xs) i = go (name_cmp n x) (λ k. in_with a n xs k) (subst (In a) (sym (with_is n x xs)) i)
  where
    go : (o : Ordering) → (In a (with_name n xs) → In a (n ∷ xs)) → In a (put_by o n x xs) → In a (n ∷ x ∷ xs)
    go Less r k = k
    go Equal r k = inr k
    go Greater r (inl e) = inr (inl e)
    go Greater r (inr k) = elim (r k) [ inl e ↦ inl e | inr s ↦ inr (inr s) ]

with_in : (a n : FuncName) (xs : List FuncName) → In a (n ∷ xs) → In a (with_name n xs)
with_in a n [] i = i
with_in a n (x ∷ xs) i = subst (In a) (with_is n x xs) (go (name_cmp n x) refl (λ k. with_in a n xs k) i)
  where
    go : (o : Ordering) → name_cmp n x ≡ o → (In a (n ∷ xs) → In a (with_name n xs)) → In a (n ∷ x ∷ xs) → In a (put_by o n x xs)
    go Less e r k = k
    go Equal e r (inl q) = inl (q ∙ equal_is n x e)
    go Equal e r (inr k) = k
    go Greater e r (inl q) = inr (r (inl q))
    go Greater e r (inr (inl q)) = inl q
    go Greater e r (inr (inr k)) = inr (r (inr k))

order_in : (a : FuncName) (ns : List FuncName) → In a (in_order ns) → In a ns
order_in a [] i = i
order_in a (n ∷ ns) i = elim (in_with a n (in_order ns) i) [ inl e ↦ inl e | inr k ↦ inr (order_in a ns k) ]

-- ---- a list in strict order is determined by its members

abbrev pub Within : List FuncName → List FuncName → Type 0
Within xs ys = (a : FuncName) → In a xs → In a ys

first_same : (x : FuncName) (xs : List FuncName) (y : FuncName) (ys : List FuncName) → Above x xs → Above y ys → Within (x ∷ xs) (y ∷ ys) → Within (y ∷ ys) (x ∷ xs) → x ≡ y
first_same x xs y ys ax ay w v =
    elim (w x (inl refl)) [
      | inl e ↦ e
      | inr i ↦ elim (v y (inl refl)) [
        | inl e ↦ sym e
        | inr k ↦ absurd (not_itself x (name_total.trans x y x (above_in x y xs ax k) (above_in y x ys ay i)))
      ]
    ]

rest_within : (x : FuncName) (xs : List FuncName) (y : FuncName) (ys : List FuncName) → Above x xs → x ≡ y → Within (x ∷ xs) (y ∷ ys) → Within xs ys
rest_within x xs y ys ax e w a i =
    elim (w a (inr i)) [ inl q ↦ absurd (not_itself x (subst (λ z. name_cmp x z ≡ Less) (q ∙ sym e) (above_in x a xs ax i))) | inr k ↦ k ]

rising_same : (xs ys : List FuncName) → Rising xs → Rising ys → Within xs ys → Within ys xs → xs ≡ ys
rising_same [] [] r s w v = refl
rising_same [] (y ∷ ys) r s w v = elim (v y (inl refl)) [ ]
rising_same (x ∷ xs) [] r s w v = elim (w x (inl refl)) [ ]
rising_same (x ∷ xs) (y ∷ ys) r s w v =
    let p = rising_parts x xs r in
    let q = rising_parts y ys s in
    let e = first_same x xs y ys p.0 q.0 w v in
    ap₂ (λ a as'. a ∷ as') e (rising_same xs ys p.1 q.1 (rest_within x xs y ys p.0 e w) (rest_within y ys x xs q.0 (sym e) v))

contains_from : (a : FuncName) (xs : List FuncName) → In a xs → Contains xs a
contains_from a [] i = elim i [ ]
contains_from a (x ∷ xs) (inl e) = (0, omega arith, sym e)
contains_from a (x ∷ xs) (inr i) = let c = contains_from a xs i in (suc c.0, (let lt = c.1 in omega arith), c.2)

contains_in : (a : FuncName) (xs : List FuncName) (k : ℕ) → k < length xs → get_or xs k a ≡ a → In a xs
contains_in a [] k h e = absurd (omega arith)
contains_in a (x ∷ xs) zero h e = inl (sym e)
contains_in a (x ∷ xs) (suc k) h e = inr (contains_in a xs k (omega arith) e)

-- the names in order depend only on which names there are
pub in_order_same : (ms ns : List FuncName) → Within ms ns → Within ns ms → in_order ms ≡ in_order ns
in_order_same ms ns w v =
    rising_same (in_order ms) (in_order ns) (order_rises ms) (order_rises ns)
    (λ a i. in_ordered a ns (w a (order_in a ms i))) (λ a i. in_ordered a ms (v a (order_in a ns i)))

moved_within : (ms ns : List FuncName) → IsPermutation ms ns → Within ms ns
moved_within ms ns p a i = let c = Contains-permutation ms ns a p (contains_from a ms i) in contains_in a ns c.0 c.1 c.2

pub order_same : (ms ns : List FuncName) → IsPermutation ms ns → in_order ms ≡ in_order ns
order_same ms ns p = in_order_same ms ns (moved_within ms ns p) (moved_within ns ms (IsPermutation-sym ms ns p))

-- ---- names that never fall

-- the first of a list in order is the first of the names
abbrev Begins : FuncName → List FuncName → Type 0
Begins x [] = ⊥
Begins x (y ∷ ys) = x ≡ y

-- one more name in front, by how it compares to the next
abbrev next_by : Ordering → FuncName → List FuncName → List FuncName
next_by Less x ys = x ∷ ys
next_by Equal x ys = ys
next_by Greater x ys = ys

put_next : (o : Ordering) (x y : FuncName) (ys : List FuncName) → (o ≡ Greater → ⊥) → put_by o x y ys ≡ next_by o x (y ∷ ys)
put_next Less x y ys h = refl
put_next Equal x y ys h = refl
put_next Greater x y ys h = absurd (h refl)

not_falling : (x y : FuncName) → is_lt (name_cmp y x) ≡ false → name_cmp x y ≡ Greater → ⊥
not_falling x y h g = let e : is_lt Less ≡ false = sym (ap is_lt (turned x y g)) ∙ h in cc

with_next : (x y : FuncName) (zs : List FuncName) → is_lt (name_cmp y x) ≡ false → Begins y zs → with_name x zs ≡ next_by (name_cmp x y) x zs
with_next x y [] h b = absurd b
with_next x y (z ∷ zs) h b =
    sym (with_is x z zs)
    ∙ (ap (λ w. put_by (name_cmp x w) x z zs) (sym b) ∙ put_next (name_cmp x y) x z zs (not_falling x y h))

begins_next : (o : Ordering) (x y : FuncName) (zs : List FuncName) → name_cmp x y ≡ o → is_lt (name_cmp y x) ≡ false → Begins y zs → Begins x (next_by o x zs)
begins_next Less x y zs e h b = refl
begins_next Equal x y [] e h b = absurd b
begins_next Equal x y (z ∷ zs) e h b = equal_is x y e ∙ b
begins_next Greater x y zs e h b = absurd (not_falling x y h e)

order_begins : (x : FuncName) (xs : List FuncName) → NeverFalls (x ∷ xs) → Begins x (in_order (x ∷ xs))
order_begins x [] f = refl
order_begins x (y ∷ ys) f =
    let b = order_begins y ys f.1 in
    subst (Begins x) (sym (with_next x y (in_order (y ∷ ys)) f.0 b)) (begins_next (name_cmp x y) x y (in_order (y ∷ ys)) refl f.0 b)

by_lt : (o : Ordering) (x : FuncName) (ys : List FuncName) → next_by o x ys ≡ (if is_lt o then x ∷ ys else ys)
by_lt Less x ys = refl
by_lt Equal x ys = refl
by_lt Greater x ys = refl

pub order_next : (x : FuncName) (xs : List FuncName) → NeverFalls (x ∷ xs) → in_order (x ∷ xs) ≡ (if begins_apart (x ∷ xs) then x ∷ in_order xs else in_order xs)
order_next x [] f = refl
order_next x (y ∷ ys) f = with_next x y (in_order (y ∷ ys)) f.0 (order_begins y ys f.1) ∙ by_lt (name_cmp x y) x (in_order (y ∷ ys))

pub falls_rest : (x : FuncName) (xs : List FuncName) → NeverFalls (x ∷ xs) → NeverFalls xs
falls_rest x [] f = tt
falls_rest x (y ∷ ys) f = f.1
