-- Lists of numbers that are linked.
use Rattle.std.proofs.Common.{◌≡◌, ℕ, zero, suc, ◌+◌, ◌<◌, ◌≤◌, ◌⊎◌, inl, inr, List, [], ◌∷◌, ◌++◌, length, Option, Some, None, refl, sym, ap, ◌∙◌, subst, arith, eq-eqb, ne_eqb, length-append}
use Rattle.std.specs.Prelude.{if◌then◌else◌, nat_eq, slice_get}
use Rattle.std.proofs.lemmas.Bool.{cases_eq}
use Rattle.std.proofs.Math.ListN.{set}
use Rattle.std.proofs.lemmas.Option.{slice_get_within}
use Rattle.ir_core.specs.Lists.{In, Different}
use Rattle.ir_core.specs.Layout.{walk, Linked, last_of}

-- slices

pub get_set_same : {X : Type 0} (xs : List X) (a : ℕ) (x : X) → a < length xs → slice_get (set xs a x) a ≡ Some x
get_set_same [] a x h = absurd (omega (arith, h))
get_set_same (y ∷ xs) zero x h = refl
get_set_same (y ∷ xs) (suc a) x h = get_set_same xs a x (omega (arith, h))

pub get_set_other : {X : Type 0} (xs : List X) (a b : ℕ) (x : X) → (b ≡ a → ⊥) → slice_get (set xs a x) b ≡ slice_get xs b
get_set_other [] a b x h = refl
get_set_other (y ∷ xs) zero zero x h = absurd (h refl)
get_set_other (y ∷ xs) zero (suc b) x h = refl
get_set_other (y ∷ xs) (suc a) zero x h = refl
get_set_other (y ∷ xs) (suc a) (suc b) x h = get_set_other xs a b x (λ e. h (ap suc e))

pub get_push_old : {X : Type 0} (xs : List X) (b : ℕ) (x y : X) → slice_get xs b ≡ Some y → slice_get (xs ++ (x ∷ [])) b ≡ Some y
get_push_old [] b x y h = cc
get_push_old (z ∷ xs) zero x y h = h
get_push_old (z ∷ xs) (suc b) x y h = get_push_old xs b x y h

pub get_push_new : {X : Type 0} (xs : List X) (x : X) → slice_get (xs ++ (x ∷ [])) (length xs) ≡ Some x
get_push_new [] x = refl
get_push_new (z ∷ xs) x = get_push_new xs x

pub get_push_below : {X : Type 0} (xs : List X) (b : ℕ) (x : X) → b < length xs → slice_get (xs ++ (x ∷ [])) b ≡ slice_get xs b
get_push_below [] b x h = absurd (omega (arith, h))
get_push_below (z ∷ xs) zero x h = refl
get_push_below (z ∷ xs) (suc b) x h = get_push_below xs b x (omega (arith, h))

-- what is in a list made longer by one
pub get_push_cases : {X : Type 0} (xs : List X) (b : ℕ) (x y : X) → slice_get (xs ++ (x ∷ [])) b ≡ Some y → (slice_get xs b ≡ Some y) ⊎ ((b ≡ length xs) × (x ≡ y))
get_push_cases [] zero x y h = inr (refl, cc)
get_push_cases [] (suc b) x y h = cc
get_push_cases (z ∷ xs) zero x y h = inl h
get_push_cases (z ∷ xs) (suc b) x y h = elim (get_push_cases xs b x y h) [ inl e ↦ inl e | inr e ↦ inr (ap suc e.0, e.1) ]

-- links

pub length_walk : (ns : List (Option ℕ)) (n : ℕ) (o : Option ℕ) → length (walk ns n o) ≤ n
length_walk ns zero o = omega arith
length_walk ns (suc n) None = omega arith
length_walk ns (suc n) (Some b) = go (λ o. length_walk ns n o) (slice_get ns b)
  where
    go : ((o : Option ℕ) → length (walk ns n o) ≤ n) → (p : Option (Option ℕ)) → length (elim p as (λ z. List ℕ) [ None ↦ [] | Some o ↦ b ∷ walk ns n o ]) ≤ suc n
    go r None = omega arith
    go r (Some o) = omega (arith, r o)

pub walk_linked : (ns : List (Option ℕ)) (n : ℕ) (o : Option ℕ) (bs : List ℕ) → Linked ns o bs → length bs ≤ n → walk ns n o ≡ bs
walk_linked ns zero o [] l h = refl
walk_linked ns zero o (b ∷ bs) l h = absurd (omega (arith, h))
walk_linked ns (suc n) o [] l h = ap (walk ns (suc n)) l
walk_linked ns (suc n) o (b ∷ bs) (e, (p, g, l)) h =
    ap (walk ns (suc n)) e ∙ (ap (λ q. elim q as (λ z. List ℕ) [ None ↦ [] | Some o ↦ b ∷ walk ns n o ]) g ∙ ap (λ r. b ∷ r) (walk_linked ns n p bs l (omega (arith, h))))

pub linked_push : (ns : List (Option ℕ)) (o x : Option ℕ) (bs : List ℕ) → Linked ns o bs → Linked (ns ++ (x ∷ [])) o bs
linked_push ns o x [] l = l
linked_push ns o x (b ∷ bs) (e, (p, g, l)) = (e, (p, get_push_old ns b x p g, linked_push ns p x bs l))

pub linked_set : (ns : List (Option ℕ)) (o x : Option ℕ) (a : ℕ) (bs : List ℕ) → (In a bs → ⊥) → Linked ns o bs → Linked (set ns a x) o bs
linked_set ns o x a [] h l = l
linked_set ns o x a (b ∷ bs) h (e, (p, g, l)) = (e, (p, get_set_other ns a b x (λ q. h (inl (sym q))) ∙ g, linked_set ns p x a bs (λ i. h (inr i)) l))

pub linked_below : (ns : List (Option ℕ)) (o : Option ℕ) (bs : List ℕ) (b : ℕ) → Linked ns o bs → In b bs → b < length ns
linked_below ns o [] b l i = elim i [ ]
linked_below ns o (c ∷ bs) b (e, (p, g, l)) i = elim i [ inl q ↦ omega (arith, q, slice_get_within ns c p g) | inr r ↦ linked_below ns p bs b l r ]

abbrev pub put_after : ℕ → ℕ → List ℕ → List ℕ
put_after a n [] = []
put_after a n (b ∷ bs) = if nat_eq b a then b ∷ (n ∷ bs) else b ∷ put_after a n bs

pub put_after_hit : (a n b : ℕ) (bs : List ℕ) → b ≡ a → put_after a n (b ∷ bs) ≡ b ∷ (n ∷ bs)
put_after_hit a n b bs e = ap (λ c. if c then b ∷ (n ∷ bs) else b ∷ put_after a n bs) (eq-eqb b a e)

pub put_after_miss : (a n b : ℕ) (bs : List ℕ) → (b ≡ a → ⊥) → put_after a n (b ∷ bs) ≡ b ∷ put_after a n bs
put_after_miss a n b bs e = ap (λ c. if c then b ∷ (n ∷ bs) else b ∷ put_after a n bs) (ne_eqb b a e)

pub length_put_after : (a n : ℕ) (bs : List ℕ) → In a bs → length (put_after a n bs) ≡ suc (length bs)
length_put_after a n [] i = elim i [ ]
length_put_after a n (b ∷ bs) i =
    elim (cases_eq b a) [
      | inl e ↦ ap length (put_after_hit a n b bs e)
      | inr e ↦ ap length (put_after_miss a n b bs e) ∙ ap suc (length_put_after a n bs (elim i [ inl q ↦ absurd (e (sym q)) | inr r ↦ r ]))
    ]

pub in_put_after : (a n c : ℕ) (bs : List ℕ) → In c (put_after a n bs) → In c bs ⊎ (c ≡ n)
in_put_after a n c [] i = inl i
in_put_after a n c (b ∷ bs) i =
    elim (cases_eq b a) [
      | inl e ↦ elim (subst (In c) (put_after_hit a n b bs e) i) [ inl q ↦ inl (inl q) | inr r ↦ elim r [ inl q ↦ inr q | inr r' ↦ inl (inr r') ] ]
      | inr e ↦ elim (subst (In c) (put_after_miss a n b bs e) i) [ inl q ↦ inl (inl q) | inr r ↦ elim (in_put_after a n c bs r) [ inl q ↦ inl (inr q) | inr q ↦ inr q ] ]
    ]

pub different_put_after : (a n : ℕ) (bs : List ℕ) → Different bs → (In n bs → ⊥) → Different (put_after a n bs)
different_put_after a n [] d h = tt
different_put_after a n (b ∷ bs) d h =
    elim (cases_eq b a) [
      | inl e ↦ subst Different (sym (put_after_hit a n b bs e)) ((λ i. elim i [ inl q ↦ h (inl (sym q)) | inr r ↦ d.0 r ]), ((λ i. h (inr i)), d.1))
      | inr e ↦ subst Different (sym (put_after_miss a n b bs e)) ((λ i. elim (in_put_after a n b bs i) [ inl q ↦ d.0 q | inr q ↦ h (inl (sym q)) ]), different_put_after a n bs d.1 (λ i. h (inr i)))
    ]

-- a number linked in after another
pub linked_insert : (ns : List (Option ℕ)) (o p : Option ℕ) (a : ℕ) (bs : List ℕ) → Linked ns o bs → Different bs → In a bs → slice_get ns a ≡ Some p → Linked (set (ns ++ (p ∷ [])) a (Some (length ns))) o (put_after a (length ns) bs)
linked_insert ns o p a [] l d i g = elim i [ ]
linked_insert ns o p a (b ∷ bs) (e, (q, g', l)) d i g =
    elim (cases_eq b a) [
      | inl same ↦
          let ba : slice_get ns a ≡ Some q = subst (λ z. slice_get ns z ≡ Some q) same g' in
          let pq : q ≡ p = cc in
          let long : length (ns ++ (p ∷ [])) ≡ length ns + 1 = length-append ns (p ∷ []) in
          let lt : a < length ns = slice_get_within ns a p g in
          subst (Linked (set (ns ++ (p ∷ [])) a (Some (length ns))) o) (sym (put_after_hit a (length ns) b bs same))
          (e, (Some (length ns), subst (λ z. slice_get (set (ns ++ (p ∷ [])) a (Some (length ns))) z ≡ Some (Some (length ns))) (sym same) (get_set_same (ns ++ (p ∷ [])) a (Some (length ns)) (omega (arith, long, lt))), (refl, (p, get_set_other (ns ++ (p ∷ [])) a (length ns) (Some (length ns)) (λ z. omega (arith, z, lt)) ∙ get_push_new ns p, linked_set (ns ++ (p ∷ [])) p (Some (length ns)) a bs (λ z. d.0 (subst (λ w. In w bs) (sym same) z)) (linked_push ns p p bs (subst (λ z. Linked ns z bs) pq l))))))
      | inr other ↦
          subst (Linked (set (ns ++ (p ∷ [])) a (Some (length ns))) o) (sym (put_after_miss a (length ns) b bs other))
          (e, (q, get_set_other (ns ++ (p ∷ [])) a b (Some (length ns)) other ∙ get_push_old ns b p q g', linked_insert ns q p a bs l d.1 (elim i [ inl z ↦ absurd (other (sym z)) | inr z ↦ z ]) g))
    ]

-- the last of linked numbers

pub last_in : (bs : List ℕ) (a : ℕ) → last_of bs ≡ Some a → In a bs
last_in [] a h = cc
last_in (b ∷ []) a h = let e : b ≡ a = cc in inl (sym e)
last_in (b ∷ (c ∷ bs)) a h = inr (last_in (c ∷ bs) a h)

last_longer : (a n b c : ℕ) (bs : List ℕ) → last_of (b ∷ put_after a n (c ∷ bs)) ≡ last_of (put_after a n (c ∷ bs))
last_longer a n b c bs =
    elim (cases_eq c a) [
      | inl e ↦ ap (λ z. last_of (b ∷ z)) (put_after_hit a n c bs e) ∙ ap last_of (sym (put_after_hit a n c bs e))
      | inr e ↦ ap (λ z. last_of (b ∷ z)) (put_after_miss a n c bs e) ∙ ap last_of (sym (put_after_miss a n c bs e))
    ]

-- a number linked in behind one that had no next is the last
pub last_put_end : (ns : List (Option ℕ)) (o : Option ℕ) (a n : ℕ) (bs : List ℕ) → Linked ns o bs → Different bs → In a bs → slice_get ns a ≡ Some None → last_of (put_after a n bs) ≡ Some n
last_put_end ns o a n [] l d i g = elim i [ ]
last_put_end ns o a n (b ∷ []) (e, (p, g', l)) d i g =
    let same : b ≡ a = elim i [ inl q ↦ sym q | inr r ↦ elim r [ ] ] in
    ap last_of (put_after_hit a n b [] same)
last_put_end ns o a n (b ∷ (c ∷ bs)) (e, (p, g', l)) d i g =
    elim (cases_eq b a) [
      | inl same ↦
          let h : slice_get ns a ≡ Some p = subst (λ z. slice_get ns z ≡ Some p) same g' in
          let q : p ≡ None = cc in
          let r : Some c ≡ None = sym l.0 ∙ q in
          cc
      | inr other ↦ ap last_of (put_after_miss a n b (c ∷ bs) other) ∙ (last_longer a n b c bs ∙ last_put_end ns p a n (c ∷ bs) l d.1 (elim i [ inl z ↦ absurd (other (sym z)) | inr z ↦ z ]) g)
    ]

-- behind one that had a next it isn't
pub last_put_within : (ns : List (Option ℕ)) (o : Option ℕ) (a n m : ℕ) (bs : List ℕ) → Linked ns o bs → Different bs → In a bs → slice_get ns a ≡ Some (Some m) → last_of (put_after a n bs) ≡ last_of bs
last_put_within ns o a n m [] l d i g = elim i [ ]
last_put_within ns o a n m (b ∷ []) (e, (p, g', l)) d i g =
    let same : b ≡ a = elim i [ inl q ↦ sym q | inr r ↦ elim r [ ] ] in
    let h : slice_get ns a ≡ Some p = subst (λ z. slice_get ns z ≡ Some p) same g' in
    let q : p ≡ Some m = cc in
    let r : None ≡ Some m = sym l ∙ q in
    cc
last_put_within ns o a n m (b ∷ (c ∷ bs)) (e, (p, g', l)) d i g =
    elim (cases_eq b a) [
      | inl same ↦ ap last_of (put_after_hit a n b (c ∷ bs) same)
      | inr other ↦ ap last_of (put_after_miss a n b (c ∷ bs) other) ∙ (last_longer a n b c bs ∙ last_put_within ns p a n m (c ∷ bs) l d.1 (elim i [ inl z ↦ absurd (other (sym z)) | inr z ↦ z ]) g)
    ]
