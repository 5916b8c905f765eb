-- Membership, difference and bounds over joined lists.
use Rattle.std.proofs.Common.{◌≡◌, ℕ, zero, suc, ◌<◌, ◌≤◌, ◌⊎◌, inl, inr, List, [], ◌∷◌, ◌++◌, length, map, get_or, refl, sym, ap, subst, arith}
use Rattle.std.proofs.lemmas.Bool.{cases_eq}
use Rattle.ir_core.specs.Lists.{In, Different, Below, Each}

pub in_left : {A : Type 0} (a : A) (xs ys : List A) → In a xs → In a (xs ++ ys)
in_left a [] ys i = elim i [ ]
in_left a (x ∷ xs) ys i = elim i [ inl q ↦ inl q | inr r ↦ inr (in_left a xs ys r) ]

pub in_right : {A : Type 0} (a : A) (xs ys : List A) → In a ys → In a (xs ++ ys)
in_right a [] ys i = i
in_right a (x ∷ xs) ys i = inr (in_right a xs ys i)

pub in_cases : {A : Type 0} (a : A) (xs ys : List A) → In a (xs ++ ys) → In a xs ⊎ In a ys
in_cases a [] ys i = inr i
in_cases a (x ∷ xs) ys i = elim i [ inl q ↦ inl (inl q) | inr r ↦ elim (in_cases a xs ys r) [ inl q ↦ inl (inr q) | inr q ↦ inr q ] ]

pub different_join : (xs ys : List ℕ) → Different xs → Different ys → ((n : ℕ) → In n xs → In n ys → ⊥) → Different (xs ++ ys)
different_join [] ys d e h = e
different_join (x ∷ xs) ys d e h = ((λ i. elim (in_cases x xs ys i) [ inl q ↦ d.0 q | inr q ↦ h x (inl refl) q ]), different_join xs ys d.1 e (λ n i j. h n (inr i) j))

pub different_left : (xs ys : List ℕ) → Different (xs ++ ys) → Different xs
different_left [] ys d = tt
different_left (x ∷ xs) ys d = ((λ i. d.0 (in_left x xs ys i)), different_left xs ys d.1)

pub different_right : (xs ys : List ℕ) → Different (xs ++ ys) → Different ys
different_right [] ys d = d
different_right (x ∷ xs) ys d = different_right xs ys d.1

pub different_apart : (xs ys : List ℕ) (n : ℕ) → Different (xs ++ ys) → In n xs → In n ys → ⊥
different_apart [] ys n d i j = elim i [ ]
different_apart (x ∷ xs) ys n d i j = elim i [ inl q ↦ d.0 (in_right x xs ys (subst (λ z. In z ys) q j)) | inr r ↦ different_apart xs ys n d.1 r j ]

-- a part of a list of different numbers changed
pub different_changed : (P X X' Q : List ℕ) → Different (P ++ (X ++ Q)) → Different X' → ((n : ℕ) → In n X' → In n X ⊎ (In n (P ++ (X ++ Q)) → ⊥)) → Different (P ++ (X' ++ Q))
different_changed P X X' Q d d' h =
    different_join P (X' ++ Q) (different_left P (X ++ Q) d)
    (different_join X' Q d' (different_right X Q (different_right P (X ++ Q) d))
    (λ n i j. elim (h n i) [
      | inl q ↦ different_apart X Q n (different_right P (X ++ Q) d) q j
      | inr q ↦ q (in_right n P (X ++ Q) (in_right n X Q j))
    ]))
    (λ n i j. elim (in_cases n X' Q j) [
      | inl q ↦ elim (h n q) [ inl r ↦ different_apart P (X ++ Q) n d i (in_left n X Q r) | inr r ↦ r (in_left n P (X ++ Q) i) ]
      | inr q ↦ different_apart P (X ++ Q) n d i (in_right n X Q q)
    ])

pub each_left : {A : Type 0} (P : A → Type 0) (xs ys : List A) → Each P (xs ++ ys) → Each P xs
each_left P [] ys h = tt
each_left P (x ∷ xs) ys h = (h.0, each_left P xs ys h.1)

pub each_right : {A : Type 0} (P : A → Type 0) (xs ys : List A) → Each P (xs ++ ys) → Each P ys
each_right P [] ys h = h
each_right P (x ∷ xs) ys h = each_right P xs ys h.1

pub each_join : {A : Type 0} (P : A → Type 0) (xs ys : List A) → Each P xs → Each P ys → Each P (xs ++ ys)
each_join P [] ys h k = k
each_join P (x ∷ xs) ys h k = (h.0, each_join P xs ys h.1 k)

pub each_more : {A : Type 0} (P Q : A → Type 0) → ((x : A) → P x → Q x) → (xs : List A) → Each P xs → Each Q xs
each_more P Q f [] h = tt
each_more P Q f (x ∷ xs) h = (f x h.0, each_more P Q f xs h.1)

pub below_more : (n m : ℕ) → n ≤ m → (xs : List ℕ) → Below n xs → Below m xs
below_more n m l [] h = tt
below_more n m l (x ∷ xs) h = (omega (arith, h.0, l), below_more n m l xs h.1)

pub below_join : (n : ℕ) (xs ys : List ℕ) → Below n xs → Below n ys → Below n (xs ++ ys)
below_join n [] ys h k = k
below_join n (x ∷ xs) ys h k = (h.0, below_join n xs ys h.1 k)

pub below_left : (n : ℕ) (xs ys : List ℕ) → Below n (xs ++ ys) → Below n xs
below_left n [] ys h = tt
below_left n (x ∷ xs) ys h = (h.0, below_left n xs ys h.1)

pub below_right : (n : ℕ) (xs ys : List ℕ) → Below n (xs ++ ys) → Below n ys
below_right n [] ys h = h
below_right n (x ∷ xs) ys h = below_right n xs ys h.1

pub below_in : (n : ℕ) (xs : List ℕ) (x : ℕ) → Below n xs → In x xs → x < n
below_in n [] x h i = elim i [ ]
below_in n (y ∷ xs) x h i = elim i [ inl q ↦ omega (arith, h.0, q) | inr r ↦ below_in n xs x h.1 r ]

pub in_map : {A B : Type 0} (f : A → B) (x : A) (xs : List A) → In x xs → In (f x) (map f xs)
in_map f x [] i = elim i [ ]
in_map f x (y ∷ xs) (inl e) = inl (ap f e)
in_map f x (y ∷ xs) (inr i) = inr (in_map f x xs i)

pub map_in : {A B : Type 0} (f : A → B) (y : B) (xs : List A) → In y (map f xs) → (x : A) × In x xs × (y ≡ f x)
map_in f y [] i = elim i [ ]
map_in f y (x ∷ xs) (inl e) = (x, inl refl, e)
map_in f y (x ∷ xs) (inr i) = let more = map_in f y xs i in (more.0, inr more.1, more.2)

pub in_or_not : (n : ℕ) (ns : List ℕ) → In n ns ⊎ (In n ns → ⊥)
in_or_not n [] = inr (λ i. i)
in_or_not n (k ∷ ns) =
    elim (cases_eq n k) [
      | inl e ↦ inl (inl e)
      | inr e ↦ elim (in_or_not n ns) [ inl i ↦ inl (inr i) | inr none ↦ inr (λ i. elim i [ inl q ↦ e q | inr j ↦ none j ]) ]
    ]

pub each_by : {A : Type 0} (P : A → Type 0) (xs : List A) → ((x : A) → In x xs → P x) → Each P xs
each_by P [] h = tt
each_by P (x ∷ xs) h = (h x (inl refl), each_by P xs (λ y i. h y (inr i)))

pub each_in : {A : Type 0} (P : A → Type 0) (xs : List A) → Each P xs → (x : A) → In x xs → P x
each_in P [] h x i = elim i [ ]
each_in P (y ∷ xs) h x (inl e) = subst P (sym e) h.0
each_in P (y ∷ xs) h x (inr i) = each_in P xs h.1 x i

pub below_at : (n : ℕ) (vs : List ℕ) (i : ℕ) → Below n vs → i < length vs → get_or vs i 0 < n
below_at n [] i b h = absurd (omega arith)
below_at n (x ∷ vs) zero b h = b.0
below_at n (x ∷ vs) (suc i) b h = below_at n vs i b.1 (omega arith)
