-- The places of numbers in a list, found from the front on.
use Rattle.std.proofs.Common.{◌⊎◌, ◌≡◌, ◌≢◌, ℕ, suc, ◌+◌, ◌<◌, List, [], ◌∷◌, ◌++◌, length, take, drop, get_or, set, Bool, true, false, cond, nat_eq, refl, sym, ap, subst, ◌∙◌, inl, inr, arith, eq-eqb, get_or-set_same, get_or-set_other, drop-cons, add-one}
use Rattle.std.proofs.lemmas.List.{take_more, take-append-drop, length-take-le}
use Rattle.std.specs.Prelude.{if◌then◌else◌}
use Rattle.std.proofs.lemmas.Bool.{eqb-true}
use Rattle.ir_core.specs.Lists.{In, Different, Below}
use Rattle.ir_core.specs.Lookup.{number_in}
use Rattle.ir_core.proofs.Members.{below_at}
use Rattle.clif_numbers.specs.Placed.{IsEntry, ArePlaces}

-- the place of n, counted from k, and d where n is not there
abbrev pub place_from : ℕ → ℕ → List ℕ → ℕ → ℕ
place_from k d [] n = d
place_from k d (x ∷ xs) n = if nat_eq x n then k else place_from (k + 1) d xs n

-- the number is there, or d is what stands for it
abbrev pub Entered : ℕ → ℕ → List ℕ → ℕ → ℕ → ℕ → Type 0
Entered k d xs n entry at = ((entry < d) × (k + at ≡ entry)) ⊎ ((entry ≡ d) × (at ≡ n + length xs))

pub place_is : (k d : ℕ) (xs : List ℕ) (n : ℕ) → d ≡ k + length xs → Entered k d xs n (place_from k d xs n) (number_in xs n)
place_is k d [] n e = inr (refl, omega arith)
place_is k d (x ∷ xs) n e = go (nat_eq x n) (place_is (k + 1) d xs n (omega arith))
  where
    go : (b : Bool) → Entered (k + 1) d xs n (place_from (k + 1) d xs n) (number_in xs n) → Entered k d (x ∷ xs) n (cond b k (place_from (k + 1) d xs n)) (cond b 0 (suc (number_in xs n)))
    go true h = inl (omega (arith, e), omega arith)
    go false (inl h) = inl (h.0, omega (arith, h.1))
    go false (inr h) = inr (h.0, omega (arith, h.1))

-- one number more, which is new
pub place_more : (k d : ℕ) (xs : List ℕ) (x n : ℕ) → (In x xs → ⊥) → place_from k d (xs ++ x ∷ []) n ≡ (if nat_eq x n then k + length xs else place_from k d xs n)
place_more k d [] x n new = ap (λ (m : ℕ). cond (nat_eq x n) m d) (omega arith)
place_more k d (y ∷ xs) x n new = go (nat_eq y n) (nat_eq x n) refl refl (place_more (k + 1) d xs x n (λ h. new (inr h)))
  where
    go : (b c : Bool) → nat_eq y n ≡ b → nat_eq x n ≡ c → place_from (k + 1) d (xs ++ x ∷ []) n ≡ cond c ((k + 1) + length xs) (place_from (k + 1) d xs n)
        → cond b k (place_from (k + 1) d (xs ++ x ∷ []) n) ≡ cond c (k + length (y ∷ xs)) (cond b k (place_from (k + 1) d xs n))
    go true true e f h = absurd (new (inl (eqb-true x n f ∙ sym (eqb-true y n e))))
    go true false e f h = refl
    go false true e f h = h ∙ (let k : (k + 1) + length xs ≡ k + suc (length xs) = omega arith in k)
    go false false e f h = h

pub new_behind : (xs : List ℕ) (x : ℕ) (ys : List ℕ) → Different (xs ++ x ∷ ys) → In x xs → ⊥
new_behind [] x ys d h = absurd h
new_behind (y ∷ xs) x ys d (inl e) = d.0 (there xs e)
  where
    there : (zs : List ℕ) → x ≡ y → In y (zs ++ x ∷ ys)
    there [] e = inl (sym e)
    there (z ∷ zs) e = inr (there zs e)
new_behind (y ∷ xs) x ys d (inr h) = new_behind xs x ys d.1 h

-- the table after one number more
pub turn : (order places : List ℕ) (bound d i : ℕ) → Different order → Below bound order → length places ≡ bound → i < length order
    → ((n : ℕ) → get_or places n d ≡ place_from 0 d (take i order) n) → (n : ℕ) → get_or (set places (get_or order i 0) i) n d ≡ place_from 0 d (take (i + 1) order) n
turn order places bound d i different range long lt found n =
    go (nat_eq x n) refl ∙ sym (ap (λ (l : List ℕ). place_from 0 d l n) (take_more order i 0 lt) ∙ place_more 0 d (take i order) x n new)
  where
    x : ℕ
    x = get_or order i 0

    split : order ≡ take i order ++ x ∷ drop (i + 1) order
    split = sym (take-append-drop i order) ∙ ap (λ (l : List ℕ). take i order ++ l) (drop-cons order i 0 lt ∙ ap (λ (k : ℕ). x ∷ drop k order) (sym (add-one i)))

    new : In x (take i order) → ⊥
    new = new_behind (take i order) x (drop (i + 1) order) (subst Different split different)

    count : length (take i order) ≡ i
    count = length-take-le i order (omega arith)

    go : (b : Bool) → nat_eq x n ≡ b → get_or (set places x i) n d ≡ cond b (0 + length (take i order)) (place_from 0 d (take i order) n)
    go true e =
        let same : n ≡ x = sym (eqb-true x n e) in
        let within : x < length places = omega (arith, below_at bound order i range lt) in
        ap (λ (k : ℕ). get_or (set places x i) k d) same ∙ get_or-set_same places x i d within ∙ (let k : i ≡ 0 + length (take i order) = omega (arith, count) in k)
    go false e =
        let other : n ≢ x = λ f. (let g = eq-eqb x n (sym f) in absurd cc) in
        get_or-set_other places x n i d other ∙ found n

-- the whole table
pub placed : (order places : List ℕ) (n : ℕ) → get_or places n (length order) ≡ place_from 0 (length order) order n → IsEntry order n (get_or places n (length order))
placed order places n e = subst (IsEntry order n) (sym e) (go (place_from 0 (length order) order n) (place_is 0 (length order) order n (omega arith)))
  where
    go : (entry : ℕ) → Entered 0 (length order) order n entry (number_in order n) → IsEntry order n entry
    go entry (inl h) = inl (h.0, omega (arith, h.1))
    go entry (inr h) = inr h

pub none_placed : ArePlaces [] []
none_placed = record { small = omega arith; placed = λ n. inr (refl, omega arith) }
