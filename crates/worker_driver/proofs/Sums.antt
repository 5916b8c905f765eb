-- Sums over the numbers of a list, and over the numbers below a bound.
use Rattle.std.proofs.Common.{◌≡◌, inl, inr, ℕ, zero, suc, ◌+◌, ◌<◌, ◌≤◌, List, [], ◌∷◌, length, map, sum, get_or, Some, None, eqb, cond, refl, sym, ap, ◌∙◌, arith, eq-eqb, ne_eqb}
use Rattle.std.specs.Prelude.{slice_get}
use Rattle.std.proofs.lemmas.Bool.{cases_eq}
use Rattle.std.proofs.lemmas.List.Sums.{sum_by-cons}
use Rattle.ir_core.specs.Lists.{In}
use Rattle.publish_table.specs.Plays.{total, count}
use Rattle.publish_table.specs.Rule.{below}

-- ---- below a bound

pub below_plus : (f g : ℕ → ℕ) (n : ℕ) → below (λ k. f k + g k) n ≡ below f n + below g n
below_plus f g zero = refl
below_plus f g (suc n) = let h = below_plus f g n in omega arith

pub below_same : (f g : ℕ → ℕ) (n : ℕ) → ((k : ℕ) → k < n → f k ≡ g k) → below f n ≡ below g n
below_same f g zero each = refl
below_same f g (suc n) each = let h = below_same f g n (λ k l. each k (omega (arith, l))) in let o = each n (omega arith) in omega arith

below_zero : (n : ℕ) → below (λ k. 0) n ≡ 0
below_zero zero = refl
below_zero (suc n) = let h = below_zero n in omega arith

pub below_ones : (n : ℕ) → below (λ k. 1) n ≡ n
below_ones zero = refl
below_ones (suc n) = let h = below_ones n in omega arith

-- one of the numbers alone counts
below_past : (g : ℕ → ℕ) (x n : ℕ) → n ≤ x → below (λ k. cond (eqb x k) (g k) 0) n ≡ 0
below_past g x zero l = refl
below_past g x (suc n) l =
    let h = below_past g x n (omega (arith, l)) in
    let e = ap {B = ℕ} (λ b. cond b (g n) 0) (ne_eqb x n (λ q. omega (arith, q, l))) in omega arith

below_at : (g : ℕ → ℕ) (x n : ℕ) → x < n → below (λ k. cond (eqb x k) (g k) 0) n ≡ g x
below_at g x zero l = absurd (omega (arith, l))
below_at g x (suc n) l = elim (cases_eq x n) [
  | inl q ↦ (let h = below_past g x n (omega (arith, q)) in
      let e = ap {B = ℕ} (λ b. cond b (g n) 0) (eq-eqb x n q) in let s = ap g q in omega arith)
  | inr q ↦ (let h = below_at g x n (omega (arith, q, l)) in
      let e = ap {B = ℕ} (λ b. cond b (g n) 0) (ne_eqb x n q) in omega arith)
]

-- ---- over a list

-- by the numbers below a bound, each as often as it stands in the list
exchange : (g : ℕ → ℕ) (n : ℕ) (l : List ℕ) → ((k : ℕ) → In k l → k < n)
    → total g l ≡ below (λ k. total (λ x. cond (eqb x k) (g k) 0) l) n
exchange g n [] all = sym (below_zero n)
exchange g n (x ∷ xs) all =
    let h = exchange g n xs (λ k i. all k (inr i)) in
    let a = below_at g x n (all x (inl refl)) in
    let p = below_plus (λ k. cond (eqb x k) (g k) 0) (λ k. total (λ y. cond (eqb y k) (g k) 0) xs) n in omega arith

weigh_none : (k c : ℕ) (l : List ℕ) → count k l ≡ 0 → total (λ x. cond (eqb x k) c 0) l ≡ 0
weigh_none k c [] e = refl
weigh_none k c (x ∷ xs) e = elim (cases_eq x k) [
  | inl q ↦ (let a = ap {B = ℕ} (λ b. cond b 1 0) (eq-eqb x k q) in absurd (omega (arith, a, e)))
  | inr q ↦ (let a = ap {B = ℕ} (λ b. cond b 1 0) (ne_eqb x k q) in let b = ap {B = ℕ} (λ b. cond b c 0) (ne_eqb x k q) in
      let h = weigh_none k c xs (omega (arith, a, e)) in omega arith)
]

weigh_once : (k c : ℕ) (l : List ℕ) → count k l ≡ 1 → total (λ x. cond (eqb x k) c 0) l ≡ c
weigh_once k c [] e = absurd (omega (arith, e))
weigh_once k c (x ∷ xs) e = elim (cases_eq x k) [
  | inl q ↦ (let a = ap {B = ℕ} (λ b. cond b 1 0) (eq-eqb x k q) in let b = ap {B = ℕ} (λ b. cond b c 0) (eq-eqb x k q) in
      let h = weigh_none k c xs (omega (arith, a, e)) in omega arith)
  | inr q ↦ (let a = ap {B = ℕ} (λ b. cond b 1 0) (ne_eqb x k q) in let b = ap {B = ℕ} (λ b. cond b c 0) (ne_eqb x k q) in
      let h = weigh_once k c xs (omega (arith, a, e)) in omega arith)
]

-- a list in which each number below the bound stands once, and no other
pub total_all : (g : ℕ → ℕ) (n : ℕ) (l : List ℕ) → ((k : ℕ) → In k l → k < n) → ((k : ℕ) → k < n → count k l ≡ 1)
    → total g l ≡ below g n
total_all g n l all once = exchange g n l all ∙ below_same (λ k. total (λ x. cond (eqb x k) (g k) 0) l) g n
    (λ k low. weigh_once k (g k) l (once k low))

pub total_ones : (l : List ℕ) → total (λ x. 1) l ≡ length l
total_ones [] = refl
total_ones (x ∷ xs) = let h = total_ones xs in omega arith

pub length_all : (n : ℕ) (l : List ℕ) → ((k : ℕ) → In k l → k < n) → ((k : ℕ) → k < n → count k l ≡ 1) → length l ≡ n
length_all n l all once = sym (total_ones l) ∙ (total_all (λ x. 1) n l all once ∙ below_ones n)

below_less : (f g : ℕ → ℕ) (n : ℕ) → ((k : ℕ) → k < n → f k ≤ g k) → below f n ≤ below g n
below_less f g zero each = omega arith
below_less f g (suc n) each = let h = below_less f g n (λ k l. each k (omega (arith, l))) in let o = each n (omega arith) in omega arith

-- a list in which no number stands twice, and each is below the bound
pub few : (n : ℕ) (l : List ℕ) → ((k : ℕ) → In k l → k < n) → ((k : ℕ) → count k l ≤ 1) → length l ≤ n
few n l all once =
    let e : total (λ x. 1) l ≡ below (λ k. count k l) n = exchange (λ x. 1) n l all in
    let a = total_ones l in let b = below_less (λ k. count k l) (λ k. 1) n (λ k low. once k) in let o = below_ones n in omega arith

-- ---- where a number stands

pub counted_in : (k : ℕ) (l : List ℕ) → In k l → 0 < count k l
counted_in k [] i = elim i [ ]
counted_in k (x ∷ xs) (inl e) = let a = ap {B = ℕ} (λ b. cond b 1 0) (eq-eqb x k (sym e)) in omega arith
counted_in k (x ∷ xs) (inr i) = let h = counted_in k xs i in omega arith

pub counted_at : (k : ℕ) (l : List ℕ) (t : ℕ) → slice_get l t ≡ Some k → 0 < count k l
counted_at k [] t e = absurd cc
counted_at k (x ∷ xs) zero e = let q : x ≡ k = cc in let a = ap {B = ℕ} (λ b. cond b 1 0) (eq-eqb x k q) in omega arith
counted_at k (x ∷ xs) (suc t) e = let h = counted_at k xs t e in omega arith

pub spot_of : (k : ℕ) (l : List ℕ) → 0 < count k l → (t : ℕ) × (slice_get l t ≡ Some k)
spot_of k [] h = absurd (omega (arith, h))
spot_of k (x ∷ xs) h = elim (cases_eq x k) [
  | inl q ↦ (0, ap (λ (z : ℕ). Some z) q)
  | inr q ↦ (let a = ap {B = ℕ} (λ b. cond b 1 0) (ne_eqb x k q) in let r = spot_of k xs (omega (arith, a, h)) in (suc r.0, r.1))
]

pub one_spot : (k : ℕ) (l : List ℕ) (s t : ℕ) → slice_get l s ≡ Some k → slice_get l t ≡ Some k → count k l ≤ 1 → s ≡ t
one_spot k [] s t a b h = absurd cc
one_spot k (x ∷ xs) zero zero a b h = refl
one_spot k (x ∷ xs) zero (suc t) a b h =
    let q : x ≡ k = cc in let o = ap {B = ℕ} (λ b. cond b 1 0) (eq-eqb x k q) in
    let c = counted_at k xs t b in absurd (omega (arith, o, c, h))
one_spot k (x ∷ xs) (suc s) zero a b h =
    let q : x ≡ k = cc in let o = ap {B = ℕ} (λ b. cond b 1 0) (eq-eqb x k q) in
    let c = counted_at k xs s a in absurd (omega (arith, o, c, h))
one_spot k (x ∷ xs) (suc s) (suc t) a b h = ap suc (one_spot k xs s t a b (omega (arith, h)))

-- ---- sums from the front

below_front : (h : ℕ → ℕ) (n : ℕ) → below h (suc n) ≡ h 0 + below (λ t. h (suc t)) n
below_front h zero = omega arith
below_front h (suc n) = let e = below_front h n in omega arith

-- over the items of a list by their places
pub below_places : (g : ℕ → ℕ) (l : List ℕ) → below (λ t. g (get_or l t 0)) (length l) ≡ total g l
below_places g [] = refl
below_places g (x ∷ xs) = let h = below_places g xs in below_front (λ t. g (get_or (x ∷ xs) t 0)) (length xs) ∙ omega arith

-- the weight of the item at a place
abbrev pub weight_at : {A : Type 0} → (A → ℕ) → List A → ℕ → ℕ
weight_at w l k = elim (slice_get l k) [ None ↦ 0 | Some a ↦ w a ]

pub below_weights : {A : Type 0} (w : A → ℕ) (l : List A) → below (weight_at w l) (length l) ≡ sum (map w l)
below_weights w [] = refl
below_weights w (x ∷ xs) = below_front (weight_at w (x ∷ xs)) (length xs) ∙ (ap (λ (z : ℕ). w x + z) (below_weights w xs) ∙ sym (sum_by-cons (λ (z : ℕ). z) (w x) (map w xs)))
