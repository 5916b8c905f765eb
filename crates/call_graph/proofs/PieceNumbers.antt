-- Functions of one piece have one piece number, and functions of one piece number are in one piece.
use Rattle.std.proofs.Common.{◌≡◌, ◌⊎◌, inl, inr, suc, List, [], ◌∷◌, Bool, true, false, ◌&&◌, refl, sym, ap, ap₂, ◌∙◌, arith}
use Rattle.std.specs.Prelude.{not, if◌then◌else◌}
use Rattle.ir_core.specs.declared.names.FuncName.{FuncName}
use Rattle.ir_core.specs.Module.{Module}
use Rattle.ir_core.specs.Lookup.{same_name}
use Rattle.ir_core.specs.Lists.{In}
use Rattle.ir_core.proofs.Equal.{name_equal, equal_name}
use Rattle.call_graph.specs.Reach.{reaches, one_piece}
use Rattle.call_graph.specs.Order.{names_of, first_that, piece_number}
use Rattle.call_graph.proofs.Placing.{of_mutual, piece_back, piece_on}
use Rattle.call_graph.specs.NumberLaws.{ApartByNumbers}

-- the place of the first that passes

same_place : (a b : FuncName → Bool) → ((n : FuncName) → a n ≡ b n) → (ns : List FuncName) → first_that a ns ≡ first_that b ns
same_place a b h [] = refl
same_place a b h (n ∷ ns) = ap₂ (λ c k. if c then 0 else suc k) (h n) (same_place a b h ns)

-- where both pass at one place, one name passes both
one_passes : (a b : FuncName → Bool) (ns : List FuncName) (n : FuncName) → In n ns → a n ≡ true → first_that a ns ≡ first_that b ns → (k : FuncName) × (a k ≡ true) × (b k ≡ true)
one_passes a b [] n i p e = elim i [ ]
one_passes a b (k ∷ ns) n i p e = go (a k) refl (b k) refl i e (λ j f. one_passes a b ns n j p f)
  where
    go : (c : Bool) → a k ≡ c → (d : Bool) → b k ≡ d → In n (k ∷ ns) → (if c then 0 else suc (first_that a ns)) ≡ (if d then 0 else suc (first_that b ns)) → (In n ns → first_that a ns ≡ first_that b ns → (k : FuncName) × (a k ≡ true) × (b k ≡ true)) → (k : FuncName) × (a k ≡ true) × (b k ≡ true)
    go true q true r i e ih = (k, q, r)
    go true q false r i e ih = absurd (omega (arith, e))
    go false q true r i e ih = absurd (omega (arith, e))
    go false q false r (inl f) e ih = let z : false ≡ true = sym q ∙ ap a (sym f) ∙ p in cc
    go false q false r (inr j) e ih = ih j (omega (arith, e))

same_truth : (a b : Bool) → (a ≡ true → b ≡ true) → (b ≡ true → a ≡ true) → a ≡ b
same_truth true b h k = sym (h refl)
same_truth false true h k = k refl
same_truth false false h k = refl

pub not_true : (a : Bool) → not a ≡ true → a ≡ true → ⊥
not_true true h k = cc
not_true false h k = cc

pub is_not : (a : Bool) → (a ≡ true → ⊥) → not a ≡ true
is_not true h = absurd (h refl)
is_not false h = refl

module _ (m : Module) where
  pub one_number : (x y : FuncName) → one_piece m x y ≡ true → piece_number m x ≡ piece_number m y
  one_number x y h = same_place (one_piece m x) (one_piece m y) (λ n. same_truth (one_piece m x n) (one_piece m y n) (piece_on m y x n (piece_back m x y h)) (piece_on m x y n h)) (names_of m)

  pub by_number : (x y : FuncName) → In x (names_of m) → piece_number m x ≡ piece_number m y → one_piece m x y ≡ true
  by_number x y i e =
      let r = one_passes (one_piece m x) (one_piece m y) (names_of m) x i (of_mutual m x x (inl refl)) e in
      piece_on m x r.0 y r.1 (piece_back m y r.0 r.2)

pub apart_by_numbers : ApartByNumbers
apart_by_numbers m x y i j = ((λ h e. not_true (one_piece m x y) h (by_number m x y i e)), (λ h. is_not (one_piece m x y) (λ k. h (one_number m x y k))))
