-- What was given at numbers, put into places.
use Rattle.std.proofs.Common.{◌≡◌, ℕ, ◌<◌, List, ◌∷◌, All, Option, Some, IfSome, length, map, get_or, set, refl, sym, ap, subst, ◌∙◌, arith, inl, inr}
use Rattle.std.proofs.lemmas.Bool.{cases_eq}
use Rattle.std.proofs.lemmas.List.{length-map, length-set, get_or-set_same, get_or-set_other, get_or-map}
use Rattle.std.proofs.lemmas.List.Elements.{All-head, All-rest, All-same}
use Rattle.std.specs.Fn.{FnReturns}
use Rattle.std.specs.Fork.{GivesEach}
use denote.Param.Members.{Shared}
use Rattle.range_workers.specs.declared.drawing.Drawn.{Drawn}
use Rattle.range_workers.specs.Drawn.{IsGiven}

-- So many places; what stands at one was given at its number.
pub record ArePlaced {F X : Type 0} (g : Shared F (ℕ × Unit {0}) X) (f : F) (count : ℕ) (places : List (Option X)) : Type 0 where
  pub number : length places ≡ count
  pub each : (i : ℕ) (d : Option X) → i < count → IfSome (get_or places i d) (λ x. FnReturns g f (i, tt) x)

one_placed : {F X : Type 0} (g : Shared F (ℕ × Unit {0}) X) (f : F) (count : ℕ) (d : Drawn X) (places : List (Option X)) → ArePlaced g f count places → IsGiven g f count d → ArePlaced g f count (set places d.number (Some d.given))
one_placed {F} {X} g f count d places a is = record {
  number = length-set places d.number (Some d.given) ∙ a.number;
  each = λ i e l. elim (cases_eq i d.number) [
    | inl same ↦ rw (same, get_or-set_same places d.number (Some d.given) e (omega (arith, is.0, a.number))) is.1
    | inr other ↦ rw (get_or-set_other places d.number i (Some d.given) e other) (a.each i e l)
  ];
}

pub all_placed : {F X : Type 0} (g : Shared F (ℕ × Unit {0}) X) (f : F) (count : ℕ) (places : List (Option X)) (all : List X) → ArePlaced g f count places → places ≡ map (λ x. Some x) all → GivesEach g f count all
all_placed {F} {X} g f count places all a e = λ i d l.
    let number : length all ≡ count = sym (length-map all (λ (x : X). Some x)) ∙ ap length (sym e) ∙ a.number in
    let at : get_or places i (Some d) ≡ Some (get_or all i d) = ap (λ (os : List (Option X)). get_or os i (Some d)) e ∙ get_or-map (λ (x : X). Some x) all i d (Some d) (omega (arith, number)) in
    (refl, subst (λ (o : Option X). IfSome o (λ x. FnReturns g f (i, tt) x)) at (a.each i (Some d) l))

-- ---- the first of a list, and the rest

pub of_first : {D : Type 0} (P : D → Type 0) (d : D) (rest all : List D) → all ≡ d ∷ rest → All P all → P d
of_first P d rest all e h = All-head P d rest (All-same P (d ∷ rest) all (sym e) h)

-- the first of what was drawn is put into its place
pub first_placed : {F X : Type 0} (g : Shared F (ℕ × Unit {0}) X) (f : F) (count : ℕ) (d : Drawn X) (rest all : List (Drawn X)) (places : List (Option X)) → all ≡ d ∷ rest → All (IsGiven g f count) all → ArePlaced g f count places
    → All (IsGiven g f count) rest × ArePlaced g f count (set places d.number (Some d.given))
first_placed g f count d rest all places e h a = (All-rest (IsGiven g f count) d rest all e h, one_placed g f count d places a (of_first (IsGiven g f count) d rest all e h))
