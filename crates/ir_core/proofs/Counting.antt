-- How many values are defined, and when all are.
use Rattle.std.proofs.Common.{◌≡◌, ℕ, zero, suc, ◌<◌, ◌≤◌, inl, inr, List, [], ◌∷◌, ◌++◌, length, refl, sym, ap, subst, arith, length-append}
use Rattle.std.proofs.lemmas.Bool.{cases_eq}
use Rattle.ir_core.specs.Module.{Block, Line, Function}
use Rattle.ir_core.specs.Lookup.{definitions, line_definitions}
use Rattle.ir_core.specs.Lists.{In, Different, Below, Each}
use Rattle.ir_core.specs.Sound.{Counts, counts_of, LineInRange, BlockInRange, IsSound, IsWhole}
use Rattle.ir_core.proofs.Members.{in_left, in_right, in_cases, below_join, below_in, in_or_not}

record Parted (y : ℕ) (xs : List ℕ) : Type 0 where
  before : List ℕ
  behind : List ℕ
  is : xs ≡ before ++ (y ∷ behind)

parted : (y : ℕ) (xs : List ℕ) → In y xs → Parted y xs
parted y [] i = elim i [ ]
parted y (x ∷ xs) i =
    elim i [
      | inl e ↦ record { before = []; behind = xs; is = ap (λ z. z ∷ xs) (sym e) }
      | inr r ↦ let p : Parted y xs = parted y xs r in record { before = x ∷ p.before; behind = p.behind; is = ap (λ z. x ∷ z) p.is }
    ]

-- different numbers that are all in a list are no more than its
pub subset_length : (ys xs : List ℕ) → Different ys → ((n : ℕ) → In n ys → In n xs) → length ys ≤ length xs
subset_length [] xs d h = omega arith
subset_length (y ∷ ys) xs d h =
    let p : Parted y xs = parted y xs (h y (inl refl)) in
    let rest : length ys ≤ length (p.before ++ p.behind) =
    subset_length ys (p.before ++ p.behind) d.1
    (λ n i. elim (in_cases n p.before (y ∷ p.behind) (subst (In n) p.is (h n (inr i)))) [
      | inl q ↦ in_left n p.before p.behind q
      | inr q ↦ elim q [ inl e ↦ absurd (d.0 (subst (λ z. In z ys) e i)) | inr r ↦ in_right n p.before p.behind r ]
    ])
    in
    omega (arith, rest, ap length p.is, length-append p.before (y ∷ p.behind), length-append p.before p.behind)

-- the numbers below a number
upto : ℕ → List ℕ
upto zero = []
upto (suc n) = n ∷ upto n

length_upto : (n : ℕ) → length (upto n) ≡ n
unfolding upto
length_upto zero = refl
length_upto (suc n) = ap suc (length_upto n)

in_upto : (v n : ℕ) → v < n → In v (upto n)
unfolding upto
in_upto v zero h = absurd (omega (arith, h))
in_upto v (suc n) h = elim (cases_eq v n) [ inl e ↦ inl e | inr e ↦ inr (in_upto v n (omega (arith, h, e))) ]

upto_in : (v n : ℕ) → In v (upto n) → v < n
unfolding upto
upto_in v zero i = elim i [ ]
upto_in v (suc n) i = elim i [ inl e ↦ omega (arith, e) | inr r ↦ omega (arith, upto_in v n r) ]

different_upto : (n : ℕ) → Different (upto n)
unfolding upto
different_upto zero = tt
different_upto (suc n) = ((λ i. omega (arith, upto_in n n i)), different_upto n)

pub lines_below : (n : Counts) (ls : List Line) → Each (LineInRange n) ls → Below n.values (line_definitions ls)
lines_below n [] h = tt
lines_below n (l ∷ ls) h = below_join n.values l.results (line_definitions ls) h.0.results (lines_below n ls h.1)

pub definitions_below : (n : Counts) (bs : List Block) → Each (BlockInRange n) bs → Below n.values (definitions bs)
definitions_below n [] h = tt
definitions_below n (b ∷ bs) h = below_join n.values b.params (line_definitions b.lines ++ definitions bs) h.0.params (below_join n.values (line_definitions b.lines) (definitions bs) (lines_below n b.lines h.0.lines) (definitions_below n bs h.1))

-- no more values are defined than declared
pub defined_bound : (f : Function) → IsSound f → length (definitions f.blocks) ≤ length f.types
defined_bound f s = omega (arith, length_upto (length f.types), subset_length (definitions f.blocks) (upto (length f.types)) s.defined_once (λ v i. in_upto v (length f.types) (below_in (length f.types) (definitions f.blocks) v (definitions_below (counts_of f) f.blocks s.blocks) i)))

-- different numbers below n, as many as n, are all of those below n
pub all_in : (n : ℕ) (ns : List ℕ) → Different ns → Below n ns → length ns ≡ n → (v : ℕ) → v < n → In v ns
all_in n ns d range e v h =
    elim (in_or_not v ns) [
      | inl q ↦ q
      | inr q ↦
          let most : length (v ∷ ns) ≤ length (upto n) =
          subset_length (v ∷ ns) (upto n) (q, d) (λ w i. elim i [ inl p ↦ in_upto w n (omega (arith, p, h)) | inr p ↦ in_upto w n (below_in n ns w range p) ])
          in
          absurd (omega (arith, most, e, length_upto n))
    ]

pub all_defined : (f : Function) → IsSound f → length (definitions f.blocks) ≡ length f.types → (v : ℕ) → v < length f.types → In v (definitions f.blocks)
all_defined f s e v h = all_in (length f.types) (definitions f.blocks) s.defined_once (definitions_below (counts_of f) f.blocks s.blocks) e v h

pub whole_by_count : (f : Function) → IsSound f → 0 < length f.blocks → length (definitions f.blocks) ≡ length f.types → IsWhole f
whole_by_count f s b e = record { has_block = b; defined = all_defined f s e; once = s.defined_once }

pub count_of_whole : (f : Function) → IsSound f → IsWhole f → length (definitions f.blocks) ≡ length f.types
count_of_whole f s w = omega (arith, defined_bound f s, length_upto (length f.types), subset_length (upto (length f.types)) (definitions f.blocks) (different_upto (length f.types)) (λ v i. w.defined v (upto_in v (length f.types) i)))
