-- Lists of blocks of which one is filled: those before it are whole, and those behind it are empty.
use Rattle.std.proofs.Common.{◌≡◌, ℕ, ◌+◌, ◌<◌, ◌≤◌, inl, inr, List, [], ◌∷◌, ◌++◌, length, map, refl, sym, ap, ap₂, ◌∙◌, subst, arith, append_assoc, eq-eqb, ne_eqb}
use Rattle.std.specs.Prelude.{if◌then◌else◌}
use Rattle.std.specs.List.{enumerate_from}
use Rattle.std.proofs.Math.Nat.{zero-add}
use Rattle.std.proofs.lemmas.List.{append-nil}
use Rattle.ir_core.specs.Module.{Block, Line}
use Rattle.ir_core.specs.Lookup.{definitions, line_definitions, block_numbers}
use Rattle.ir_core.specs.Lists.{In, Different}
use Rattle.ir_core.specs.Sound.{instruction_count}
use Rattle.ir_core.specs.Edits.{at_block}
use Rattle.ir_core.proofs.Members.{in_left, different_left, different_right, different_apart}
use Rattle.ir_core.proofs.Splitting.{at_block_none, block_definitions, definitions_split, line_definitions_join, count_join}

-- ---- blocks numbered in order

pub enumerate_join : {A : Type 0} (k : ℕ) (xs ys : List A) → enumerate_from k (xs ++ ys) ≡ enumerate_from k xs ++ enumerate_from (k + length xs) ys
enumerate_join k [] ys = ap (λ n. enumerate_from n ys) (omega arith)
enumerate_join k (x ∷ xs) ys = ap (λ zs. (k, x) ∷ zs) (enumerate_join (k + 1) xs ys ∙ ap (λ n. enumerate_from (k + 1) xs ++ enumerate_from n ys) (omega arith))

pub enumerate_begun : {A : Type 0} (xs ys : List A) → enumerate_from 0 (xs ++ ys) ≡ enumerate_from 0 xs ++ enumerate_from (length xs) ys
enumerate_begun xs ys = enumerate_join 0 xs ys ∙ ap (λ n. enumerate_from 0 xs ++ enumerate_from n ys) (zero-add (length xs))

module _ {A : Type 0} (f : ℕ × A → Block) (own : (p : ℕ × A) → (f p).number ≡ p.0) where
  pub number_range : (k : ℕ) (xs : List A) (v : ℕ) → In v (block_numbers (map f (enumerate_from k xs))) → (k ≤ v) × (v < k + length xs)
  number_range k [] v i = absurd i
  number_range k (x ∷ xs) v (inl e) = (omega (arith, e, own (k, x)), omega (arith, e, own (k, x)))
  number_range k (x ∷ xs) v (inr r) = let q = number_range (k + 1) xs v r in (omega (arith, q.0), omega (arith, q.1))

-- ---- the one that is filled

pub in_middle : (done empties : List Block) (x : Block) → In x.number (block_numbers (done ++ x ∷ empties))
in_middle [] empties x = inl refl
in_middle (d ∷ ds) empties x = inr (in_middle ds empties x)

pub at_middle : (k : ℕ) (g : Block → Block) (done empties : List Block) (x : Block) → x.number ≡ k → (In k (block_numbers done) → ⊥) → (In k (block_numbers empties) → ⊥)
    → at_block k g (done ++ x ∷ empties) ≡ done ++ g x ∷ empties
at_middle k g [] empties x e before behind = ap₂ (λ y ys. y ∷ ys) (ap (λ c. if c then g x else x) (eq-eqb x.number k e)) (at_block_none k g empties behind)
at_middle k g (d ∷ ds) empties x e before behind =
    ap₂ (λ y ys. y ∷ ys) (ap (λ c. if c then g d else d) (ne_eqb d.number k (λ q. before (inl (sym q))))) (at_middle k g ds empties x e (λ i. before (inr i)) behind)

pub defined_middle : (done empties : List Block) (x : Block) → definitions empties ≡ [] → definitions (done ++ x ∷ empties) ≡ definitions done ++ block_definitions x
defined_middle done empties x none =
    definitions_split done empties x ∙ ap (λ r. definitions done ++ (block_definitions x ++ r)) none ∙ ap (λ r. definitions done ++ r) (append-nil (block_definitions x))

module _ (done rest : List Block) (whole : Block) (once : Different (definitions (done ++ whole ∷ rest))) where
  apart : (xs ys : List ℕ) → block_definitions whole ≡ xs ++ ys → Different ((definitions done ++ xs) ++ ys)
  apart xs ys e =
      subst Different (sym (append_assoc (definitions done) xs ys)) (different_left (definitions done ++ (xs ++ ys)) (definitions rest)
      (subst Different (definitions_split done rest whole ∙ ap (λ r. definitions done ++ (r ++ definitions rest)) e ∙ sym (append_assoc (definitions done) (xs ++ ys) (definitions rest))) once))

  pub fresh : (xs vs ys : List ℕ) → block_definitions whole ≡ xs ++ (vs ++ ys) → (v : ℕ) → In v vs → In v (definitions done ++ xs) → ⊥
  fresh xs vs ys e v i j = different_apart (definitions done ++ xs) (vs ++ ys) v (apart xs (vs ++ ys) e) j (in_left v vs ys i)

  pub differ : (xs vs ys : List ℕ) → block_definitions whole ≡ xs ++ (vs ++ ys) → Different vs
  differ xs vs ys e = different_left vs ys (different_right (definitions done ++ xs) (vs ++ ys) (apart xs (vs ++ ys) e))

-- the definitions of a block before and after a parameter, and a line
pub split_params : (b : Block) (ps more : List ℕ) (v : ℕ) → b.params ≡ ps ++ v ∷ more → block_definitions b ≡ ps ++ ((v ∷ []) ++ (more ++ line_definitions b.lines))
split_params b ps more v e = ap (λ xs. xs ++ line_definitions b.lines) e ∙ append_assoc ps (v ∷ more) (line_definitions b.lines)

pub split_lines : (b : Block) (ls more : List Line) (l : Line) → b.lines ≡ ls ++ l ∷ more
    → block_definitions b ≡ (b.params ++ line_definitions ls) ++ (l.results ++ line_definitions more)
split_lines b ls more l e =
    ap (λ xs. b.params ++ line_definitions xs) e ∙ ap (λ xs. b.params ++ xs) (line_definitions_join ls (l ∷ more))
    ∙ sym (append_assoc b.params (line_definitions ls) (l.results ++ line_definitions more))

-- ---- numbers of instructions

pub count_middle : (done rest empties : List Block) (x whole : Block) → instruction_count empties ≡ 0 → length x.lines < length whole.lines
    → instruction_count (done ++ x ∷ empties) + 1 ≤ instruction_count (done ++ whole ∷ rest)
count_middle done rest empties x whole none lt =
    let a = count_join done (x ∷ empties) in let b = count_join done (whole ∷ rest) in omega (arith, a, b, none, lt)
