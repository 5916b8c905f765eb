-- The blocks of a function by their numbers.
use Rattle.std.proofs.Common.{◌≡◌, ℕ, List, [], ◌∷◌, Bool, true, false, nat_eq, eq-eqb, ne_eqb, Option, Some, refl, sym, ap, subst, ◌∙◌, inl, inr, ◌++◌}
use Rattle.std.specs.Prelude.{◌⊎◌, if◌then◌else◌}
use Rattle.std.proofs.lemmas.Bool.{cases_eq, eqb-true}
use Rattle.ir_core.specs.Edits.{block_at, blocks_at}
use Rattle.ir_core.specs.Lists.{In, Different}
use Rattle.ir_core.specs.Lookup.{block_numbers, find_block}
use Rattle.ir_core.specs.Module.{Block}
use Rattle.ir_core.proofs.Gets.{some_same}
use Rattle.ir_core.proofs.Members.{in_map}

skip : (b : Block) (bs : List Block) (n : ℕ) → (b.number ≡ n → ⊥) → block_at (b ∷ bs) n ≡ block_at bs n
skip b bs n other = go (nat_eq b.number n) refl
  where
    go : (t : Bool) → nat_eq b.number n ≡ t → block_at (b ∷ bs) n ≡ block_at bs n
    go true e = absurd (other (eqb-true b.number n e))
    go false e = rw e refl

skip_all : (b : Block) (bs : List Block) (ns : List ℕ) → (In b.number ns → ⊥) → blocks_at (b ∷ bs) ns ≡ blocks_at bs ns
skip_all b bs [] out = refl
skip_all b bs (n ∷ ns) out = rw (skip b bs n (λ e. out (inl e)), skip_all b bs ns (λ h. out (inr h))) refl

first_at : (b : Block) (bs : List Block) → block_at (b ∷ bs) b.number ≡ b
first_at b bs = rw (eq-eqb b.number b.number refl) refl

pub blocks_again : (bs : List Block) → Different (block_numbers bs) → blocks_at bs (block_numbers bs) ≡ bs
blocks_again [] d = refl
blocks_again (b ∷ bs) d = rw (first_at b bs, skip_all b bs (block_numbers bs) d.0, blocks_again bs d.1) refl

pub first_in : (ns it rest : List ℕ) (b : ℕ) → it ≡ b ∷ rest → ((n : ℕ) → In n it → In n ns) → In b ns
first_in ns it rest b e h = h b (rw e (inl refl))

pub rest_in : (ns it rest : List ℕ) (b : ℕ) → it ≡ b ∷ rest → ((n : ℕ) → In n it → In n ns) → (n : ℕ) → In n rest → In n ns
rest_in ns it rest b e h n k = h n (rw e (inr k))

pub numbers_join : (xs ys : List Block) → block_numbers (xs ++ ys) ≡ block_numbers xs ++ block_numbers ys
numbers_join [] ys = refl
numbers_join (x ∷ xs) ys = ap (λ r. x.number ∷ r) (numbers_join xs ys)

-- a block that is found has its number among them
pub found_number : (n : ℕ) (bs : List Block) (b : Block) → find_block n bs ≡ Some b → In n (block_numbers bs)
found_number n [] b q = absurd cc
found_number n (k ∷ bs) b q = by (cases_eq k.number n) (found_number n bs b)
  where
    by : (k.number ≡ n) ⊎ (k.number ≡ n → ⊥) → (find_block n bs ≡ Some b → In n (block_numbers bs)) → In n (block_numbers (k ∷ bs))
    by (inl e) ih = inl (sym e)
    by (inr ne) ih = inr (ih (sym (ap (λ (t : Bool). if t then Some k else find_block n bs) (ne_eqb k.number n ne)) ∙ q))

pub found_is : (n : ℕ) (bs : List Block) (b : Block) → find_block n bs ≡ Some b → b.number ≡ n
found_is n [] b h = cc
found_is n (c ∷ bs) b h =
    elim (cases_eq c.number n) [
      | inl q ↦ ap (λ (z : Block). z.number) (some_same (sym h ∙ ap test (eq-eqb c.number n q))) ∙ q
      | inr q ↦ found_is n bs b (sym (ap test (ne_eqb c.number n q)) ∙ h)
    ]
  where
    test : Bool → Option Block
    test z = if z then Some c else find_block n bs

-- a block is found by its number where no other has it
pub in_find : (b : Block) (bs : List Block) → Different (block_numbers bs) → In b bs → find_block b.number bs ≡ Some b
in_find b [] d i = elim i [ ]
in_find b (c ∷ bs) d (inl q) =
    subst (λ z. find_block b.number (z ∷ bs) ≡ Some b) q (ap (λ z. if z then Some b else find_block b.number bs) (eq-eqb b.number b.number refl))
in_find b (c ∷ bs) d (inr i) =
    let other : c.number ≡ b.number → ⊥ = λ e. d.0 (subst (λ z. In z (block_numbers bs)) (sym e) (in_map (λ (k : Block). k.number) b bs i)) in
    ap (λ z. if z then Some c else find_block b.number bs) (ne_eqb c.number b.number other) ∙ in_find b bs d.1 i
