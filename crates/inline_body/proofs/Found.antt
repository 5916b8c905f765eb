-- Blocks by their numbers, and blocks from two lists.
use Rattle.std.proofs.Common.{◌≡◌, ℕ, List, [], ◌∷◌, ◌++◌, map, length, refl, sym, ap, ap₂, ◌∙◌, subst, arith, eq-eqb, ne_eqb, append_assoc, inl, inr}
use Rattle.std.specs.Prelude.{if◌then◌else◌}
use Rattle.ir_core.specs.Module.{Block, Line}
use Rattle.ir_core.specs.Lookup.{block_numbers}
use Rattle.ir_core.specs.Lists.{In, Different}
use Rattle.ir_core.specs.Edits.{params_of, lines_of, block_at}
use Rattle.ir_core.specs.Viewed.{line_of}
use Rattle.inline_body.specs.declared.blocks.BlockLines.{BlockLines}
use Rattle.inline_body.specs.Inlined.{blocks_from}

-- a block by its parts
pub block_is : (n n' : ℕ) (ps ps' : List ℕ) (ls ls' : List Line) → n ≡ n' → ps ≡ ps' → ls ≡ ls'
    → (let b : Block = record { number = n; params = ps; lines = ls } in b)
    ≡ record { number = n'; params = ps'; lines = ls' }
block_is n n' ps ps' ls ls' e g h = cc

pub in_middle : (P : List Block) (h : Block) (Q : List Block) → In h.number (block_numbers (P ++ (h ∷ Q)))
in_middle [] h Q = inl refl
in_middle (b ∷ P) h Q = inr (in_middle P h Q)

pub found_at : (bs : List Block) (b : Block) → Different (block_numbers bs) → (pre post : List Block) → bs ≡ pre ++ (b ∷ post) → block_at bs b.number ≡ b
found_at bs b d pre post e = ap (λ z. block_at z b.number) e ∙ go pre (subst (λ z. Different (block_numbers z)) e d)
  where
    go : (pre : List Block) → Different (block_numbers (pre ++ (b ∷ post))) → block_at (pre ++ (b ∷ post)) b.number ≡ b
    go [] d = ap₂ (λ p q. record { number = b.number; params = p; lines = q }) (ap (λ c. if c then b.params else params_of b.number post) (eq-eqb b.number b.number refl)) (ap (λ c. if c then b.lines else lines_of b.number post) (eq-eqb b.number b.number refl))
    go (x ∷ pre) d =
        let other : x.number ≡ b.number → ⊥ = λ q. d.0 (subst (λ z. In z (block_numbers (pre ++ (b ∷ post)))) (sym q) (in_middle pre b post)) in
        ap₂ (λ p q. record { number = b.number; params = p; lines = q }) (ap (λ c. if c then x.params else params_of b.number (pre ++ (b ∷ post))) (ne_eqb x.number b.number other)) (ap (λ c. if c then x.lines else lines_of b.number (pre ++ (b ∷ post))) (ne_eqb x.number b.number other))
        ∙ go pre d.1

-- the blocks of all numbers are the blocks
pub all_at : (bs : List Block) → Different (block_numbers bs) → map (block_at bs) (block_numbers bs) ≡ bs
all_at bs d = go [] bs refl
  where
    go : (pre post : List Block) → bs ≡ pre ++ post → map (block_at bs) (block_numbers post) ≡ post
    go pre [] e = refl
    go pre (b ∷ post) e = ap₂ (λ (x : Block) xs. x ∷ xs) (found_at bs b d pre post e) (go (pre ++ (b ∷ [])) post (e ∙ sym (append_assoc pre (b ∷ []) post)))

pub from_push : (pss : List (List ℕ)) (xs : List BlockLines) (ps : List ℕ) (x : BlockLines) → length pss ≡ length xs → blocks_from (pss ++ (ps ∷ [])) (xs ++ (x ∷ [])) ≡ blocks_from pss xs ++ (record { number = x.block; params = ps; lines = map line_of x.lines } ∷ [])
from_push [] [] ps x e = refl
from_push [] (y ∷ xs) ps x e = absurd (omega (arith, e))
from_push (qs ∷ pss) [] ps x e = absurd (omega (arith, e))
from_push (qs ∷ pss) (y ∷ xs) ps x e = ap (λ (z : List Block). record { number = y.block; params = qs; lines = map line_of y.lines } ∷ z) (from_push pss xs ps x (omega (arith, e)))

-- a step of the loop
pub more_blocks : (f : Block → Block) (all : List Block) (pss pss' : List (List ℕ)) (xs xs' : List BlockLines) (ps : List ℕ) (x : BlockLines) (b : Block) (rest : List Block) → length pss ≡ length xs → pss' ≡ pss ++ (ps ∷ []) → xs' ≡ xs ++ (x ∷ []) → record { number = x.block; params = ps; lines = map line_of x.lines } ≡ f b → blocks_from pss xs ++ map f (b ∷ rest) ≡ all → blocks_from pss' xs' ++ map f rest ≡ all
more_blocks f all pss pss' xs xs' ps x b rest l e g h k =
    ap₂ (λ p q. blocks_from p q ++ map f rest) e g
    ∙ (ap (λ (z : List Block). z ++ map f rest) (from_push pss xs ps x l)
    ∙ (append_assoc (blocks_from pss xs) (record { number = x.block; params = ps; lines = map line_of x.lines } ∷ []) (map f rest)
    ∙ (ap (λ (z : Block). blocks_from pss xs ++ (z ∷ map f rest)) h ∙ k)))
