-- The blocks of a function by their numbers.
use Rattle.std.proofs.Common.{◌≡◌, ℕ, ◌+◌, ◌≤◌, List, [], ◌∷◌, ◌++◌, length, sym, ap, ◌∙◌, arith, append_assoc, length-append}
use Rattle.ir_core.specs.Edits.{params_of, lines_of, block_at, blocks_at}
use Rattle.ir_core.specs.Lists.{Different}
use Rattle.ir_core.specs.Lookup.{definitions, line_definitions, block_numbers}
use Rattle.ir_core.specs.Module.{Block}
use Rattle.ir_core.proofs.ByNumber.{blocks_again}

-- going through the blocks by their numbers: what is left to be listed

pub begun : (bs : List Block) (order it : List ℕ) → order ≡ [] → it ≡ block_numbers bs → Different (block_numbers bs) → order ++ definitions (blocks_at bs it) ≡ definitions bs
begun bs order it e f d = rw (e, f) (ap definitions (blocks_again bs d))

pub listed : (bs : List Block) (order now it rest : List ℕ) (b : ℕ) → it ≡ b ∷ rest → now ≡ (order ++ params_of b bs) ++ line_definitions (lines_of b bs)
    → order ++ definitions (blocks_at bs it) ≡ definitions bs → now ++ definitions (blocks_at bs rest) ≡ definitions bs
listed bs order now it rest b e f h =
    ap (λ (l : List ℕ). l ++ definitions (blocks_at bs rest)) f ∙ append_assoc (order ++ params_of b bs) (line_definitions (lines_of b bs)) (definitions (blocks_at bs rest))
    ∙ append_assoc order (params_of b bs) (line_definitions (lines_of b bs) ++ definitions (blocks_at bs rest)) ∙ ap (λ (l : List ℕ). order ++ definitions (blocks_at bs l)) (sym e) ∙ h

-- the first block, and the others
pub first_block : (bs : List Block) (order rest : List ℕ) (b : ℕ) → order ≡ b ∷ rest → order ≡ block_numbers bs → Different (block_numbers bs) → bs ≡ block_at bs b ∷ blocks_at bs rest
first_block bs order rest b e f d = sym (blocks_again bs d) ∙ ap (blocks_at bs) (sym f ∙ e)

-- what the next block defines is within what all define
pub next_fits : (bs : List Block) (order it rest : List ℕ) (b : ℕ) → it ≡ b ∷ rest → order ++ definitions (blocks_at bs it) ≡ definitions bs → length order + (length (params_of b bs) + length (line_definitions (lines_of b bs))) ≤ length (definitions bs)
next_fits bs order it rest b e h =
    let params : List ℕ = params_of b bs in
    let lines : List ℕ = line_definitions (lines_of b bs) in
    let others : List ℕ = definitions (blocks_at bs rest) in
    let split : length (definitions (blocks_at bs it)) ≡ length (params ++ (lines ++ others)) = ap (λ (ns : List ℕ). length (definitions (blocks_at bs ns))) e in
    omega (arith, ap (length {A = ℕ}) h, length-append order (definitions (blocks_at bs it)), split, length-append params (lines ++ others), length-append lines others)
