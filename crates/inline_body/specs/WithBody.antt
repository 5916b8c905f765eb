-- A body in a caller's blocks, in the place of a call.
use Rattle.std.specs.Prelude.{ℕ, suc, ◌+◌, List, [], ◌∷◌, ◌++◌, length, take, drop, map, nat_eq, if◌then◌else◌}
use Rattle.ir_core.specs.Module.{Line, Block, Function}
use Rattle.ir_core.specs.Sound.{Counts, counts_of}
use Rattle.ir_core.specs.Edits.{at_block}
use Rattle.ir_core.specs.Viewed.{line_of}
use Rattle.inline_body.specs.Opened.{with_more}
use Rattle.inline_body.specs.declared.blocks.BlockLines.{BlockLines}

-- the block a ends in the jump in place of its line i; the body and the block n with the lines behind stand behind it
abbrev pub with_body : ℕ → ℕ → Line → List Block → ℕ → List ℕ → List Block → List Block
with_body a i jump body n results [] = []
with_body a i jump body n results (b ∷ bs) =
    if nat_eq b.number a then record b { lines = take i b.lines ++ (jump ∷ []) }
    ∷ (body ++ (record { number = n; params = results; lines = drop (suc i) b.lines } ∷ bs)) else b
    ∷ with_body a i jump body n results bs

-- blocks without lines, of the numbers from n on
abbrev pub empty_from : ℕ → List (List ℕ) → List Block
empty_from n [] = []
empty_from n (ps ∷ pss) = record { number = n; params = ps; lines = [] } ∷ empty_from (n + 1) pss

-- blocks directly behind the block a
abbrev pub behind : ℕ → List Block → List Block → List Block
behind a more [] = []
behind a more (b ∷ bs) = if nat_eq b.number a then b ∷ (more ++ bs) else b ∷ behind a more bs

-- lines put at the end of the blocks of their numbers
abbrev pub blocks_with_lines : List BlockLines → List Block → List Block
blocks_with_lines [] bs = bs
blocks_with_lines (x ∷ xs) bs = blocks_with_lines xs (at_block x.block (with_more (map line_of x.lines)) bs)

abbrev pub all_of : List (List ℕ) → List ℕ
all_of [] = []
all_of (ps ∷ pss) = ps ++ all_of pss

abbrev pub lines_in : List BlockLines → List Line
lines_in [] = []
lines_in (x ∷ xs) = map line_of x.lines ++ lines_in xs

abbrev pub numbers_of : List BlockLines → List ℕ
numbers_of xs = map (λ x. x.block) xs

-- what a function has with so many more blocks
abbrev pub counts_with : Function → ℕ → Counts
counts_with f more = record (counts_of f) { blocks = length f.blocks + more }
