-- A body in a caller's blocks, in the place of a call that ends its block.
use Rattle.std.specs.Prelude.{ℕ, ◌+◌, List, [], ◌∷◌, ◌++◌, take, nat_eq, if◌then◌else◌}
use Rattle.ir_core.specs.Module.{Line, Block}

-- the block a ends in the jump in place of its last line i; the body stands behind it
abbrev pub with_last_body : ℕ → ℕ → Line → List Block → List Block → List Block
with_last_body a i jump body [] = []
with_last_body a i jump body (b ∷ bs) =
    if nat_eq b.number a then record b { lines = take i b.lines ++ (jump ∷ []) } ∷ (body ++ bs) else b
    ∷ with_last_body a i jump body bs

-- as many numbers as the list is long, from n on
abbrev pub numbered : {A : Type 0} → ℕ → List A → List ℕ
numbered n [] = []
numbered n (x ∷ xs) = n ∷ numbered (n + 1) xs
