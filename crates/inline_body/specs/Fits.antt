-- The numbers of a callee's blocks are those that the blocks get as they are put.
use Rattle.std.specs.Prelude.{◌≡◌, ℕ, ◌+◌, List, ◌∷◌, length}
use Rattle.ir_core.specs.Lookup.{block_numbers}
use Rattle.inline_body.specs.Dense.{numbers_along}
use Rattle.inline_body.specs.WithBody.{empty_from}

abbrev pub TableFits : Type 0
TableFits =
    (first k : ℕ) (ks : List ℕ) (block_params : List (List ℕ)) → length ks ≡ length block_params
    → numbers_along first first (k ∷ ks) ≡ first ∷ block_numbers (empty_from (first + 2) block_params)
