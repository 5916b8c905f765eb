-- What digits write is no less than what was written before them.
use Rattle.std.proofs.Common.{ℕ, ◌+◌, ◌*◌, ◌≤◌, List, [], ◌∷◌, arith}
use Rattle.std.specs.Char.{digit_value}
use Rattle.clif_words.specs.Words.{decimal_after}

pub le-decimal_after : (n : ℕ) (digits : List ℕ) → n ≤ decimal_after n digits
le-decimal_after n [] = omega arith
le-decimal_after n (c ∷ cs) = let more = le-decimal_after (n * 10 + digit_value c) cs in omega arith
