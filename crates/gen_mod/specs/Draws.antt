-- Numbers drawn one after the other from a state, which is a number below 2^64.
use Rattle.std.specs.Prelude.{ℕ, ◌+◌, ◌*◌, ◌/◌, ◌%◌, ◌^◌}

-- the state after one more draw
abbrev pub after : ℕ → ℕ
after state = (state * 6364136223846793005 + 1442695040888963407) % 2 ^ 64

-- the number below k that was drawn, by the state after the draw
abbrev pub number : ℕ → ℕ → ℕ
number k state = state / 2 ^ 33 % k
