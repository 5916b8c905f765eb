-- The module that a number gives.
use Rattle.std.specs.Prelude.{ℕ, zero, suc, ◌+◌, ◌==◌, if◌then◌else◌, List, [], ◌∷◌}
use Rattle.ir_core.specs.Module.{Function, Module}
use Rattle.gen_mod.specs.Draws.{after, number}
use Rattle.gen_mod.specs.Shapes.{adding, calling_two, trying, choosing}

-- a function and the state behind its draws
abbrev pub Made : Type 0
Made = Function × ℕ

-- the function i: it adds a drawn constant
abbrev pub makes_adding : (i state : ℕ) → Made
makes_adding i state = (adding i (number 1000 (after state)), after state)

-- two earlier functions are drawn, in this order
abbrev pub makes_calling_two : (i state : ℕ) → Made
makes_calling_two i state =
    let first = after state in
    let second = after first in
    (calling_two i (number i first) (number i second), second)

abbrev pub makes_trying : (i state : ℕ) → Made
makes_trying i state = (trying i (number i (after state)), after state)

-- a constant is drawn, and then an earlier function
abbrev pub makes_choosing : (i state : ℕ) → Made
makes_choosing i state =
    let first = after state in
    let second = after first in
    (choosing i (number 1000 first) (number i second), second)

-- of a shape, which is a number below 4
abbrev pub shaped : (shape i state : ℕ) → Made
shaped shape i state =
    if shape == 0 then makes_adding i state else if shape == 1 then makes_calling_two i state
    else if shape == 2 then makes_trying i state else makes_choosing i state

-- the function i: the first has shape 0, and of any other the shape is drawn first
unfoldable pub function : (i state : ℕ) → Made
function i state =
    if i == 0 then makes_adding i state else shaped (number 4 (after state)) i (after state)

-- so many functions from the function i on
unfoldable pub functions_from : (count i state : ℕ) → List Function
functions_from zero i state = []
functions_from (suc count) i state =
    let made = function i state in
    made.0 ∷ functions_from count (i + 1) made.1

-- the module of so many functions; the state begins as the number
abbrev pub generated : (number count : ℕ) → Module
generated number count = functions_from count 0 number
