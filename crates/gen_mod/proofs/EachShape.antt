-- What holds of each of the four shapes holds of every function that is made.
use Rattle.std.proofs.Common.{ℕ, zero, suc, ◌+◌, ◌*◌, ◌/◌, ◌^◌, ◌<◌, ◌==◌, arith, Bool, true, false, cond}
use Rattle.std.proofs.Math.Nat.{mod-lt, mod-le, div-le_self}
use Rattle.ir_core.specs.Module.{Function}
use Rattle.ir_core.specs.Lists.{Each}
use Rattle.gen_mod.specs.Draws.{after, number}
use Rattle.gen_mod.specs.Shapes.{adding, calling_two, trying, choosing}
use Rattle.gen_mod.specs.Generated.{Made, makes_adding, makes_calling_two, makes_trying, makes_choosing, shaped}
use Rattle.gen_mod.specs.Generated.{function, functions_from}

-- P holds of the function i of each shape; a constant is below 1000, and every drawn number below 2^64
pub record OfShapes (P : ℕ → Function → Type 0) : Type 0 where
  pub adds : (i c : ℕ) → c < 1000 → P i (adding i c)
  pub calls_two : (i a b : ℕ) → a < 2 ^ 64 → b < 2 ^ 64 → P i (calling_two i a b)
  pub tries : (i a : ℕ) → a < 2 ^ 64 → P i (trying i a)
  pub chooses : (i c a : ℕ) → c < 1000 → a < 2 ^ 64 → P i (choosing i c a)

choice : {A : Type 0} (P : A → Type 0) (b : Bool) (x y : A) → P x → P y → P (cond b x y)
choice P true x y p q = p
choice P false x y p q = q

constant_small : (state : ℕ) → number 1000 state < 1000
constant_small state = mod-lt (state / 2 ^ 33) (omega arith)

drawn_small : (k state : ℕ) → number k (after state) < 2 ^ 64
drawn_small k state =
    let below : after state < 2 ^ 64 = mod-lt (state * 6364136223846793005 + 1442695040888963407) (omega arith) in
    let part = div-le_self (after state) (2 ^ 33) in
    omega (arith, below, part, mod-le (after state / 2 ^ 33) k)

pub of_function : (P : ℕ → Function → Type 0) → OfShapes P → (i state : ℕ) → P i (function i state).0
unfolding function
of_function P shapes i state =
    let s = after state in
    let t = after s in
    let shape = number 4 s in
    let Of : Made → Type 0 = λ made. P i made.0 in
    let first = drawn_small i s in
    let second = drawn_small i t in
    choice Of (i == 0) (makes_adding i state) (shaped shape i s) (shapes.adds i _ (constant_small s))
    (choice Of (shape == 0) (makes_adding i s) _ (shapes.adds i _ (constant_small t))
    (choice Of (shape == 1) (makes_calling_two i s) _ (shapes.calls_two i _ _ first second)
    (choice Of (shape == 2) (makes_trying i s) (makes_choosing i s) (shapes.tries i _ first)
    (shapes.chooses i _ _ (constant_small t) second))))

pub of_functions : (P : Function → Type 0) → OfShapes (λ i f. P f) → (count i state : ℕ)
    → Each P (functions_from count i state)
unfolding functions_from
of_functions P shapes zero i state = tt
of_functions P shapes (suc count) i state =
    (of_function (λ i f. P f) shapes i state, of_functions P shapes count (i + 1) (function i state).1)
