-- Generated functions have different names.
use Rattle.std.proofs.Common.{◌≡◌, ◌≢◌, ℕ, zero, suc, ◌+◌, ◌<◌, ◌≤◌, ◌^◌, List, [], ◌∷◌, drop, None}
use Rattle.std.proofs.Common.{refl, sym, ap, ◌∙◌, arith, inl, inr}
use Rattle.std.proofs.lemmas.Fmt.{decimal_injective}
use Rattle.ir_core.specs.declared.names.FuncName.{FuncName}
use Rattle.ir_core.specs.declared.names.FuncName.TheVariants as name
use Rattle.ir_core.specs.Module.{Function}
use Rattle.ir_core.specs.Lookup.{find_function}
use Rattle.ir_core.specs.Lists.{Each}
use Rattle.ir_core.specs.WellFormed.{DifferentNames}
use Rattle.ir_core.proofs.Equal.{cases_name}
use Rattle.gen_mod.specs.Shapes.{generated_name}
use Rattle.gen_mod.specs.Generated.{function, functions_from}
use Rattle.gen_mod.proofs.EachShape.{of_function}

abbrev bytes_of : FuncName → List ℕ
bytes_of (name.Text bytes) = bytes
bytes_of (name.User a b) = []

names_differ : (i j : ℕ) → i < 2 ^ 64 → j < 2 ^ 64 → generated_name i ≡ generated_name j → i ≡ j
names_differ i j a b e = decimal_injective i j a b (ap (λ n. drop 1 (bytes_of n)) e)

-- it has the name of another function than i
pub record Other (i : ℕ) (f : Function) : Type 0 where
  pub number : ℕ
  pub below : number < 2 ^ 64
  pub differs : number ≢ i
  pub named : f.name ≡ generated_name number

pub find_none : (i : ℕ) → i < 2 ^ 64 → (fs : List Function) → Each (Other i) fs
    → find_function (generated_name i) fs ≡ None
find_none i small [] all = refl
find_none i small (f ∷ fs) all = elim (cases_name f.name (generated_name i)) [
  | inl same ↦ absurd (all.0.differs (names_differ all.0.number i all.0.below small (sym all.0.named ∙ same)))
  | inr other ↦ rw other (find_none i small fs all.1)
]

abbrev Named : ℕ → Function → Type 0
Named i f = f.name ≡ generated_name i

pub function_named : (i state : ℕ) → (function i state).0.name ≡ generated_name i
function_named = of_function Named (record {
  adds = λ i c small. refl;
  calls_two = λ i a b p q. refl;
  tries = λ i a p. refl;
  chooses = λ i c a small p. refl;
})

-- functions from j on have other names than i, which is before
others : (count i j state : ℕ) → i < j → j + count ≤ 2 ^ 64 → Each (Other i) (functions_from count j state)
unfolding functions_from
others zero i j state before small = tt
others (suc count) i j state before small = (
  record { number = j; below = omega arith; differs = λ e. omega (arith, e); named = function_named j state },
  others count i (j + 1) (function j state).1 (omega arith) (omega arith),
)

pub functions_differ : (count i state : ℕ) → i + count ≤ 2 ^ 64 → DifferentNames (functions_from count i state)
unfolding functions_from
functions_differ zero i state small = tt
functions_differ (suc count) i state small =
    let rest = functions_from count (i + 1) (function i state).1 in (
      ap (λ n. find_function n rest) (function_named i state)
          ∙ find_none i (omega arith) rest (others count i (i + 1) (function i state).1 (omega arith) (omega arith)),
      functions_differ count (i + 1) (function i state).1 (omega arith),
    )
