-- The values among arguments.
use Rattle.std.proofs.Common.{◌≡◌, ℕ, zero, suc, List, [], ◌∷◌, ◌++◌, map, refl, ap}
use Rattle.ir_core.specs.declared.instructions.Arg.TheVariants as arg
use Rattle.ir_core.specs.Uses.{arg_values_used}
use Rattle.ir_semantics.specs.Splice.{from}

pub value_args_used : (vs : List ℕ) → arg_values_used (map arg.Value vs) ++ [] ≡ vs
value_args_used [] = refl
value_args_used (v ∷ vs) = ap (λ z. v ∷ z) (value_args_used vs)

pub rets_use : (k n : ℕ) → arg_values_used (map arg.Ret (from k n)) ≡ []
rets_use k zero = refl
rets_use k (suc n) = rets_use (suc k) n
