-- Lists of parameters of different lengths are not the same.
use Rattle.std.proofs.Common.{◌≡◌, List, [], ◌∷◌, length, Bool, true, false, ◌&&◌, refl, arith}
use Rattle.ir_core.specs.declared.signatures.Param.{Param}
use Rattle.ir_core.specs.Signatures.{same_param, same_params}

pub params_apart : (as' bs : List Param) → (length as' ≡ length bs → ⊥) → false ≡ same_params as' bs
params_apart [] [] ne = absurd (ne refl)
params_apart [] (b ∷ bs) ne = refl
params_apart (a ∷ as') [] ne = refl
params_apart (a ∷ as') (b ∷ bs) ne = by (same_param a b) (params_apart as' bs (λ e. ne (let x : length as' ≡ length bs = e in omega arith)))
  where
    by : (z : Bool) → false ≡ same_params as' bs → false ≡ (z && same_params as' bs)
    by true h = h
    by false h = refl
