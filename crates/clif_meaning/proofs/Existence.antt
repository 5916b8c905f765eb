-- A raw module without a fault means a module.
use Rattle.std.proofs.Common.{◌≡◌, ℕ, suc, inr, List, [], ◌∷◌, slice_get, Some, refl, ap}
use Rattle.std.specs.List.{enumerate_from}
use Rattle.ir_core.specs.Module.{Function}
use Rattle.clif_lex.specs.declared.faults.TextKind.TheVariants.{Untyped}
use Rattle.clif_read.specs.declared.raw.RawFunction.{RawFunction}
use Rattle.name_tables.specs.Definitions.{steps, value_defs}
use Rattle.clif_meaning.specs.Meaning.{function_with, FunctionMeans, FunctionsMean, HasMeaning}
use Rattle.clif_names.specs.Listed as listed
use Rattle.clif_meaning.proofs.OneMeaning.{types_from}
use Rattle.clif_names.proofs.Numberings.{numbering}
use Rattle.clif_names.specs.FunctionNames.{NoFunctionFault}

module _ (r : RawFunction) (free : NoFunctionFault r) where
  pub function_there : (f : Function) × FunctionMeans r f
  function_there =
      let (us, is_u) = types_from r (listed.value_of (value_defs r)) (numbering r free) (λ spot u. free Untyped spot u) [] (steps r) refl [] refl in (
        function_with r (listed.value_of (value_defs r)) (enumerate_from 0 us),
        record { value = listed.value_of (value_defs r); numbering = numbering r free; function = refl; types = ap (enumerate_from 0) is_u },
      )

functions_there : (rs : List RawFunction) → ((i : ℕ) (r : RawFunction) → slice_get rs i ≡ Some r → NoFunctionFault r) → (fs : List Function) × FunctionsMean rs fs
functions_there [] frees = ([], tt)
functions_there (r ∷ rs) frees =
    let (f, m) = function_there r (frees 0 r refl) in
    let (fs, ms) = functions_there rs (λ i. frees (suc i)) in
    (f ∷ fs, (m, ms))

pub has_meaning : HasMeaning
has_meaning raw none = functions_there raw.functions (λ i r at kind spot f. none kind spot (inr (i, r, at, f)))
