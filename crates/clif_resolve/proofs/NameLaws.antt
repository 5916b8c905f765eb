-- In a function without a fault, the numbers of words by the names of the text are those of the module that is meant.
use Rattle.std.proofs.Common.{◌≡◌, ◌≢◌, ℕ, List, [], ◌∷◌, ◌++◌, length, sym, ap, subst, ◌∙◌}
use Rattle.std.specs.Prelude.{flat_map}
use Rattle.clif_read.specs.declared.raw.RawFunction.{RawFunction}
use Rattle.clif_names.specs.declared.function.FunctionNames.{FunctionNames}
use Rattle.name_tables.specs.Chains.{IsNumbering}
use Rattle.name_tables.specs.Definitions.{value_defs}
use Rattle.clif_names.specs.FunctionNames.{AreNamesOf, NoFunctionFault, value_number}
use Rattle.clif_names.proofs.PlaceLaws.{words_placed}
use Rattle.clif_names.proofs.ValueLaws.{values_numbered}
use Rattle.clif_lines.specs.WordNumbers.{AreSmall, numbers_in, sig_numbers}
use Rattle.clif_meaning.specs.Meaning.{numbers}
use Rattle.clif_resolve.specs.Parts.{own_sigs}
use Rattle.clif_resolve.proofs.ReadyLaws.{all_small}
use Rattle.clif_resolve.proofs.WordLaws.{words_right}

module _ (raw : RawFunction) (names : FunctionNames) (free : NoFunctionFault raw) (are : AreNamesOf raw names) (sigs : List ℕ)
    (is : sigs ≡ sig_numbers 0 raw.decls ++ length (flat_map own_sigs raw.decls) ∷ []) where
  pub words_are : numbers_in names sigs ≡ numbers raw (value_number names)
  words_are = ap (numbers_in names) is ∙ words_right words_placed raw names free are

  pub values_are : IsNumbering (value_defs raw) (value_number names)
  values_are = values_numbered raw names free are

  pub words_small : raw.blocks ≢ [] → AreSmall (numbers_in names sigs)
  words_small begins = subst AreSmall (sym words_are) (all_small raw free begins (value_number names) values_are)
