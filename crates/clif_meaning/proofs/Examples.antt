-- The worked texts have these meanings and spots: each is computed.
use Rattle.std.proofs.Common.{◌≡◌, true, refl}
use Rattle.clk_num.specs.Numbers.{signed, wrapped, fits}
use Rattle.name_tables.specs.Definitions.{value_defs}
use Rattle.name_tables.specs.Chains.{chain}
use Rattle.clif_names.specs.Listed.{value_of, chains_end}
use Rattle.clif_meaning.specs.Meaning.{FunctionMeans, function_with, value_types}
use Rattle.clif_read.specs.declared.raw.RawFunction.{RawFunction}
use Rattle.ir_core.specs.Module.{Function}
use Rattle.std.specs.List.{enumerate_from}
use Rattle.clif_meaning.specs.Examples.{WorkedMeanings, WorkedSpots}
use Rattle.clif_names.proofs.ListedLaws.{chains_number}

-- ---- meanings

means_one : (r : RawFunction) (f : Function) → chains_end (value_defs r) ≡ true → f ≡ function_with r (value_of (value_defs r)) f.types
    → f.types ≡ enumerate_from 0 (value_types r (value_of (value_defs r)) f.types) → FunctionMeans r f
means_one r f ends function types = record { value = value_of (value_defs r); numbering = chains_number (value_defs r) ends; function = function; types = types }

pub worked_meanings : WorkedMeanings
unfolding chain signed wrapped fits
worked_meanings = record {
  given_early = (means_one _ _ refl refl refl, tt);
  two_results = (means_one _ _ refl refl refl, tt);
  aliases_and_suffixes = (means_one _ _ refl refl refl, tt);
  wide = (means_one _ _ refl refl refl, tt);
  all_kinds_of_names = (means_one _ _ refl refl refl, tt);
}

pub worked_spots : WorkedSpots
worked_spots = record { function = refl; block = refl; jump = refl; return = refl; callee = refl }
