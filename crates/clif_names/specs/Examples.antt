-- What is wrong with the worked texts of `Rows`, and how large their functions are.
use Rattle.std.specs.Prelude.{◌≡◌, map, [], ◌∷◌}
use Rattle.clif_lex.specs.declared.faults.TextKind.TheVariants.{Duplicate, Undefined, NumberRange, Untyped}
use Rattle.clif_names.specs.Faults.{NoFault, FirstFault}
use Rattle.clif_names.specs.Sizes.{raw_size}
use Rattle.clif_names.specs.Listed.{listed}
use Rattle.clif_names.specs.Rows as text

-- ---- faults

pub record WorkedFaults : Type 0 where
  pub twice_defined : FirstFault text.twice_defined Duplicate 47
  pub not_defined : FirstFault text.not_defined Undefined 61
  pub too_great : FirstFault text.too_great NumberRange 62
  pub asked_early : FirstFault text.asked_early Untyped 52
  pub by_itself : FirstFault text.by_itself Untyped 52
  pub endless_alias : FirstFault text.endless_alias Undefined 47
  pub one_name : FirstFault text.one_name Duplicate 48
  pub two_at_one_spot : FirstFault text.two_at_one_spot Undefined 35
  pub numbers_outside : listed text.numbers_outside NumberRange ≡
      95 ∷ 213 ∷ 262 ∷ 9 ∷ 21 ∷ 52 ∷ 67 ∷ 82 ∷ 131 ∷ 162 ∷ 179 ∷ 247 ∷ 229 ∷ 278 ∷ 304 ∷ []

pub record WorkedFreedom : Type 0 where
  pub given_early : NoFault text.given_early
  pub two_results : NoFault text.two_results
  pub aliases_and_suffixes : NoFault text.aliases_and_suffixes
  pub wide : NoFault text.wide
  pub all_kinds_of_names : NoFault text.all_kinds_of_names

-- ---- sizes

pub record WorkedSizes : Type 0 where
  pub given_early : map raw_size text.given_early.functions ≡ 12 ∷ []
  pub endless_alias : map raw_size text.endless_alias.functions ≡ 4 ∷ []
  pub aliases_and_suffixes : map raw_size text.aliases_and_suffixes.functions ≡ 15 ∷ []
  pub wide : map raw_size text.wide.functions ≡ 22 ∷ []
  pub all_kinds_of_names : map raw_size text.all_kinds_of_names.functions ≡ 51 ∷ []
