-- The worked texts have these faults and sizes: each is computed.
use Rattle.std.proofs.Common.{◌≡◌, ℕ, zero, suc, inl, inr, List, [], ◌∷◌, take, refl, None, Some, arith}
use Rattle.clk_num.specs.Numbers.{signed, wrapped, fits}
use Rattle.clif_lex.specs.declared.faults.TextKind.TheVariants.{Duplicate, Undefined, NumberRange, Untyped}
use Rattle.name_tables.specs.Definitions.{Values, definitions, steps, defs_of, value_defs, names_of}
use Rattle.name_tables.specs.Chains.{chain}
use Rattle.token_reader.specs.declared.raw.RawName.{RawName}
use Rattle.clif_read.specs.declared.raw.RawFunction.{RawFunction}
use Rattle.clif_read.specs.declared.raw.RawFuncName.TheVariants as func_name
use Rattle.clif_names.specs.Rows as text
use Rattle.clif_names.specs.Examples.{WorkedFaults, WorkedFreedom, WorkedSizes}
use Rattle.clif_names.proofs.ListedLaws.{listed_first, listed_none, undefined}

pub worked_freedom : WorkedFreedom
unfolding chain signed wrapped fits
worked_freedom = record {
  given_early = listed_none text.given_early refl;
  two_results = listed_none text.two_results refl;
  aliases_and_suffixes = listed_none text.aliases_and_suffixes refl;
  wide = listed_none text.wide refl;
  all_kinds_of_names = listed_none text.all_kinds_of_names refl;
}

-- ---- faults

raw_function : List RawFunction → RawFunction
raw_function [] = text.function 0 0 (func_name.Text [] 0) (text.signature [] [] None) [] []
raw_function (f ∷ fs) = f

abbrev names_before : ℕ → RawFunction → List RawName
names_before i f = names_of (defs_of (take i (steps f)))

never : (k : ℕ) → (chain (value_defs (raw_function text.endless_alias.functions)) k (record { name = text.word 1 47; target = Some (text.word 2 53) }) ≡ None)
    × (chain (value_defs (raw_function text.endless_alias.functions)) k (record { name = text.word 2 60; target = Some (text.word 1 66) }) ≡ None)
unfolding chain raw_function
never zero = (refl, refl)
never (suc k) = let p = never k in (p.1, p.0)

pub worked_faults : WorkedFaults
unfolding chain signed wrapped fits raw_function
worked_faults = record {
  twice_defined = listed_first text.twice_defined Duplicate 47 (inr (0, _, refl, (Values, (1, 0, _, _, refl, refl, omega arith, refl, refl)))) refl;
  not_defined = listed_first text.not_defined Undefined 61 (inr (0, _, refl, inl (Values, (1, _, refl, refl, undefined (definitions (raw_function text.not_defined.functions) Values) 7 refl)))) refl;
  too_great = listed_first text.too_great NumberRange 62 (inr (0, _, refl, (4, _, refl, refl, refl))) refl;
  asked_early = listed_first text.asked_early Untyped 52 (inr (0, _, refl, (1, _, _, _, _, refl, refl, refl, refl, (_, refl, (1, refl)), undefined (names_before 1 (raw_function text.asked_early.functions)) 2 refl))) refl;
  by_itself = listed_first text.by_itself Untyped 52 (inr (0, _, refl, (1, _, _, _, _, refl, refl, refl, refl, (_, refl, (1, refl)), undefined (names_before 1 (raw_function text.by_itself.functions)) 1 refl))) refl;
  endless_alias = listed_first text.endless_alias Undefined 47 (inr (0, _, refl, inr (1, _, refl, refl, λ k. (never k).0))) refl;
  one_name = listed_first text.one_name Duplicate 48 (inl (1, 0, _, _, refl, refl, omega arith, refl, (refl, refl))) refl;
  two_at_one_spot = listed_first text.two_at_one_spot Undefined 35 (inr (0, _, refl, inl (Values, (0, _, refl, refl, undefined (definitions (raw_function text.two_at_one_spot.functions) Values) 4294967295 refl)))) refl;
  numbers_outside = refl;
}

pub worked_sizes : WorkedSizes
worked_sizes = record { given_early = refl; endless_alias = refl; aliases_and_suffixes = refl; wide = refl; all_kinds_of_names = refl }
