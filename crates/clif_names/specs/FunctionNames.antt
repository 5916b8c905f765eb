-- The names of a function, and the numbers of its values by them.
use Rattle.std.specs.Prelude.{◌≡◌, ℕ, nat_eq, List, length, get_or, Option, None, Some, map, position}
use Rattle.clif_read.specs.declared.raw.RawFunction.{RawFunction}
use Rattle.clif_lex.specs.declared.faults.TextKind.{TextKind}
use Rattle.clif_names.specs.declared.function.FunctionNames.{FunctionNames}
use Rattle.name_tables.specs.declared.links.End.{End}
use Rattle.name_tables.specs.declared.links.End.TheVariants.{At, Nowhere, Endless}
use Rattle.name_tables.specs.Aliases.{AreCounts, link_of, least_endless}
use Rattle.name_tables.specs.Chains.{IsNumbering}
use Rattle.name_tables.specs.Defining.{defined}
use Rattle.name_tables.specs.Definitions.{Kind, definitions, value_defs}
use Rattle.clif_names.specs.Faults.{FunctionFault}
use Rattle.name_tables.specs.Links.{AreEnds}
use Rattle.name_tables.specs.Taking.{place_or_count}
use Rattle.clif_names.specs.Using.{table_at, uses_of, use_function}
use Rattle.name_tables.specs.Words.{place_in}

-- The words are those that the function defines and uses, the ends those of the chains of its alias lines, and the
-- counts those of the values before each definition.
pub record AreNamesOf (f : RawFunction) (names : FunctionNames) : Type 0 where
  pub ends : AreEnds (map (link_of (defined f).values.words) (defined f).firsts) names.ends
  pub uses : names.uses ≡ use_function names.ends (uses_of (defined f)) f
  pub endless : names.endless ≡ least_endless (defined f).firsts names.ends
  pub counts : AreCounts (defined f).firsts names.values_before

-- ---- numbers of values

abbrev pub end_at : List End → Option ℕ → End
end_at ends None = Nowhere
end_at ends (Some place) = get_or ends place Nowhere

-- how the chain of a value's word ends
abbrev pub end_of : List ℕ → List End → ℕ → End
end_of words ends n = end_at ends (position (nat_eq n) words)

-- the place of a chain's end, behind all words where it has none
abbrev pub end_place : List ℕ → End → ℕ
end_place words (At place) = place
end_place words Nowhere = length words
end_place words Endless = length words

abbrev pub value_at : List ℕ → List End → List ℕ → ℕ → ℕ
value_at words ends counts n = get_or counts (end_place words (end_of words ends n)) 0

-- the number of the value that a word stands for
abbrev pub value_number : FunctionNames → ℕ → ℕ
value_number names n = value_at names.uses.values.words names.ends names.values_before n

-- ---- laws

abbrev pub NoFunctionFault : RawFunction → Type 0
NoFunctionFault f = (kind : TextKind) (spot : ℕ) → FunctionFault f kind spot → ⊥

-- the names of a function without a fault give each word the place of its definition among those of its kind
abbrev pub WordsPlaced : Type 0
WordsPlaced =
    (f : RawFunction) (names : FunctionNames) → NoFunctionFault f → AreNamesOf f names →
    (kind : Kind) (n : ℕ) → place_or_count (table_at names.uses kind).words n ≡ place_in (definitions f kind) n

-- and each word of a value the number of the value that it stands for
abbrev pub ValuesNumbered : Type 0
ValuesNumbered =
    (f : RawFunction) (names : FunctionNames) → NoFunctionFault f → AreNamesOf f names →
    IsNumbering (value_defs f) (value_number names)
