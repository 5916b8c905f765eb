-- Alias lines by the places of the words that they stand for, and the first whose chain never ends.
use Rattle.std.specs.Prelude.{◌≡◌, ℕ, ◌+◌, ◌<◌, nat_eq, List, length, take, get_or, Option, None, Some, fold, position}
use Rattle.std.specs.Prelude.{zip, Bool, is_some, ◌++◌}
use Rattle.std.specs.List.{range_with_len}
use Rattle.ir_core.specs.Size.{total}
use Rattle.token_reader.specs.declared.raw.RawName.{RawName}
use Rattle.name_tables.specs.declared.firsts.Def.{Def}
use Rattle.name_tables.specs.declared.links.Link.{Link}
use Rattle.name_tables.specs.declared.links.Link.TheVariants.{Value, Missing, To}
use Rattle.name_tables.specs.declared.links.End.{End}
use Rattle.name_tables.specs.declared.links.End.TheVariants.{At, Nowhere, Endless}
use Rattle.name_tables.specs.Chains.{own_name}
use Rattle.name_tables.specs.Least.{earlier_spot}

abbrev pub to_place : Option ℕ → Link
to_place None = Missing
to_place (Some place) = To place

abbrev pub link_to : List ℕ → Option RawName → Link
link_to words None = Value
link_to words (Some n) = to_place (position (nat_eq n.number) words)

abbrev pub link_of : List ℕ → Def → Link
link_of words d = link_to words d.target

abbrev pub is_alias : Def → Bool
is_alias d = is_some d.target

abbrev pub note_end : Option ℕ → ℕ → End → Option ℕ
note_end least spot (At place) = least
note_end least spot Nowhere = least
note_end least spot Endless = earlier_spot least spot

abbrev pub note_pair : Option ℕ → Def × End → Option ℕ
note_pair least p = note_end least p.0.name.spot p.1

abbrev pub least_endless : List Def → List End → Option ℕ
least_endless firsts ends = fold note_pair None (zip firsts ends)

-- ---- numbers of values

abbrev pub value_count : Def → ℕ
value_count d = length (own_name d)

-- a run of numbers from 0 on, and those behind it
abbrev pub counts_of : ℕ → List ℕ → List ℕ
counts_of run listed = range_with_len 0 run ++ listed

-- how many values are defined before each definition, and at last by all of them
pub record AreCounts (firsts : List Def) (counts : List ℕ) : Type 0 where
  pub long : length counts ≡ length firsts + 1
  pub each : (i : ℕ) → i < length firsts + 1 → get_or counts i 0 ≡ total value_count (take i firsts)
