use Rattle.std.proofs.Common.{◌≡◌, take}
use Rattle.std.specs.Prelude.{fold, map}
use Rattle.name_tables.specs.Definitions as text
use Rattle.name_tables.specs.Defining.{define_value}
use Rattle.name_tables.proofs.tables.Tables.define_results.Given as goal

abbrev pub invariant-loop-name : goal.invariant-loop-name
invariant-loop-name l = l.self ≡ fold define_value l.initial.self (map text.value_def (take l.name-index l.results))
