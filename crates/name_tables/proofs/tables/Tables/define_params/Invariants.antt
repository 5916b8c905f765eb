use Rattle.std.proofs.Common.{◌≡◌, take}
use Rattle.std.specs.Prelude.{fold, flat_map}
use Rattle.name_tables.specs.Definitions as text
use Rattle.name_tables.specs.Defining.{define_value}
use Rattle.name_tables.proofs.tables.Tables.define_params.Given as goal

abbrev pub invariant-loop-param : goal.invariant-loop-param
invariant-loop-param l = l.self ≡ fold define_value l.initial.self (flat_map text.param_defs (take l.param-index l.params))
