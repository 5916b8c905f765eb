use Rattle.std.proofs.Common.{◌≡◌, take}
use Rattle.std.specs.Prelude.{fold, flat_map}
use Rattle.name_tables.specs.Definitions as text
use Rattle.name_tables.specs.Defining.{define_value}
use Rattle.name_tables.proofs.tables.Tables.define_lines.Given as goal

abbrev pub invariant-loop-line : goal.invariant-loop-line
invariant-loop-line l = l.self ≡ fold define_value l.initial.self (flat_map text.line_defs (take l.line-index l.lines))
