use Rattle.std.proofs.Common.{◌≡◌, take}
use Rattle.clif_names.specs.Using as spec
use Rattle.clif_names.proofs.uses.Uses.note_table.Given as goal

abbrev pub invariant-loop-entry : goal.invariant-loop-entry
invariant-loop-entry l = l.self ≡ spec.note_table l.initial.self (take l.entry-index l.table)
