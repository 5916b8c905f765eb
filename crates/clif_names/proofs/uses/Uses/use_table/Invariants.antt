use Rattle.std.proofs.Common.{◌≡◌, take, map}
use Rattle.std.specs.Prelude.{fold}
use Rattle.clif_names.specs.Using as spec
use Rattle.clif_names.proofs.uses.Uses.use_table.Given as goal

abbrev pub invariant-loop-entry : goal.invariant-loop-entry
invariant-loop-entry l = l.self ≡ fold spec.use_target l.initial.self (map (λ e. e.target) (take l.entry-index l.table))
