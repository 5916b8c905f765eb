use Rattle.std.proofs.Common.{◌≡◌, take}
use Rattle.std.specs.Prelude.{fold}
use Rattle.clif_names.specs.Using as spec
use Rattle.clif_names.proofs.uses.Uses.define_all.Given as goal

abbrev pub invariant-loop-name : goal.invariant-loop-name
invariant-loop-name l = l.self ≡ fold spec.define l.initial.self (take l.name-index l.names)
