use Rattle.std.proofs.Common.{◌≡◌, take}
use Rattle.std.specs.Prelude.{fold}
use Rattle.clif_names.specs.Using as spec
use Rattle.clif_names.proofs.uses.Uses.use_target.Given as goal

abbrev pub invariant-loop-arg : goal.invariant-loop-arg
invariant-loop-arg l = l.self ≡ fold spec.use_arg l.initial.self (take l.arg-index l.target.args)
