use Rattle.std.proofs.Common.{take}
use Rattle.clif_names.specs.Faults.{InSomeFunction}
use Rattle.clif_names.specs.LeastSpots.{AreLeast}
use Rattle.clif_names.proofs.first.inside_functions.Given as goal

abbrev pub invariant-loop-func : goal.invariant-loop-func
invariant-loop-func l = AreLeast (InSomeFunction (take l.func-index l.functions)) l.least
