use Rattle.std.proofs.Common.{◌≡◌, ◌++◌, take}
use Rattle.clif_meaning.specs.Meaning.{types_for}
use Rattle.clif_resolve.specs.FormTypes.{listed}
use Rattle.clif_resolve.proofs.types.push_results.Given as goal

abbrev pub invariant-loop-place : goal.invariant-loop-place
invariant-loop-place l = l.types.items ≡ l.initial.types.items ++ types_for (take l.place l.results) (listed l.func.function l.form)
