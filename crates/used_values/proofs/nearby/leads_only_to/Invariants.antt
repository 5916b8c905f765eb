use Rattle.used_values.proofs.Passing.{LeadsTo}
use Rattle.used_values.proofs.nearby.leads_only_to.Given as goal

abbrev pub invariant-loop-added : goal.invariant-loop-added
invariant-loop-added l = LeadsTo l.func.function l.fn.from l.to l.added-index
