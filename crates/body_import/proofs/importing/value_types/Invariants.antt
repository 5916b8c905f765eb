use Rattle.std.proofs.Common.{◌≡◌, take, map}
use Rattle.body_import.proofs.importing.value_types.Given as goal

abbrev pub invariant-loop-value : goal.invariant-loop-value
invariant-loop-value l = l.list.items ≡ take l.value (map (λ t. t.1) l.callee.function.types)
