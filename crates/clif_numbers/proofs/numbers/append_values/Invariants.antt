use Rattle.std.proofs.Common.{◌≡◌, ◌++◌, take}
use Rattle.clif_numbers.proofs.numbers.append_values.Given as goal

abbrev pub invariant-loop-value : goal.invariant-loop-value
invariant-loop-value l = l.order.items ≡ l.initial.order.items ++ take l.value-index l.values
