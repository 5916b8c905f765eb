use Rattle.std.proofs.Common.{◌≡◌, ◌+◌, map}
use Rattle.ir_semantics.specs.Splice.{from}
use Rattle.inline_body.proofs.numbers.many_new_values.Given as goal

abbrev pub invariant-loop-index : goal.invariant-loop-index
invariant-loop-index l = l.list.items ≡ map (λ i. l.start + i) (from 0 l.index)
