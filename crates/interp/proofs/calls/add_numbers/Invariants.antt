use Rattle.std.proofs.Common.{◌≡◌, Some, drop}
use Rattle.ir_semantics.specs.Values.{join}
use Rattle.ir_semantics.specs.Step.{numbers}
use Rattle.interp.proofs.calls.add_numbers.Given as goal

abbrev pub invariant-tags : goal.invariant-tags
invariant-tags l = join (Some l.numbers.items) (numbers (drop l.tag-index l.tags)) ≡ join (Some l.fn.numbers.items) (numbers l.tags)
