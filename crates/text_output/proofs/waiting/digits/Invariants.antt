use Rattle.std.proofs.Common.{◌+◌, ◌-◌, ◌≡◌, length}
use Rattle.std.specs.Fmt.{decimal}
use Rattle.text_output.proofs.waiting.digits.Given as goal

abbrev pub invariant-four : goal.invariant-four
invariant-four l = record {
  count : l.count + length (decimal l.left) ≡ 1 + length (decimal l.number);
}

abbrev pub decreases-four : goal.decreases-four
decreases-four l = l.left + 1 - 10000
