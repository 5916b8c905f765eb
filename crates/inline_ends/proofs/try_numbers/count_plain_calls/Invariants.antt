use Rattle.std.proofs.Common.{◌≡◌, ◌+◌, ◌≤◌, drop, map}
use Rattle.ir_core.specs.Viewed.{line_of}
use Rattle.inline_ends.specs.Tried.{plain_calls}
use Rattle.inline_ends.proofs.try_numbers.count_plain_calls.Given as goal

abbrev pub invariant-loop-line : goal.invariant-loop-line
invariant-loop-line l = (l.count + plain_calls (map line_of (drop l.line-index l.lines)) ≡ plain_calls (map line_of l.lines)) × (l.count ≤ l.line-index)
