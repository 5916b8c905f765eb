use Rattle.std.proofs.Common.{◌≡◌, ◌+◌, ◌≤◌, drop, map}
use Rattle.ir_core.specs.Viewed.{line_of}
use Rattle.inline_body.specs.Results.{tail_calls}
use Rattle.inline_body.proofs.results.count_tail_calls.Given as goal

abbrev pub invariant-loop-line : goal.invariant-loop-line
invariant-loop-line l = (l.count + tail_calls (map line_of (drop l.line-index l.lines)) ≡ tail_calls (map line_of l.lines)) × (l.count ≤ l.line-index)
