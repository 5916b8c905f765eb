use Rattle.std.proofs.Common.{◌-◌}
use Rattle.read_workers.specs.Ranges.{IsTokenRange}
use Rattle.read_workers.proofs.token_ranges.find_next_function.Given as goal

abbrev pub invariant-tokens : goal.invariant-tokens
invariant-tokens l = IsTokenRange l.fn.text l.fn.tokens l.fn.from l.at × IsTokenRange l.fn.text l.fn.tokens l.at l.fn.end

abbrev pub decreases-tokens : goal.decreases-tokens
decreases-tokens l = l.fn.end - l.at
