use Rattle.std.proofs.Common.{◌≡◌, length}
use Rattle.call_graph.specs.Waiting.{first_left}
use Rattle.call_graph.proofs.turns.skip_placed.Given as goal

abbrev pub invariant-callees : goal.invariant-callees
invariant-callees l = first_left l.placed l.callees ≡ first_left l.placed l.initial.callees

abbrev pub decreases-callees : goal.decreases-callees
decreases-callees l = length l.callees
