use Rattle.std.proofs.Common.{◌≡◌, drop}
use Rattle.call_graph.specs.Waiting.{others}
use Rattle.call_graph.proofs.turns.add_callees.Given as goal

abbrev pub invariant-loop-target : goal.invariant-loop-target
invariant-loop-target l = others l.piece l.own (drop l.target-index l.targets) l.callees ≡ others l.piece l.own l.targets l.initial.callees
