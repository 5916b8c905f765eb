use Rattle.std.proofs.Common.{take}
use Rattle.avail_flow.proofs.Noting.{Noted}
use Rattle.avail_flow.proofs.definitions.note.Given as goal

abbrev pub invariant-loop-value : goal.invariant-loop-value
invariant-loop-value l = Noted (take l.value-index l.values) l.block l.line l.initial.home l.initial.place l.home l.place
