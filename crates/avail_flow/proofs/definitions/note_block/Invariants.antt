use Rattle.std.proofs.Common.{◌+◌}
use Rattle.avail_flow.specs.Flow.{code, Known}
use Rattle.avail_flow.proofs.definitions.note_block.Given as goal

abbrev pub invariant-loop-i : goal.invariant-loop-i
invariant-loop-i l = Known (code l.first l.func.function.blocks) l.home l.place l.p (l.i + 1)
