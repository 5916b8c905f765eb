use Rattle.avail_flow.specs.Flow.{code, Known}
use Rattle.avail_flow.proofs.definitions.read_definitions.Given as goal

abbrev pub invariant-loop-p : goal.invariant-loop-p
invariant-loop-p l = Known (code l.first l.func.function.blocks) l.home l.place l.p 0
