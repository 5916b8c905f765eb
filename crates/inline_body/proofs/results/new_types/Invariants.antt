use Rattle.std.proofs.Common.{◌≡◌, ◌++◌, map}
use Rattle.inline_body.specs.Results.{repeated}
use Rattle.inline_body.proofs.results.new_types.Given as goal

abbrev pub invariant-loop-call : goal.invariant-loop-call
invariant-loop-call l = l.list.items ≡ map (λ t. t.1) l.callee.function.types ++ repeated l._call l.results
