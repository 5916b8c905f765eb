use Rattle.std.proofs.Common.{◌≡◌, ◌++◌, drop}
use Rattle.inline_body.proofs.results.push_types.Given as goal

abbrev pub invariant-loop-ty : goal.invariant-loop-ty
invariant-loop-ty l = l.list.items ++ drop l.ty-index l.types ≡ l.fn.list.items ++ l.types
