use Rattle.std.proofs.Common.{◌≡◌, ◌++◌, take, map}
use Rattle.clif_resolve.proofs.types.push_params.Given as goal

abbrev pub invariant-loop-param : goal.invariant-loop-param
invariant-loop-param l = l.types.items ≡ l.initial.types.items ++ map (λ p. p.ty) (take l.param-index l.params)
