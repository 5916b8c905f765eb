use Rattle.std.proofs.Common.{◌<◌, IfSome, length, slice_get, sym, subst}
use Rattle.inline_finish.specs.Building.{policy_of, IsBuilt}
use Rattle.module_pass.specs.Places.{Table}
use Rattle.module_pass.proofs.Filled.{built_more}
use Rattle.module_pass.proofs.places.Places.put.Goals as goal

pub invariant_of-self : goal.invariant_of-self
invariant_of-self c =
    let p = c.self.inside in let k = c.args.func in let b = c.args.built in
    built_more p.policy p.functions.value p.built.items k b c.self.invariant
    (subst (λ (t : Table). k < length t.functions) (sym c.self.view_is) c.requires.there)
    (subst (λ (t : Table). IfSome (slice_get t.functions k) (λ f. IsBuilt (policy_of t.policy) t.functions f b))
    (sym c.self.view_is) c.requires.body)
