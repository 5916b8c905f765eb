use Rattle.std.proofs.Common.{ap, subst, ◌∙◌}
use Rattle.ir_core.specs.Lookup.{definitions}
use Rattle.ir_core.specs.Lists.{In}
use Rattle.ir_core.specs.Layout.{blocks_in}
use Rattle.ir_core.proofs.func.Func.add_inst.Goals as goal

pub put_inst-requires-clause-undefined : goal.put_inst-requires-clause-undefined
put_inst-requires-clause-undefined c v i j =
    c.requires.undefined v i
    (subst (λ z. In v (definitions z)) (ap (λ z. blocks_in z c.self.inside.blocks.items c.self.inside.first) c.reserve.ensures.items ∙ ap (λ z. z.function.blocks) c.self.view_is) j)
