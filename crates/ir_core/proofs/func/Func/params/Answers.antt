use Rattle.std.proofs.Common.{arith, sym, ap, subst, ◌∙◌}
use Rattle.ir_core.specs.Lookup.{block_numbers}
use Rattle.ir_core.specs.Lists.{In}
use Rattle.ir_core.specs.Edits.{params_of}
use Rattle.ir_core.specs.Layout.{order}
use Rattle.ir_core.proofs.Changing.{found, below, present, params_found}
use Rattle.ir_core.proofs.func.Func.params.Goals as goal

pub index-requires : goal.index-requires
index-requires c =
    let there : In c.number.result (block_numbers c.args.self.now.function.blocks) = subst (λ z. In z (block_numbers c.args.self.now.function.blocks)) (sym c.number.ensures) c.requires in
    omega (arith, below c.self.inside c.args.self.now c.number.result c.self.invariant c.self.view_is there, c.self.inside.blocks.ok.0)

pub returns : goal.returns
returns c =
    let there : In c.number.result (block_numbers c.args.self.now.function.blocks) = subst (λ z. In z (block_numbers c.args.self.now.function.blocks)) (sym c.number.ensures) c.requires in
    c.as_slice.ensures
    ∙ (sym (params_found c.self.inside.insts.items c.self.inside.blocks.items (order c.self.inside.blocks.items c.self.inside.first) c.number.result c.index.result.now (present c.self.inside c.args.self.now c.number.result c.self.invariant c.self.view_is there) (found c.self.inside c.args.self.now c.number.result c.index.result.now c.self.invariant c.self.view_is there c.index.ensures))
    ∙ (ap (λ z. params_of c.number.result z.function.blocks) c.self.view_is ∙ ap (λ z. params_of z c.args.self.now.function.blocks) c.number.ensures))
