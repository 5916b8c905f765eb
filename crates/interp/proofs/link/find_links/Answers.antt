use Rattle.std.proofs.Common.{◌∙◌, ap, sym, subst, map}
use Rattle.ir_core.specs.declared.declarations.Callee.{Callee}
use Rattle.ir_core.specs.Named.{place_of}
use Rattle.ir_core.specs.Module.{Function}
use Rattle.interp.specs.Linking.{LinksOf}
use Rattle.interp.proofs.Entering.{at_found}
use Rattle.interp.proofs.link.find_links.Goals as goal

pub returns : goal.returns
returns c =
    subst (λ (f : Function). LinksOf c.args.module.now f (record { blocks = c.block_count-blocks.result; callees = c.in_ok-callees.callees })) (sym (at_found c.args.module.now c.args.at c.func-func.result.now.function c.func-func.ensures.at))
    (record {
      sound = c.values-values.ensures.sound;
      callees = c.in_ok-callees.ensures ∙ ap (map (λ (k : Callee). place_of k.name c.args.module.now)) c.callees.ensures;
      blocks = c.block_count-blocks.ensures;
    })
