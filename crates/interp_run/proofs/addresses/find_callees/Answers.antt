use Rattle.std.proofs.Common.{◌∙◌, ap, sym, take, ◌++◌, ◌∷◌, []}
use Rattle.std.proofs.lemmas.List.{map_more}
use Rattle.ir_core.specs.declared.declarations.Callee.{Callee}
use Rattle.ir_semantics.specs.Names.{address_of}
use Rattle.func_addrs.specs.Mentions.{names_of}
use Rattle.interp_run.specs.Addressing.{callee_addresses}
use Rattle.interp_run.proofs.addresses.find_callees.Goals as goal

pub callees-preserved : goal.callees-preserved
callees-preserved c =
    let ns = names_of c.args.names.now.names.items in
    c.in_ok-push.ensures.items
    ∙ (ap (λ xs. xs ++ c.find.result ∷ []) c.callees.invariant
    ∙ (ap (λ o. callee_addresses ns (take c.callees.callee-index c.args.callees.now) ++ o ∷ []) (c.find.ensures ∙ ap (λ (k : Callee). address_of ns k.name) c.callee-item.is)
    ∙ sym (map_more (λ (k : Callee). address_of ns k.name) c.args.callees.now c.callees.callee-index c.callee-item.result c.callees-test.true)))
