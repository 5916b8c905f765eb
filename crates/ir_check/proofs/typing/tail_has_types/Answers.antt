use Rattle.std.proofs.Common.{None, ◌&&◌, ◌<◌, Bool, length, refl, sym, ap, subst, ◌∙◌}
use Rattle.ir_core.specs.Lookup.{param_types}
use Rattle.ir_core.specs.Module.{Function}
use Rattle.ir_core.specs.Signatures.{same_type}
use Rattle.ir_check.specs.Twins.{is_type, same_list}
use Rattle.ir_check.proofs.Signed.{tail_rule, returned_alike}
use Rattle.ir_check.proofs.typing.tail_has_types.Goals as goal

pub returns_alike-requires : goal.returns_alike-requires
returns_alike-requires c = subst (λ (z : Function). c.args.sig < length z.sigs) (sym c.requires.same) c.requires.there

pub returns-then-passes_types : goal.returns-then-passes_types
returns-then-passes_types c =
    let f : Function = c.args.func.now.function in
    let alike = returned_alike f c.args.sigs.now c.requires.same c.args.sig c.named_sig.result.now c.named_sig.ensures c.returns_alike.result c.returns_alike.ensures in
    sym (ap (λ (z : Bool). z && c.returns_alike.result) c.if-passes_types.true)
    ∙ tail_rule f c.args.args.now c.args.sig c.named_sig.result.now c.named_sig.ensures (is_type c.args.added.now.ty None) c.passes_types.result c.returns_alike.result c.passes_types.ensures alike

pub returns-else-passes_types : goal.returns-else-passes_types
returns-else-passes_types c =
    let f : Function = c.args.func.now.function in
    let alike : Bool = same_list same_type (param_types c.named_sig.result.now.results) (param_types f.sig.results) in
    c.if-passes_types.false
    ∙ (sym (ap (λ (z : Bool). z && alike) c.if-passes_types.false)
    ∙ tail_rule f c.args.args.now c.args.sig c.named_sig.result.now c.named_sig.ensures (is_type c.args.added.now.ty None) c.passes_types.result alike c.passes_types.ensures refl)
