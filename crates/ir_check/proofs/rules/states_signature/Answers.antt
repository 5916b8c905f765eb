use Rattle.std.proofs.Common.{length, sym, ap, subst, ◌∙◌}
use Rattle.std.specs.Prelude.{slice_get}
use Rattle.ir_core.specs.Lists.{Below}
use Rattle.ir_core.specs.Lookup.{and_then, signature_of}
use Rattle.ir_core.specs.Module.{Function, Direct}
use Rattle.ir_core.specs.Uses.{sigs_used}
use Rattle.ir_core.specs.Viewed.{instruction_of}
use Rattle.ir_check.specs.Twins.{instruction_signature}
use Rattle.ir_check.proofs.Signed.{named_twice, named_alike}
use Rattle.ir_check.proofs.rules.states_signature.Goals as goal

pub returns-in-TryCallIndirect : goal.returns-in-TryCallIndirect
returns-in-TryCallIndirect c = named_twice c.args.func.now.function.sigs c.in-TryCallIndirect.sig ∙ ap (λ i. instruction_signature c.args.func.now.function (instruction_of i)) (sym c.in-TryCallIndirect.is)

pub returns-in-TryCall : goal.returns-in-TryCall
returns-in-TryCall c =
    let f : Function = c.args.func.now.function in
    let low = subst (λ i. Below (length f.sigs) (sigs_used (instruction_of i))) c.in-TryCall.is c.requires.line.sigs in
    named_alike f c.args.sigs.now c.requires.same c.in-TryCall.sig c.callee_sig_ref.result low.0 c.callee_sig_ref.ensures.inside c.are_same.result c.are_same.ensures (signature_of f (Direct c.in-TryCall.callee)) (ap (λ o. and_then o (slice_get f.sigs)) c.callee_sig_ref.ensures.number)
    ∙ ap (λ i. instruction_signature f (instruction_of i)) (sym c.in-TryCall.is)
