use Rattle.std.proofs.Common.{◌∙◌, ap, true, false}
use Rattle.ir_core.specs.declared.signatures.Sig.{Sig}
use Rattle.ir_core.specs.Signatures.{same_sig}
use Rattle.interp_run.proofs.Addressing.{inside_there, name_outside, name_inside}
use Rattle.interp_run.proofs.addresses.find_name.Goals as goal

pub func-requires : goal.func-requires
func-requires c =
    inside_there c.args.program.now.module.now c.args.addresses.now.names.names.items c.args.addresses.now.places.items c.args.place c.index-2.result.now c.index-2.result.now c.in-Some.at
    c.requires.addressed.listed c.requires.addressed.places c.requires.there c.index-2.ensures c.in-Some.is

pub returns-in-None : goal.returns-in-None
returns-in-None c =
    name_outside c.args.program.now.module.now c.args.addresses.now.names.names.items c.args.addresses.now.places.items c.args.place c.index.result.now c.index.result.now c.index-2.result.now c.index-2.result.now c.args.sig.now
    c.requires.addressed.listed c.requires.addressed.places c.requires.there c.index.ensures c.index-2.ensures c.in-None.is

pub returns-then-is_same_sig : goal.returns-then-is_same_sig
returns-then-is_same_sig c =
    name_inside c.args.program.now.module.now c.args.addresses.now.names.names.items c.args.addresses.now.places.items c.args.place c.index.result.now c.index.result.now c.index-2.result.now c.index-2.result.now c.args.sig.now c.in-Some.at c.func.result.now.function true
    c.requires.addressed.listed c.requires.addressed.places c.requires.there c.index.ensures c.index-2.ensures c.in-Some.is c.func.ensures.at (c.if-is_same_sig.ensures ∙ ap (λ (s : Sig). same_sig s c.args.sig.now) c.sig.ensures)

pub returns-else-is_same_sig : goal.returns-else-is_same_sig
returns-else-is_same_sig c =
    name_inside c.args.program.now.module.now c.args.addresses.now.names.names.items c.args.addresses.now.places.items c.args.place c.index.result.now c.index.result.now c.index-2.result.now c.index-2.result.now c.args.sig.now c.in-Some.at c.func.result.now.function false
    c.requires.addressed.listed c.requires.addressed.places c.requires.there c.index.ensures c.index-2.ensures c.in-Some.is c.func.ensures.at (c.if-is_same_sig.ensures ∙ ap (λ (s : Sig). same_sig s c.args.sig.now) c.sig.ensures)
