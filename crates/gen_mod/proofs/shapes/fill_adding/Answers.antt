use Rattle.std.proofs.Common.{◌≡◌, ap, ◌∙◌}
use Rattle.ir_core.specs.declared.signatures.Ty.TheVariants.{I64}
use Rattle.gen_mod.specs.Shapes.{iconst, iadd, returned}
use Rattle.gen_mod.proofs.Building.{value_added, value_number, block_number, block_added, param_added, line_added, by_three}
use Rattle.gen_mod.proofs.shapes.fill_adding.Goals as goal

pub returns : goal.returns
returns c =
    let begun = c.requires.begun in
    let one = value_added I64 begun c.in_ok-arg.ensures.ok in
    let two = value_added I64 one c.in_ok-added.ensures.ok in
    let three = value_added I64 two c.in_ok-sum.ensures.ok in
    let arg : c.in_ok-arg.arg ≡ 0 = value_number begun c.in_ok-arg.ensures.number in
    let added : c.in_ok-added.added ≡ 1 = value_number one c.in_ok-added.ensures.number in
    let sum : c.in_ok-sum.sum ≡ 2 = value_number two c.in_ok-sum.ensures.number in
    let entry : c.in_ok-entry.entry ≡ 0 = block_number three c.in_ok-entry.ensures.number in
    let block = param_added (block_added three entry c.in_ok-entry.ensures.ok) entry arg c.in_ok-add_param.ensures.ok in
    let constant = line_added block entry (c.iconst.ensures ∙ ap (λ v. iconst v c.args.constant) added) c.in_ok-add_inst.ensures.ok in
    let both = line_added constant entry (c.iadd.ensures ∙ by_three iadd sum arg added) c.in_ok-add_inst-2.ensures.ok in
    line_added both entry (c.returned.ensures ∙ ap returned sum) c.in_ok-add_inst-3.ensures.ok
