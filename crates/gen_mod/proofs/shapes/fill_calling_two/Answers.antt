use Rattle.std.proofs.Common.{◌≡◌, ap, ◌∙◌}
use Rattle.ir_core.specs.declared.signatures.Ty.TheVariants.{I64}
use Rattle.gen_mod.specs.Shapes.{callee, call, returned}
use Rattle.gen_mod.proofs.Building.{callee_added, value_added, value_number, block_number, block_added, param_added, line_added, by_three}
use Rattle.gen_mod.proofs.shapes.fill_calling_two.Goals as goal

pub returns : goal.returns
returns c =
    let begun = callee_added c.requires.calling (c.callee.ensures ∙ ap callee c.in_ok-generated_name.ensures) c.in_ok-add_callee.ensures.ok in
    let one = value_added I64 begun c.in_ok-arg.ensures.ok in
    let two = value_added I64 one c.in_ok-first.ensures.ok in
    let three = value_added I64 two c.in_ok-second.ensures.ok in
    let arg : c.in_ok-arg.arg ≡ 0 = value_number begun c.in_ok-arg.ensures.number in
    let first : c.in_ok-first.first ≡ 1 = value_number one c.in_ok-first.ensures.number in
    let second : c.in_ok-second.second ≡ 2 = value_number two c.in_ok-second.ensures.number in
    let entry : c.in_ok-entry.entry ≡ 0 = block_number three c.in_ok-entry.ensures.number in
    let block = param_added (block_added three entry c.in_ok-entry.ensures.ok) entry arg c.in_ok-add_param.ensures.ok in
    let called = line_added block entry (c.call.ensures ∙ by_three call first c.new.ensures arg) c.in_ok-add_inst.ensures.ok in
    let both = line_added called entry (c.call-2.ensures ∙ by_three call second c.new-2.ensures first) c.in_ok-add_inst-2.ensures.ok in
    line_added both entry (c.returned.ensures ∙ ap returned second) c.in_ok-add_inst-3.ensures.ok
