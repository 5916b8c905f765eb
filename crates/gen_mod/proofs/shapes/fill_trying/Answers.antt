use Rattle.std.proofs.Common.{◌≡◌, ap, ◌∙◌}
use Rattle.ir_core.specs.declared.signatures.Ty.TheVariants.{I64}
use Rattle.gen_mod.specs.Shapes.{try_call, returned}
use Rattle.gen_mod.proofs.Building.{value_added, value_number, block_number, block_added, param_added, line_added, by_three}
use Rattle.gen_mod.proofs.shapes.fill_trying.Goals as goal

pub returns : goal.returns
returns c =
    let begun = c.requires.calling in
    let one = value_added I64 begun c.in_ok-arg.ensures.ok in
    let two = value_added I64 one c.in_ok-came_back.ensures.ok in
    let three = value_added I64 two c.in_ok-thrown.ensures.ok in
    let arg : c.in_ok-arg.arg ≡ 0 = value_number begun c.in_ok-arg.ensures.number in
    let came_back : c.in_ok-came_back.came_back ≡ 1 = value_number one c.in_ok-came_back.ensures.number in
    let thrown : c.in_ok-thrown.thrown ≡ 2 = value_number two c.in_ok-thrown.ensures.number in
    let entry : c.in_ok-entry.entry ≡ 0 = block_number three c.in_ok-entry.ensures.number in
    let first = param_added (block_added three entry c.in_ok-entry.ensures.ok) entry arg c.in_ok-add_param.ensures.ok in
    let normal : c.in_ok-normal.normal ≡ 1 = block_number first c.in_ok-normal.ensures.number in
    let second = param_added (block_added first normal c.in_ok-normal.ensures.ok) normal came_back c.in_ok-add_param-2.ensures.ok in
    let handler : c.in_ok-handler.handler ≡ 2 = block_number second c.in_ok-handler.ensures.number in
    let third = param_added (block_added second handler c.in_ok-handler.ensures.ok) handler thrown c.in_ok-add_param-3.ensures.ok in
    let tried = line_added third entry
    (c.in_ok-try_call.ensures ∙ (ap (λ n. try_call n c.in_ok-arg.arg c.in_ok-normal.normal c.in_ok-handler.handler) c.new.ensures ∙ by_three (try_call 0) arg normal handler)) c.in_ok-add_inst.ensures.ok in
    let back = line_added tried normal (c.returned.ensures ∙ ap returned came_back) c.in_ok-add_inst-2.ensures.ok in
    line_added back handler (c.returned-2.ensures ∙ ap returned thrown) c.in_ok-add_inst-3.ensures.ok
