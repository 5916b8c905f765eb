use Rattle.std.proofs.Common.{ap, ◌<◌, ◌≤◌, length, get_or, rules}
use Rattle.ir_core.specs.declared.declarations.SlotDecl.{SlotDecl}
use Rattle.interp.proofs.Acts.{size_past, size_none, size_some}
use Rattle.interp.proofs.shows.slot_size.Goals as goal

pub returns-then-at-len : goal.returns-then-at-len
returns-then-at-len c = size_past c.args.program.now.module.now c.args.at c.args.slot (search rules)

pub returns-then-number-slots : goal.returns-then-number-slots
returns-then-number-slots c =
    let le : length c.slots-slots.result.now ≤ c.args.slot = search rules in
    size_none c.args.program.now.module.now c.args.at c.args.slot c.func.result.now.function c.slots-slots.result.now c.func.ensures.at c.slots-slots.ensures le

pub returns : goal.returns
returns c =
    let none : SlotDecl = record { size = 0; align = 0 } in
    let lt : c.args.slot < length c.slots-slots.result.now = search rules in
    size_some c.args.program.now.module.now c.args.at c.args.slot c.func.result.now.function c.slots-slots.result.now none (get_or c.slots-slots.result.now c.number-number.result none) c.func.ensures.at c.slots-slots.ensures lt (ap (λ k. get_or c.slots-slots.result.now k none) c.number-number.ensures)
