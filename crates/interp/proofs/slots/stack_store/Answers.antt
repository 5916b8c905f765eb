use Rattle.std.proofs.Common.{◌≡◌, ◌∙◌, rules, Some}
use Rattle.clk_num.specs.Views.{data_of}
use Rattle.ir_semantics.specs.Values.{slot_place, bytes_in, put_bytes, bytes_of}
use Rattle.byte_store.specs.Cells.{bytes_at}
use Rattle.interp.specs.State.{function_at, env_of}
use Rattle.interp.proofs.Storing.{stored}
use Rattle.interp.proofs.slots.stack_store.Goals as goal

pub returns : goal.returns
returns c =
    let ev : Some (data_of c.in-Some.y) ≡ env_of c.args.frame.now.values c.args.value = search rules in
    let ep : Some c.in-Some-slot_place.place ≡ slot_place (function_at c.args.program.now.module.now c.args.frame.now.at) c.args.slot c.args.offset (bytes_in c.in-Some.y.width) = search rules in
    let es : bytes_at c.write.new.self ≡ put_bytes (bytes_at c.args.frame.now.slots) c.args.slot c.in-Some-slot_place.place (bytes_of (bytes_in c.in-Some.y.width) c.in-Some.y.value) = search rules in
    λ below w. c.in_ok-moved.ensures c.args.program.now.module.now below w
    ∙ stored c.args.program.now.module.now c.args.frame.now below w c.args.line.now c.args.value c.args.slot c.args.offset (data_of c.in-Some.y) c.in-Some-slot_place.place (bytes_at c.write.new.self) ev ep es
