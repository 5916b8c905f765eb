use Rattle.std.proofs.Common.{◌≡◌, ◌∙◌, ap, arith, ◌+◌, ◌-◌, Some}
use Rattle.ir_semantics.specs.Values.{bytes_from, join}
use Rattle.byte_store.specs.Cells.{bytes_at}
use Rattle.byte_store.proofs.Bytes.{shown_next, from_lacks}
use Rattle.byte_store.proofs.slots.Slots.shown.Goals as goal

pub returns-in-None-clause-err : goal.returns-in-None-clause-err
returns-in-None-clause-err c = λ _. from_lacks (bytes_at c.args.self.now c.args.slot) 0 c.args.size c.bytes.i c.bytes-test.true (c.in-None.ensures ∙ ap (bytes_at c.args.self.now c.args.slot) (let e : c.bytes.i ≡ 0 + c.bytes.i = omega arith in e))

pub bytes-preserved : goal.bytes-preserved
bytes-preserved c =
    ap (λ out. join (Some out) (bytes_from (bytes_at c.args.self.now c.args.slot) (c.bytes.i + 1) (c.args.size - (c.bytes.i + 1)))) c.in_ok-push-in-Some.ensures.items
    ∙ (shown_next (bytes_at c.args.self.now c.args.slot) c.bytes.i c.args.size c.in-Some.byte c.bytes.shown.items c.bytes-test.true c.in-Some.ensures ∙ c.bytes.invariant)
