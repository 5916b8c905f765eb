use Rattle.std.proofs.Common.{◌≡◌, ◌∙◌, ap, rules, arith, ◌+◌, ◌-◌, ◌*◌, ◌^◌, ◌<◌, Some, lit<}
use Rattle.ir_semantics.specs.Values.{bytes_from}
use Rattle.byte_store.specs.Cells.{bytes_at}
use Rattle.byte_store.specs.Bytes.{number_at}
use Rattle.byte_store.proofs.Bytes.{from_start, from_next, from_lacks, below_next, below_fits}
use Rattle.byte_store.proofs.slots.Slots.read.Goals as goal

pub bytes-init : goal.bytes-init
bytes-init c = record { below = lit< tt; is = from_start (bytes_at c.args.self.now c.args.slot) (c.args.offset + (c.args.bytes - 0)) }

pub returns-in-None-clause-read : goal.returns-in-None-clause-read
returns-in-None-clause-read c = from_lacks (bytes_at c.args.self.now c.args.slot) c.args.offset c.args.bytes (c.args.bytes - 1 - c.bytes.i) (omega arith) c.in-None.ensures

pub overflow_mul-number : goal.overflow_mul-number
overflow_mul-number c =
    let next : c.bytes.number * 256 + 0 < 2 ^ (8 * (c.bytes.i + 1)) = below_next c.bytes.number 0 c.bytes.i c.bytes.invariant.below (lit< tt) in
    omega (arith, below_fits (c.bytes.number * 256 + 0) (c.bytes.i + 1) next (omega arith))

pub overflow_add-number : goal.overflow_add-number
overflow_add-number c =
    let b : c.in-Some.byte < 256 = search rules in
    let next : c.bytes.number * 256 + c.in-Some.byte < 2 ^ (8 * (c.bytes.i + 1)) = below_next c.bytes.number c.in-Some.byte c.bytes.i c.bytes.invariant.below b in
    omega (arith, c.from.ensures, below_fits (c.bytes.number * 256 + c.in-Some.byte) (c.bytes.i + 1) next (omega arith))

pub bytes-preserved : goal.bytes-preserved
bytes-preserved c =
    let bb : c.in-Some.byte < 256 = search rules in
    let b : c.from.result < 256 = omega (arith, c.from.ensures) in
    let o : c.args.offset + (c.args.bytes - 1 - c.bytes.i) ≡ c.args.offset + (c.args.bytes - (c.bytes.i + 1)) = omega arith in
    let p : c.args.offset + (c.args.bytes - c.bytes.i) ≡ c.args.offset + (c.args.bytes - (c.bytes.i + 1)) + 1 = omega arith in
    let z : c.bytes.number * 256 + c.from.result ≡ c.from.result + 256 * c.bytes.number = omega arith in
    record {
      below = below_next c.bytes.number c.from.result c.bytes.i c.bytes.invariant.below b;
      is = ap Some z ∙ from_next (bytes_at c.args.self.now c.args.slot) (c.args.offset + (c.args.bytes - (c.bytes.i + 1))) c.bytes.i c.from.result c.bytes.number (ap Some c.from.ensures ∙ (c.in-Some.ensures ∙ ap (bytes_at c.args.self.now c.args.slot) o)) (c.bytes.invariant.is ∙ ap (λ k. number_at (bytes_from (bytes_at c.args.self.now c.args.slot) k c.bytes.i)) p);
    }
