use Rattle.std.proofs.Common.{◌≡◌, ◌∙◌, ap, rules, arith, Some, take, drop, length, ◌+◌, ◌-◌, ◌<◌, ◌≤◌, List, ℕ, ◌*◌, ◌^◌, subst, length-drop}
use Rattle.std.proofs.lemmas.List.{take_rest, length-take-le}
use Rattle.ir_semantics.specs.Values.{number_of, by_endian, memory_read}
use Rattle.byte_store.specs.Bytes.{number_by}
use Rattle.byte_store.proofs.Bytes.{read_in, read_out}
use Rattle.byte_store.proofs.memory.Memory.read.Goals as goal

pub returns-then-not-is_inside-clause-read : goal.returns-then-not-is_inside-clause-read
returns-then-not-is_inside-clause-read c =
    let lt : length c.self.inside.bytes.items < c.args.address + c.args.bytes = search rules in
    read_out c.self.inside.bytes.items c.args.address c.args.bytes lt ∙ ap (λ m. memory_read m c.args.address c.args.bytes) c.self.view_is

pub returns-clause-read : goal.returns-clause-read
returns-clause-read c =
    let le : c.args.address + c.args.bytes ≤ length c.self.inside.bytes.items = search rules in
    let e : take (length c.deref.result.now - c.args.address) (drop c.args.address c.deref.result.now) ≡ drop c.args.address c.self.inside.bytes.items = take_rest c.deref.result.now c.args.address ∙ ap (drop c.args.address) c.deref.ensures.value in
    ap Some (c.number.ensures.is ∙ ap (λ (xs : List ℕ). number_of (by_endian c.args.big (take c.args.bytes xs))) e)
    ∙ (read_in c.args.big c.self.inside.bytes.items c.args.address c.args.bytes le ∙ ap (λ m. number_by c.args.big (memory_read m c.args.address c.args.bytes)) c.self.view_is)

pub returns-clause-small : goal.returns-clause-small
returns-clause-small c =
    let le : c.args.address + c.args.bytes ≤ length c.self.inside.bytes.items = search rules in
    let e : take (length c.deref.result.now - c.args.address) (drop c.args.address c.deref.result.now) ≡ drop c.args.address c.self.inside.bytes.items = take_rest c.deref.result.now c.args.address ∙ ap (drop c.args.address) c.deref.ensures.value in
    let ld : length (drop c.args.address c.self.inside.bytes.items) ≡ length c.self.inside.bytes.items - c.args.address = length-drop c.args.address c.self.inside.bytes.items in
    let len : length (take c.args.bytes (take (length c.deref.result.now - c.args.address) (drop c.args.address c.deref.result.now))) ≡ c.args.bytes = ap (λ (xs : List ℕ). length (take c.args.bytes xs)) e ∙ length-take-le c.args.bytes (drop c.args.address c.self.inside.bytes.items) (omega arith) in
    subst (λ k. c.number.result < 2 ^ (8 * k)) len c.number.ensures.small
