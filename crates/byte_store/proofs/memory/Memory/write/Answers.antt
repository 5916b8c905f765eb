use Rattle.std.proofs.Common.{◌≡◌, ◌∙◌, ap, rules, Some, take, drop, length, ◌+◌, ◌-◌, ◌<◌, ◌≤◌, List, ℕ}
use Rattle.ir_semantics.specs.Values.{bytes_of, by_endian, memory_write}
use Rattle.byte_store.proofs.Bytes.{write_in, write_out, bytes_length, endian_length, splice_written, range_length}
use Rattle.byte_store.proofs.memory.Memory.write.Goals as goal

pub returns-then-not-is_inside-clause-err : goal.returns-then-not-is_inside-clause-err
returns-then-not-is_inside-clause-err c =
    let lt : length c.self.inside.bytes.items < c.args.address + c.args.bytes = search rules in
    let bs : List ℕ = by_endian c.args.big (bytes_of c.args.bytes c.args.value) in
    let len : length bs ≡ c.args.bytes = endian_length c.args.big (bytes_of c.args.bytes c.args.value) ∙ bytes_length c.args.bytes c.args.value in
    write_out c.self.inside.bytes.items c.args.address c.args.bytes bs len lt ∙ ap (λ m. memory_write m c.args.address bs) c.self.view_is

pub returns-clause-ok : goal.returns-clause-ok
returns-clause-ok c =
    let m : List ℕ = c.self.inside.bytes.items in
    let le : c.args.address + c.args.bytes ≤ length m = search rules in
    let bs : List ℕ = by_endian c.args.big (bytes_of c.args.bytes c.args.value) in
    let len : length bs ≡ c.args.bytes = endian_length c.args.big (bytes_of c.args.bytes c.args.value) ∙ bytes_length c.args.bytes c.args.value in
    let size : length (take (c.args.address + c.args.bytes - c.args.address) (drop c.args.address c.deref_mut.result.now)) ≡ c.args.bytes = range_length c.deref_mut.result.now c.args.address c.args.bytes (search rules) in
    let r : c.put_number.new.range ≡ bs = c.put_number.ensures ∙ ap (λ n. by_endian c.args.big (bytes_of n c.args.value)) size in
    ap Some (splice_written m c.deref_mut.result.now c.put_number.new.range bs c.args.address c.args.bytes c.self.inside.bytes.len c.deref_mut.ensures.value r c.self.inside.bytes.ok.0 len le)
    ∙ (write_in m c.args.address c.args.bytes bs len le ∙ ap (λ xs. memory_write xs c.args.address bs) c.self.view_is)
