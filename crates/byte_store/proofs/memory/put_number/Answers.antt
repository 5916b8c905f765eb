use Rattle.std.proofs.Common.{◌≡◌, ◌∙◌, sym, ap, length, rules, reverse}
use Rattle.ir_semantics.specs.Values.{bytes_of, by_endian}
use Rattle.byte_store.proofs.Bytes.{fill_step, fill_end}
use Rattle.byte_store.proofs.memory.put_number.Goals as goal

pub bytes-preserved : goal.bytes-preserved
bytes-preserved c = fill_step c.bytes.range c.bytes.byte-index c.bytes.rest c.args.number (search rules) c.bytes.invariant

pub returns-then-big : goal.returns-then-big
returns-then-big c =
    let e : c.bytes.byte-index ≡ length c.bytes.range = search rules in
    let len : length c.bytes.range ≡ length c.args.range.now = search rules in
    let filled : c.bytes.range ≡ bytes_of (length c.args.range.now) c.args.number = fill_end c.bytes.range c.bytes.byte-index c.bytes.rest e ∙ (c.bytes.invariant ∙ ap (λ n. bytes_of n c.args.number) len) in
    c.reverse.ensures.after ∙ (ap reverse filled ∙ ap (λ b. by_endian b (bytes_of (length c.args.range.now) c.args.number)) (sym c.if-big.true))

pub returns-else-big : goal.returns-else-big
returns-else-big c =
    let e : c.bytes.byte-index ≡ length c.bytes.range = search rules in
    let len : length c.bytes.range ≡ length c.args.range.now = search rules in
    let filled : c.bytes.range ≡ bytes_of (length c.args.range.now) c.args.number = fill_end c.bytes.range c.bytes.byte-index c.bytes.rest e ∙ (c.bytes.invariant ∙ ap (λ n. bytes_of n c.args.number) len) in
    filled ∙ ap (λ b. by_endian b (bytes_of (length c.args.range.now) c.args.number)) (sym c.if-big.false)
