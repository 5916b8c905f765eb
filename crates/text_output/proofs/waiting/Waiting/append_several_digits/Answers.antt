use Rattle.std.proofs.Common.{◌≡◌, ℕ, ◌+◌, ◌++◌, List, length, length-take-le, arith, sym, ap, ◌∙◌}
use Rattle.std.specs.Fmt.{decimal}
use Rattle.text_output.proofs.Digits.{length_most, digits_behind}
use Rattle.text_output.proofs.waiting.Waiting.append_several_digits.Goals as goal

pub overflow_add-end : goal.overflow_add-end
overflow_add-end c = omega (arith, c.digits.ensures, length_most c.args.number (omega (arith, c.ranges.number.fits)), c.self.invariant)

pub write_digits-requires : goal.write_digits-requires
write_digits-requires c =
    let waits : length c.args.self.now ≡ c.self.inside.len = ap length (sym c.self.view_is) ∙ length-take-le c.self.inside.len c.self.inside.bytes (omega (arith, c.self.invariant, c.self.told)) in
    let most = length_most c.args.number (omega (arith, c.ranges.number.fits)) in
    (omega (arith, c.digits.ensures), omega (arith, waits, c.requires, c.digits.ensures, most, c.self.told))

pub returns : goal.returns
returns c =
    let end : c.self.inside.len + c.digits.result ≡ c.self.inside.len + length (decimal c.args.number) = ap (λ (n : ℕ). c.self.inside.len + n) c.digits.ensures in
    digits_behind c.self.inside.bytes c.write_digits.new.buf (decimal c.args.number) c.self.inside.len (c.self.inside.len + c.digits.result) c.write_digits.result c.write_digits.ensures.start end c.write_digits.ensures.written c.write_digits.ensures.before
    ∙ ap (λ (l : List ℕ). l ++ decimal c.args.number) c.self.view_is
