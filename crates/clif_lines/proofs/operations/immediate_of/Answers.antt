use Rattle.std.proofs.Common.{◌≡◌, ◌<◌, ◌^◌, pos, Bool, sym, ap, ◌∙◌, FitsSigned, to_z-of_z, arith}
use Rattle.std.specs.Int.{w128}
use Rattle.std.proofs.lemmas.Int.{to_z_pos}
use Rattle.clk_num.specs.declared.width.Width.{Width}
use Rattle.clk_num.specs.declared.width.Width.TheVariants.{W64}
use Rattle.clk_num.specs.Numbers.{signed, wrapped}
use Rattle.clk_num.specs.Width.{bits_of}
use Rattle.clk_num.proofs.Numbers.{cut_from_code}
use Rattle.clif_meaning.specs.Instructions.{constant, extended}
use Rattle.clif_lines.proofs.operations.immediate_of.Goals as goal

pub returns-then-is_by_zeros : goal.returns-then-is_by_zeros
returns-then-is_by_zeros c =
    let low : c.new-low.result.value ≡ wrapped 64 c.args.number = c.new-low.ensures.value ∙ cut_from_code W64 c.args.number c.cast_unsigned.result c.ranges.number c.cast_unsigned.ensures in
    let n : c.value.result ≡ wrapped 64 c.args.number = c.value.ensures.value ∙ low in
    let zeros = sym c.is_by_zeros.ensures ∙ c.if-is_by_zeros.true in
    let s = rw c.new-low.ensures.width at c.value.ensures.in_range in
    let small : c.value.result < 2 ^ 127 = omega (arith, s) in
    c.constant_of.ensures ∙ ap (constant c.args.ty) (to_z_pos w128 c.value.result small ∙ ap pos n)
    ∙ sym (ap (λ (b : Bool). constant c.args.ty (extended b (wrapped 64 c.args.number))) zeros)

pub returns-else-is_by_zeros : goal.returns-else-is_by_zeros
returns-else-is_by_zeros c =
    let low : c.new-low.result.value ≡ wrapped 64 c.args.number = c.new-low.ensures.value ∙ cut_from_code W64 c.args.number c.cast_unsigned.result c.ranges.number c.cast_unsigned.ensures in
    let n : c.signed.result ≡ signed 64 (wrapped 64 c.args.number) = c.signed.ensures ∙ ap (λ (w : Width). signed (bits_of w) c.new-low.result.value) c.new-low.ensures.width ∙ ap (signed 64) low in
    let zeros = sym c.is_by_zeros.ensures ∙ c.if-is_by_zeros.false in
    let fits : FitsSigned w128 c.signed.result = record { sfits = c.signed.type_inv } in
    c.constant_of-else-is_by_zeros.ensures ∙ ap (constant c.args.ty) (to_z-of_z fits ∙ n)
    ∙ sym (ap (λ (b : Bool). constant c.args.ty (extended b (wrapped 64 c.args.number))) zeros)
