use Rattle.std.proofs.Common.{◌∙◌, ◌≡◌, ◌-◌, ◌^◌}
use Rattle.clk_num.specs.Width.{bits_of}
use Rattle.clk_num.proofs.ArithmeticLemmas.{value_is}
use Rattle.clk_num.proofs.DivisionLemmas.{trapped, passed, signed_by_zero, least_by_minus_one, sdiv_passes, apart_by_x, apart_by_y, divisor_not_zero, quotient_fits, sdiv_is}
use Rattle.clk_num.proofs.division.sdiv.Goals as goal
use Rattle.clk_num.proofs.division.sdiv.Goals.{else-y-greatest-via-then-y-greatest+else-x-greatest_signed, else-y-greatest-via-else-y-greatest}

pub returns-then-y-eq0 : goal.returns-then-y-eq0
returns-then-y-eq0 c = trapped _ _ _ (signed_by_zero _ _ _ c.if-y-eq0.true)

pub returns-then-x-greatest_signed : goal.returns-then-x-greatest_signed
returns-then-x-greatest_signed c =
    trapped _ _ _ (least_by_minus_one _ _ _ _ _ c.if-y-eq0.false c.greatest.ensures c.greatest_signed.ensures c.if-y-greatest.true c.if-x-greatest_signed.true)

pub nonzero_div-signed : goal.nonzero_div-signed
nonzero_div-signed c =
    let apart : (c.args.y.value ≡ 2 ^ bits_of c.args.x.width - 1) × (c.args.x.value ≡ 2 ^ (bits_of c.args.x.width - 1)) → ⊥ =
    elim c.else-y-greatest.branch [
      | else-y-greatest-via-then-y-greatest+else-x-greatest_signed w ↦
          apart_by_x c.args.x.width c.args.x.value c.args.y.value w.greatest_signed.result w.greatest_signed.ensures w.if-x-greatest_signed.false
      | else-y-greatest-via-else-y-greatest w ↦
          apart_by_y c.args.x.width c.args.x.value c.args.y.value c.greatest.result c.greatest.ensures w.if-y-greatest.false
    ] in (
      divisor_not_zero c.args.x.width c.args.y.width c.args.x.value c.args.y.value c.signed.result c.signed-else-y-greatest.result c.requires
          c.signed.type_inv c.signed-else-y-greatest.type_inv c.signed.ensures c.signed-else-y-greatest.ensures c.args.x.in_range c.args.y.in_range c.if-y-eq0.false,
      quotient_fits c.args.x.width c.args.y.width c.args.x.value c.args.y.value c.signed.result c.signed-else-y-greatest.result c.requires
          c.signed.type_inv c.signed-else-y-greatest.type_inv c.signed.ensures c.signed-else-y-greatest.ensures c.args.x.in_range c.args.y.in_range c.if-y-eq0.false apart,
    )

pub returns-else-y-greatest : goal.returns-else-y-greatest
returns-else-y-greatest c =
    let apart : (c.args.y.value ≡ 2 ^ bits_of c.args.x.width - 1) × (c.args.x.value ≡ 2 ^ (bits_of c.args.x.width - 1)) → ⊥ =
    elim c.else-y-greatest.branch [
      | else-y-greatest-via-then-y-greatest+else-x-greatest_signed w ↦
          apart_by_x c.args.x.width c.args.x.value c.args.y.value w.greatest_signed.result w.greatest_signed.ensures w.if-x-greatest_signed.false
      | else-y-greatest-via-else-y-greatest w ↦
          apart_by_y c.args.x.width c.args.x.value c.args.y.value c.greatest.result c.greatest.ensures w.if-y-greatest.false
    ] in
    passed _ _ _ (sdiv_passes _ _ _ c.if-y-eq0.false apart) (value_is _ _ _ _ c.wrap.ensures.width (c.wrap.ensures.value
    ∙ sdiv_is c.args.x.width c.args.y.width c.args.x.value c.args.y.value c.signed.result c.signed-else-y-greatest.result c.requires
    c.signed.type_inv c.signed-else-y-greatest.type_inv c.signed.ensures c.signed-else-y-greatest.ensures c.args.x.in_range c.args.y.in_range c.if-y-eq0.false apart))
