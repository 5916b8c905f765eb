use Rattle.std.proofs.Common.{◌∙◌, ◌<◌, ◌^◌}
use Rattle.clk_num.proofs.ArithmeticLemmas.{value_is}
use Rattle.clk_num.proofs.BitwiseLemmas.{swapped_8, swapped_16, swapped_32, swapped_64, swapped_128}
use Rattle.clk_num.proofs.bitwise.bswap.Goals as goal
use Rattle.clk_num.proofs.bitwise.bswap.Goals.{in-W8, in-W16, in-W32, in-W64, in-W128}

pub returns : goal.returns
returns c =
    value_is _ _ _ _ c.new.ensures.width (c.new.ensures.value ∙ elim c.match-x.branch [
      | in-W8 w ↦ swapped_8 _ _ _ w.in-W8.is c.args.x.in_range w.value-is
      | in-W16 w ↦
          let small : c.match-x.value < 2 ^ 16 = rw (w.value-is ∙ w.from-value.ensures) w.swap_bytes.type_inv in
          swapped_16 _ _ _ w.in-W16.is (w.value-is ∙ w.from-value.ensures ∙ w.swap_bytes.ensures) small
      | in-W32 w ↦
          let small : c.match-x.value < 2 ^ 32 = rw (w.value-is ∙ w.from-value-in-W32.ensures) w.swap_bytes-in-W32.type_inv in
          swapped_32 _ _ _ w.in-W32.is (w.value-is ∙ w.from-value-in-W32.ensures ∙ w.swap_bytes-in-W32.ensures) small
      | in-W64 w ↦
          let small : c.match-x.value < 2 ^ 64 = rw (w.value-is ∙ w.from-value-in-W64.ensures) w.swap_bytes-in-W64.type_inv in
          swapped_64 _ _ _ w.in-W64.is (w.value-is ∙ w.from-value-in-W64.ensures ∙ w.swap_bytes-in-W64.ensures) small
      | in-W128 w ↦
          let small : c.match-x.value < 2 ^ 128 = rw w.value-is w.swap_bytes-value.type_inv in
          swapped_128 _ _ _ w.in-W128.is (w.value-is ∙ w.swap_bytes-value.ensures) small
    ])
