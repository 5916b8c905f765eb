use Rattle.std.proofs.Common.{◌≡◌, ◌∙◌, ◌<◌, ◌^◌, rules, subst, sym}
use Rattle.clk_num.specs.Width.{bits_of}
use Rattle.clk_num.specs.Views.{data_of}
use Rattle.clk_num.proofs.ArithmeticLemmas.{iadd_is, isub_is, imul_is}
use Rattle.clk_num.proofs.BitwiseLemmas.{band_is, bor_is, bxor_is}
use Rattle.interp.proofs.SameType.{sum, difference, product, both, either, one_of_both}
use Rattle.interp.proofs.common_ops.eval_common.Goals as goal

pub returns-in-Iadd : goal.returns-in-Iadd
returns-in-Iadd c =
    let same : bits_of c.args.x.width ≡ bits_of c.args.y.width = search rules in
    sum c.args.op (data_of c.args.x) (data_of c.args.y) (data_of c.new.result) c.in-Iadd.is same c.new.ensures.width (c.new.ensures.value ∙ iadd_is _ _ _)

pub returns-in-Isub : goal.returns-in-Isub
returns-in-Isub c =
    let same : bits_of c.args.x.width ≡ bits_of c.args.y.width = search rules in
    let below : c.args.y.value < 2 ^ bits_of c.args.x.width = subst (λ n. c.args.y.value < 2 ^ n) (sym same) c.args.y.in_range in
    difference c.args.op (data_of c.args.x) (data_of c.args.y) (data_of c.new-in-Isub.result) c.in-Isub.is same c.new-in-Isub.ensures.width (c.new-in-Isub.ensures.value ∙ isub_is _ _ _ below)

pub returns-in-Imul : goal.returns-in-Imul
returns-in-Imul c =
    let same : bits_of c.args.x.width ≡ bits_of c.args.y.width = search rules in
    product c.args.op (data_of c.args.x) (data_of c.args.y) (data_of c.new-in-Imul.result) c.in-Imul.is same c.new-in-Imul.ensures.width (c.new-in-Imul.ensures.value ∙ imul_is _ _ _)

pub returns-in-Band : goal.returns-in-Band
returns-in-Band c =
    let same : bits_of c.args.x.width ≡ bits_of c.args.y.width = search rules in
    both c.args.op (data_of c.args.x) (data_of c.args.y) (data_of c.new-in-Band.result) c.in-Band.is same c.new-in-Band.ensures.width (c.new-in-Band.ensures.value ∙ band_is _ _ _)

pub returns-in-Bor : goal.returns-in-Bor
returns-in-Bor c =
    let same : bits_of c.args.x.width ≡ bits_of c.args.y.width = search rules in
    either c.args.op (data_of c.args.x) (data_of c.args.y) (data_of c.new-in-Bor.result) c.in-Bor.is same c.new-in-Bor.ensures.width (c.new-in-Bor.ensures.value ∙ bor_is _ _ _)

pub returns-in-Bxor : goal.returns-in-Bxor
returns-in-Bxor c =
    let same : bits_of c.args.x.width ≡ bits_of c.args.y.width = search rules in
    one_of_both c.args.op (data_of c.args.x) (data_of c.args.y) (data_of c.new-in-Bxor.result) c.in-Bxor.is same c.new-in-Bxor.ensures.width (c.new-in-Bxor.ensures.value ∙ bxor_is _ _ _)
