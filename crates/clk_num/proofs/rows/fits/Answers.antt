use Rattle.std.proofs.Common.{◌∙◌, ap, sym, arith, List}
use Rattle.std.specs.Prelude.{is_some}
use Rattle.std.proofs.lemmas.List.{length-map}
use Rattle.std.proofs.lemmas.Bool.Decides.{nat_tests}
use Rattle.clk_num.specs.declared.bits.Bits.{Bits}
use Rattle.clk_num.specs.Rows.{row}
use Rattle.clk_num.specs.Operations.{widths}
use Rattle.clk_num.specs.Views.{data_of_all, data_of}
use Rattle.clk_num.proofs.RowLemmas.{list_of_one, list_of_two, list_of_three, count_of, without_row}
use Rattle.clk_num.proofs.rows.fits.Goals as goal

pub returns-in-len1 : goal.returns-in-len1
returns-in-len1 c =
    let e = list_of_one _ _ c.in-len1.len_at_least c.in-len1.len_below c.x-item.is in
    c.fits_one.ensures ∙ ap (λ (xs : List Bits). is_some (row c.args.op (widths (data_of_all xs)))) (sym e)

pub returns-in-len2 : goal.returns-in-len2
returns-in-len2 c =
    let e = list_of_two _ _ _ c.in-len2.len_at_least c.in-len2.len_below c.x-item-then-args-lt3.is c.y-item.is in
    c.fits_two.ensures ∙ ap (λ (xs : List Bits). is_some (row c.args.op (widths (data_of_all xs)))) (sym e)

pub returns-in-len3 : goal.returns-in-len3
returns-in-len3 c =
    let e = list_of_three _ _ _ _ c.in-len3.len_at_least c.in-len3.len_below c.condition-item.is c.x-item-then-args-lt4.is c.y-item-then-args-lt4.is in
    c.fits_three.ensures ∙ ap (λ (xs : List Bits). is_some (row c.args.op (widths (data_of_all xs)))) (sym e)

pub returns-in_default : goal.returns-in_default
returns-in_default c = without_row _ _ (λ h.
    let count = count_of _ _ h in
    let mapped = length-map c.args.args.now data_of in
    grind (arith, nat_tests))

pub returns-in_default-2 : goal.returns-in_default-2
returns-in_default-2 c = without_row _ _ (λ h.
    let count = count_of _ _ h in
    let mapped = length-map c.args.args.now data_of in
    grind (arith, nat_tests))
