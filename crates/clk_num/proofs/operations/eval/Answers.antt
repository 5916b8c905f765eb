use Rattle.std.proofs.Common.{◌∙◌, ap, sym, subst, arith, List}
use Rattle.std.proofs.lemmas.List.{length-map}
use Rattle.std.proofs.lemmas.Bool.Decides.{nat_tests}
use Rattle.clk_num.specs.declared.bits.Bits.{Bits}
use Rattle.clk_num.specs.declared.op.Op.TheVariants.{Select}
use Rattle.clk_num.specs.Rows.{Fits}
use Rattle.clk_num.specs.Operations.{meaning, widths}
use Rattle.clk_num.specs.Views.{data_of_all, data_of}
use Rattle.clk_num.proofs.RowLemmas.{list_of_one, list_of_two, list_of_three, operation_is, ternary_row, count_of, means, single}
use Rattle.clk_num.proofs.operations.eval.Goals as goal
use Rattle.clk_num.proofs.operations.eval.Goals.{in_default-via-then-args-lt1, in_default-via-else-args-lt1+else-args-lt2+else-args-lt3+else-args-lt4}

pub returns-in-len1 : goal.returns-in-len1
returns-in-len1 c =
    let e = list_of_one _ _ c.in-len1.len_at_least c.in-len1.len_below c.x-item.is in
    c.unary.ensures ∙ ap (λ (xs : List Bits). meaning c.args.op (data_of_all xs)) (sym e) ∙ sym (operation_is _ _ c.requires)

pub returns-in-len2 : goal.returns-in-len2
returns-in-len2 c =
    let e = list_of_two _ _ _ c.in-len2.len_at_least c.in-len2.len_below c.x-item-then-args-lt3.is c.y-item.is in
    c.binary.ensures ∙ ap (λ (xs : List Bits). meaning c.args.op (data_of_all xs)) (sym e) ∙ sym (operation_is _ _ c.requires)

pub select-requires : goal.select-requires
select-requires c =
    let e = list_of_three _ _ _ _ c.in-len3.len_at_least c.in-len3.len_below c.condition-item.is c.x-item-then-args-lt4.is c.y-item-then-args-lt4.is in
    (ternary_row c.args.op _ _ _ (subst (λ (xs : List Bits). Fits c.args.op (widths (data_of_all xs))) e c.requires)).1

pub returns-in-len3 : goal.returns-in-len3
unfolding meaning
returns-in-len3 c =
    let e = list_of_three _ _ _ _ c.in-len3.len_at_least c.in-len3.len_below c.condition-item.is c.x-item-then-args-lt4.is c.y-item-then-args-lt4.is in
    let known = (ternary_row c.args.op _ _ _ (subst (λ (xs : List Bits). Fits c.args.op (widths (data_of_all xs))) e c.requires)).0 in
    means _ Select _ _ known (single _ _ c.select.ensures)
    ∙ ap (λ (xs : List Bits). meaning c.args.op (data_of_all xs)) (sym e) ∙ sym (operation_is _ _ c.requires)

pub unreachable-requires : goal.unreachable-requires
unreachable-requires c =
    let count = count_of _ _ c.requires in
    let mapped = length-map c.args.args.now data_of in
    elim c.in_default.branch [
      | in_default-via-then-args-lt1 w ↦ grind (arith, nat_tests)
      | in_default-via-else-args-lt1+else-args-lt2+else-args-lt3+else-args-lt4 w ↦ grind (arith, nat_tests)
    ]
