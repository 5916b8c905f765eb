-- Worked examples: what the definitions of a run and of a splice compute on them.
use Rattle.std.specs.Prelude.{[], ◌∷◌, Some, None}
use Rattle.std.specs.Prelude.{◌≡◌}
use Rattle.std.proofs.Common.{refl}
use Rattle.clk_num.specs.Operations.{iadd, isub, sdiv, sdiv_trap, srem, divides_by_zero, ishl, clz, band, iconcat, low_half, high_half, operation, meaning, value_of}
use Rattle.clk_num.specs.Numbers.{signed, wrapped, fits, fits_signed, quotient, remainder, sum_below, with_bits, zeros_from_top, floored}
use Rattle.clk_num.specs.Rows.{row}
use Rattle.ir_semantics.specs.Values.{number_of, bytes_of, memory_read, memory_write, address_at}
use Rattle.ir_semantics.specs.Step.{written}
use Rattle.ir_core.specs.Signatures.{same_sig}
use Rattle.ir_semantics.specs.Names.{names}
use Rattle.clk_num.specs.declared.width.Width.TheVariants.{W128}
use Rattle.clk_num.specs.declared.op.Op.TheVariants.{Iadd, Band, Iconcat, Isplit}
use Rattle.ir_core.specs.declared.signatures.Ty.TheVariants.{I64, I128}
use Rattle.ir_core.specs.declared.signatures.Conv.TheVariants.{Fast}
use Rattle.ir_core.specs.declared.instructions.Arg.TheVariants.{Value}
use Rattle.ir_core.specs.Module.{Pure, PureImm, Direct, Plain, Call, Function, Module}
use Rattle.ir_semantics.specs.Machine.{Going, Returned}
use Rattle.ir_semantics.specs.Runs.{outcome}
use Rattle.ir_semantics.specs.Splice.{sides, splice_with, replace}
use Rattle.ir_semantics.specs.Canon.{canonical}
use Rattle.ir_examples.proofs.Written.{signature, declares, f, g, i64s, world, ends, line, jumps, returns, block, function}

-- The halves of an i128.
abbrev wide_add : Function
wide_add =
    function f (signature (I64 ∷ I64 ∷ []) (I64 ∷ I64 ∷ []) Fast) [] [] [] (I64 ∷ I64 ∷ I128 ∷ I128 ∷ I64 ∷ I64 ∷ []) (
    block 0 (0 ∷ 1 ∷ []) (
    line (Some I64) (2 ∷ []) (Plain (Pure Iconcat (0 ∷ 1 ∷ []))) ∷
    line (Some I128) (3 ∷ []) (Plain (PureImm Iadd 2 (value_of W128 1))) ∷
    line (Some I128) (4 ∷ 5 ∷ []) (Plain (Pure Isplit (3 ∷ []))) ∷
    returns (4 ∷ 5 ∷ []) ∷ []) ∷ [])

abbrev wide_band : Function
wide_band =
    function f (signature (I64 ∷ I64 ∷ []) (I64 ∷ I64 ∷ []) Fast) [] [] [] (I64 ∷ I64 ∷ I128 ∷ I128 ∷ I64 ∷ I64 ∷ []) (
    block 0 (0 ∷ 1 ∷ []) (
    line (Some I64) (2 ∷ []) (Plain (Pure Iconcat (0 ∷ 1 ∷ []))) ∷
    line (Some I128) (3 ∷ []) (Plain (PureImm Band 2 (value_of W128 18446744073709551615))) ∷
    line (Some I128) (4 ∷ 5 ∷ []) (Plain (Pure Isplit (3 ∷ []))) ∷
    returns (4 ∷ 5 ∷ []) ∷ []) ∷ [])

abbrev wide_less : Function
wide_less =
    function f (signature (I64 ∷ I64 ∷ []) (I64 ∷ I64 ∷ []) Fast) [] [] [] (I64 ∷ I64 ∷ I128 ∷ I128 ∷ I64 ∷ I64 ∷ []) (
    block 0 (0 ∷ 1 ∷ []) (
    line (Some I64) (2 ∷ []) (Plain (Pure Iconcat (0 ∷ 1 ∷ []))) ∷
    line (Some I128) (3 ∷ []) (Plain (PureImm Iadd 2 (value_of W128 340282366920938463463374607431768211455))) ∷
    line (Some I128) (4 ∷ 5 ∷ []) (Plain (Pure Isplit (3 ∷ []))) ∷
    returns (4 ∷ 5 ∷ []) ∷ []) ∷ [])

abbrev wide_add_module : Module
wide_add_module = wide_add ∷ []

wide_add_run : outcome wide_add_module f (i64s (18446744073709551615 ∷ 4 ∷ [])) (world [] []) 9 ≡ ends [] [] (Returned (i64s (0 ∷ 5 ∷ [])))
unfolding iadd isub sdiv sdiv_trap srem divides_by_zero ishl clz band iconcat low_half high_half operation meaning row signed wrapped fits fits_signed quotient remainder sum_below with_bits zeros_from_top floored number_of bytes_of memory_read memory_write address_at written same_sig names
wide_add_run = refl

abbrev wide_band_module : Module
wide_band_module = wide_band ∷ []

wide_band_run : outcome wide_band_module f (i64s (5 ∷ 4 ∷ [])) (world [] []) 9 ≡ ends [] [] (Returned (i64s (5 ∷ 0 ∷ [])))
unfolding iadd isub sdiv sdiv_trap srem divides_by_zero ishl clz band iconcat low_half high_half operation meaning row signed wrapped fits fits_signed quotient remainder sum_below with_bits zeros_from_top floored number_of bytes_of memory_read memory_write address_at written same_sig names
wide_band_run = refl

abbrev wide_less_module : Module
wide_less_module = wide_less ∷ []

wide_less_run : outcome wide_less_module f (i64s (5 ∷ 4 ∷ [])) (world [] []) 9 ≡ ends [] [] (Returned (i64s (4 ∷ 4 ∷ [])))
unfolding iadd isub sdiv sdiv_trap srem divides_by_zero ishl clz band iconcat low_half high_half operation meaning row signed wrapped fits fits_signed quotient remainder sum_below with_bits zeros_from_top floored number_of bytes_of memory_read memory_write address_at written same_sig names
wide_less_run = refl

-- The sum in a callee, and a call of it replaced.
abbrev wide_callee : Function
wide_callee = record wide_add { name = g }

abbrev wide_caller : Function
wide_caller =
    function f (signature (I64 ∷ I64 ∷ []) (I64 ∷ I64 ∷ []) Fast) [] (signature (I64 ∷ I64 ∷ []) (I64 ∷ I64 ∷ []) Fast ∷ []) (declares g 0 ∷ []) (I64 ∷ I64 ∷ I64 ∷ I64 ∷ []) (
    block 0 (0 ∷ 1 ∷ []) (line None (2 ∷ 3 ∷ []) (Call (Direct 0) (0 ∷ 1 ∷ [])) ∷ returns (2 ∷ 3 ∷ []) ∷ []) ∷ [])

abbrev wide_result : Function
wide_result =
    function f (signature (I64 ∷ I64 ∷ []) (I64 ∷ I64 ∷ []) Fast) [] (signature (I64 ∷ I64 ∷ []) (I64 ∷ I64 ∷ []) Fast ∷ []) (declares g 0 ∷ []) (I64 ∷ I64 ∷ I64 ∷ I64 ∷ I128 ∷ I128 ∷ I64 ∷ I64 ∷ I64 ∷ I64 ∷ []) (
    block 0 (0 ∷ 1 ∷ []) (jumps 1 (Value 0 ∷ Value 1 ∷ []) ∷ []) ∷
    block 1 (2 ∷ 3 ∷ []) (
    line (Some I64) (4 ∷ []) (Plain (Pure Iconcat (2 ∷ 3 ∷ []))) ∷
    line (Some I128) (5 ∷ []) (Plain (PureImm Iadd 4 (value_of W128 1))) ∷
    line (Some I128) (6 ∷ 7 ∷ []) (Plain (Pure Isplit (5 ∷ []))) ∷
    jumps 2 (Value 6 ∷ Value 7 ∷ []) ∷ []) ∷
    block 2 (8 ∷ 9 ∷ []) (returns (8 ∷ 9 ∷ []) ∷ []) ∷ [])

wide_text : canonical (splice_with sides wide_caller 0 0 wide_callee) ≡ wide_result
unfolding iadd isub sdiv sdiv_trap srem divides_by_zero ishl clz band iconcat low_half high_half operation meaning row signed wrapped fits fits_signed quotient remainder sum_below with_bits zeros_from_top floored number_of bytes_of memory_read memory_write address_at written same_sig names
wide_text = refl

abbrev wide_before : Module
wide_before = wide_callee ∷ wide_caller ∷ []

abbrev wide_after : Module
wide_after = replace (splice_with sides wide_caller 0 0 wide_callee) wide_before

wide_before_6 : outcome wide_before f (i64s (18446744073709551615 ∷ 4 ∷ [])) (world [] []) 6 ≡ ends [] [] (Returned (i64s (0 ∷ 5 ∷ [])))
unfolding iadd isub sdiv sdiv_trap srem divides_by_zero ishl clz band iconcat low_half high_half operation meaning row signed wrapped fits fits_signed quotient remainder sum_below with_bits zeros_from_top floored number_of bytes_of memory_read memory_write address_at written same_sig names
wide_before_6 = refl

wide_before_5 : outcome wide_before f (i64s (18446744073709551615 ∷ 4 ∷ [])) (world [] []) 5 ≡ ends [] [] (Going)
unfolding iadd isub sdiv sdiv_trap srem divides_by_zero ishl clz band iconcat low_half high_half operation meaning row signed wrapped fits fits_signed quotient remainder sum_below with_bits zeros_from_top floored number_of bytes_of memory_read memory_write address_at written same_sig names
wide_before_5 = refl

wide_after_6 : outcome wide_after f (i64s (18446744073709551615 ∷ 4 ∷ [])) (world [] []) 6 ≡ ends [] [] (Returned (i64s (0 ∷ 5 ∷ [])))
unfolding iadd isub sdiv sdiv_trap srem divides_by_zero ishl clz band iconcat low_half high_half operation meaning row signed wrapped fits fits_signed quotient remainder sum_below with_bits zeros_from_top floored number_of bytes_of memory_read memory_write address_at written same_sig names
wide_after_6 = refl

wide_after_5 : outcome wide_after f (i64s (18446744073709551615 ∷ 4 ∷ [])) (world [] []) 5 ≡ ends [] [] (Going)
unfolding iadd isub sdiv sdiv_trap srem divides_by_zero ishl clz band iconcat low_half high_half operation meaning row signed wrapped fits fits_signed quotient remainder sum_below with_bits zeros_from_top floored number_of bytes_of memory_read memory_write address_at written same_sig names
wide_after_5 = refl
