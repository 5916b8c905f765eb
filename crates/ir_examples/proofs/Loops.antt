-- Worked examples: what the definitions of a run and of a splice compute on them.
use Rattle.std.specs.Prelude.{pos, [], ◌∷◌, Some, None}
use Rattle.std.specs.Prelude.{◌≡◌}
use Rattle.std.proofs.Common.{refl}
use Rattle.clk_num.specs.Operations.{iadd, isub, sdiv, sdiv_trap, srem, divides_by_zero, ishl, clz, band, iconcat, low_half, high_half, operation, meaning, value_of}
use Rattle.clk_num.specs.Numbers.{signed, wrapped, fits, fits_signed, quotient, remainder, sum_below, with_bits, zeros_from_top, floored}
use Rattle.clk_num.specs.Rows.{row}
use Rattle.ir_semantics.specs.Values.{number_of, bytes_of, memory_read, memory_write, address_at}
use Rattle.ir_semantics.specs.Step.{written}
use Rattle.ir_core.specs.Signatures.{same_sig}
use Rattle.ir_semantics.specs.Names.{names}
use Rattle.clk_num.specs.declared.width.Width.TheVariants.{W32, W64}
use Rattle.clk_num.specs.declared.op.Op.TheVariants.{Iadd}
use Rattle.ir_core.specs.declared.signatures.Ty.TheVariants.{I32, I64}
use Rattle.ir_core.specs.declared.signatures.Conv.TheVariants.{Fast}
use Rattle.ir_core.specs.declared.instructions.Arg.TheVariants.{Value}
use Rattle.ir_core.specs.Module.{Const, PureImm, StackLoad, StackStore, Brif, Direct, Plain, Branches, Call, Function, Module}
use Rattle.ir_semantics.specs.Machine.{Going, Returned, Unwritten}
use Rattle.ir_semantics.specs.Runs.{outcome}
use Rattle.ir_semantics.specs.Splice.{sides, splice_with, replace}
use Rattle.ir_semantics.specs.Canon.{canonical}
use Rattle.ir_examples.proofs.Written.{signature, slot, declares, f, g, i64s, world, ends, of_i64, line, to, jumps, returns, block, function}

-- A loop and two returns.
abbrev loop_callee : Function
loop_callee =
    function g (signature (I32 ∷ []) (I32 ∷ []) Fast) [] [] [] (I32 ∷ I32 ∷ I32 ∷ I32 ∷ I32 ∷ []) (
    block 0 (0 ∷ []) (line (Some I32) [] (Branches (Brif 0 (to 1 (Value 0 ∷ [])) (to 2 []))) ∷ []) ∷
    block 1 (1 ∷ []) (
    line (Some I32) (2 ∷ []) (Plain (PureImm Iadd 1 (value_of W32 4294967295))) ∷
    line (Some I32) [] (Branches (Brif 2 (to 1 (Value 2 ∷ [])) (to 3 (Value 2 ∷ [])))) ∷ []) ∷
    block 2 [] (line None (3 ∷ []) (Plain (Const (value_of W32 7))) ∷ returns (3 ∷ []) ∷ []) ∷
    block 3 (4 ∷ []) (returns (4 ∷ []) ∷ []) ∷ [])

abbrev loop_caller : Function
loop_caller =
    function f (signature (I32 ∷ []) (I32 ∷ []) Fast) [] (signature (I32 ∷ []) (I32 ∷ []) Fast ∷ []) (declares g 0 ∷ []) (I32 ∷ I32 ∷ []) (
    block 0 (0 ∷ []) (line None (1 ∷ []) (Call (Direct 0) (0 ∷ [])) ∷ returns (1 ∷ []) ∷ []) ∷ [])

abbrev loop_result : Function
loop_result =
    function f (signature (I32 ∷ []) (I32 ∷ []) Fast) [] (signature (I32 ∷ []) (I32 ∷ []) Fast ∷ []) (declares g 0 ∷ []) (I32 ∷ I32 ∷ I32 ∷ I32 ∷ I32 ∷ I32 ∷ I32 ∷ []) (
    block 0 (0 ∷ []) (jumps 1 (Value 0 ∷ []) ∷ []) ∷
    block 1 (1 ∷ []) (line (Some I32) [] (Branches (Brif 1 (to 2 (Value 1 ∷ [])) (to 3 []))) ∷ []) ∷
    block 2 (2 ∷ []) (
    line (Some I32) (3 ∷ []) (Plain (PureImm Iadd 2 (value_of W32 4294967295))) ∷
    line (Some I32) [] (Branches (Brif 3 (to 2 (Value 3 ∷ [])) (to 4 (Value 3 ∷ [])))) ∷ []) ∷
    block 3 [] (line None (4 ∷ []) (Plain (Const (value_of W32 7))) ∷ jumps 5 (Value 4 ∷ []) ∷ []) ∷
    block 4 (5 ∷ []) (jumps 5 (Value 5 ∷ []) ∷ []) ∷
    block 5 (6 ∷ []) (returns (6 ∷ []) ∷ []) ∷ [])

loop_text : canonical (splice_with sides loop_caller 0 0 loop_callee) ≡ loop_result
unfolding iadd isub sdiv sdiv_trap srem divides_by_zero ishl clz band iconcat low_half high_half operation meaning row signed wrapped fits fits_signed quotient remainder sum_below with_bits zeros_from_top floored number_of bytes_of memory_read memory_write address_at written same_sig names
loop_text = refl

abbrev loop_before : Module
loop_before = loop_callee ∷ loop_caller ∷ []

abbrev loop_after : Module
loop_after = replace (splice_with sides loop_caller 0 0 loop_callee) loop_before

-- with 0 the loop is not entered, with 2 it is gone through twice; as many steps before as after
loop_before_0_5 : outcome loop_before f (value_of W32 0 ∷ []) (world [] []) 5 ≡ ends [] [] (Returned (value_of W32 7 ∷ []))
unfolding iadd isub sdiv sdiv_trap srem divides_by_zero ishl clz band iconcat low_half high_half operation meaning row signed wrapped fits fits_signed quotient remainder sum_below with_bits zeros_from_top floored number_of bytes_of memory_read memory_write address_at written same_sig names
loop_before_0_5 = refl

loop_before_0_4 : outcome loop_before f (value_of W32 0 ∷ []) (world [] []) 4 ≡ ends [] [] (Going)
unfolding iadd isub sdiv sdiv_trap srem divides_by_zero ishl clz band iconcat low_half high_half operation meaning row signed wrapped fits fits_signed quotient remainder sum_below with_bits zeros_from_top floored number_of bytes_of memory_read memory_write address_at written same_sig names
loop_before_0_4 = refl

loop_after_0_5 : outcome loop_after f (value_of W32 0 ∷ []) (world [] []) 5 ≡ ends [] [] (Returned (value_of W32 7 ∷ []))
unfolding iadd isub sdiv sdiv_trap srem divides_by_zero ishl clz band iconcat low_half high_half operation meaning row signed wrapped fits fits_signed quotient remainder sum_below with_bits zeros_from_top floored number_of bytes_of memory_read memory_write address_at written same_sig names
loop_after_0_5 = refl

loop_after_0_4 : outcome loop_after f (value_of W32 0 ∷ []) (world [] []) 4 ≡ ends [] [] (Going)
unfolding iadd isub sdiv sdiv_trap srem divides_by_zero ishl clz band iconcat low_half high_half operation meaning row signed wrapped fits fits_signed quotient remainder sum_below with_bits zeros_from_top floored number_of bytes_of memory_read memory_write address_at written same_sig names
loop_after_0_4 = refl

loop_before_2_8 : outcome loop_before f (value_of W32 2 ∷ []) (world [] []) 8 ≡ ends [] [] (Returned (value_of W32 0 ∷ []))
unfolding iadd isub sdiv sdiv_trap srem divides_by_zero ishl clz band iconcat low_half high_half operation meaning row signed wrapped fits fits_signed quotient remainder sum_below with_bits zeros_from_top floored number_of bytes_of memory_read memory_write address_at written same_sig names
loop_before_2_8 = refl

loop_before_2_7 : outcome loop_before f (value_of W32 2 ∷ []) (world [] []) 7 ≡ ends [] [] (Going)
unfolding iadd isub sdiv sdiv_trap srem divides_by_zero ishl clz band iconcat low_half high_half operation meaning row signed wrapped fits fits_signed quotient remainder sum_below with_bits zeros_from_top floored number_of bytes_of memory_read memory_write address_at written same_sig names
loop_before_2_7 = refl

loop_after_2_8 : outcome loop_after f (value_of W32 2 ∷ []) (world [] []) 8 ≡ ends [] [] (Returned (value_of W32 0 ∷ []))
unfolding iadd isub sdiv sdiv_trap srem divides_by_zero ishl clz band iconcat low_half high_half operation meaning row signed wrapped fits fits_signed quotient remainder sum_below with_bits zeros_from_top floored number_of bytes_of memory_read memory_write address_at written same_sig names
loop_after_2_8 = refl

loop_after_2_7 : outcome loop_after f (value_of W32 2 ∷ []) (world [] []) 7 ≡ ends [] [] (Going)
unfolding iadd isub sdiv sdiv_trap srem divides_by_zero ishl clz band iconcat low_half high_half operation meaning row signed wrapped fits fits_signed quotient remainder sum_below with_bits zeros_from_top floored number_of bytes_of memory_read memory_write address_at written same_sig names
loop_after_2_7 = refl

-- A slot in a loop.
abbrev slots_callee : Function
slots_callee =
    function g (of_i64 Fast) (slot 8 ∷ []) [] [] (I64 ∷ I64 ∷ []) (
    block 0 (0 ∷ []) (
    line (Some I64) [] (Plain (StackStore 0 0 (pos 0))) ∷
    line None (1 ∷ []) (Plain (StackLoad I64 0 (pos 0))) ∷
    returns (1 ∷ []) ∷ []) ∷ [])

abbrev slots_exchanged : Function
slots_exchanged =
    function g (of_i64 Fast) (slot 8 ∷ []) [] [] (I64 ∷ I64 ∷ []) (
    block 0 (0 ∷ []) (
    line None (1 ∷ []) (Plain (StackLoad I64 0 (pos 0))) ∷
    line (Some I64) [] (Plain (StackStore 0 0 (pos 0))) ∷
    returns (1 ∷ []) ∷ []) ∷ [])

abbrev slots_caller : Function
slots_caller =
    function f (signature [] (I64 ∷ []) Fast) [] (of_i64 Fast ∷ []) (declares g 0 ∷ []) (I64 ∷ I64 ∷ I64 ∷ I64 ∷ I64 ∷ []) (
    block 0 [] (line None (0 ∷ []) (Plain (Const (value_of W64 2))) ∷ jumps 1 (Value 0 ∷ []) ∷ []) ∷
    block 1 (1 ∷ []) (
    line None (2 ∷ []) (Call (Direct 0) (1 ∷ [])) ∷
    line (Some I64) (3 ∷ []) (Plain (PureImm Iadd 2 (value_of W64 18446744073709551615))) ∷
    line (Some I64) [] (Branches (Brif 3 (to 1 (Value 3 ∷ [])) (to 2 (Value 2 ∷ [])))) ∷ []) ∷
    block 2 (4 ∷ []) (returns (4 ∷ []) ∷ []) ∷ [])

abbrev slots_before : Module
slots_before = slots_callee ∷ slots_caller ∷ []

abbrev slots_after : Module
slots_after = replace (splice_with sides slots_caller 1 0 slots_callee) slots_before

abbrev slots_unwritten : Module
slots_unwritten = slots_exchanged ∷ slots_caller ∷ []

slots_before_15 : outcome slots_before f (i64s []) (world [] []) 15 ≡ ends [] [] (Returned (i64s (1 ∷ [])))
unfolding iadd isub sdiv sdiv_trap srem divides_by_zero ishl clz band iconcat low_half high_half operation meaning row signed wrapped fits fits_signed quotient remainder sum_below with_bits zeros_from_top floored number_of bytes_of memory_read memory_write address_at written same_sig names
slots_before_15 = refl

slots_before_14 : outcome slots_before f (i64s []) (world [] []) 14 ≡ ends [] [] (Going)
unfolding iadd isub sdiv sdiv_trap srem divides_by_zero ishl clz band iconcat low_half high_half operation meaning row signed wrapped fits fits_signed quotient remainder sum_below with_bits zeros_from_top floored number_of bytes_of memory_read memory_write address_at written same_sig names
slots_before_14 = refl

slots_after_15 : outcome slots_after f (i64s []) (world [] []) 15 ≡ ends [] [] (Returned (i64s (1 ∷ [])))
unfolding iadd isub sdiv sdiv_trap srem divides_by_zero ishl clz band iconcat low_half high_half operation meaning row signed wrapped fits fits_signed quotient remainder sum_below with_bits zeros_from_top floored number_of bytes_of memory_read memory_write address_at written same_sig names
slots_after_15 = refl

slots_after_14 : outcome slots_after f (i64s []) (world [] []) 14 ≡ ends [] [] (Going)
unfolding iadd isub sdiv sdiv_trap srem divides_by_zero ishl clz band iconcat low_half high_half operation meaning row signed wrapped fits fits_signed quotient remainder sum_below with_bits zeros_from_top floored number_of bytes_of memory_read memory_write address_at written same_sig names
slots_after_14 = refl

slots_unwritten_ends : outcome slots_unwritten f (i64s []) (world [] []) 4 ≡ ends [] [] (Unwritten)
unfolding iadd isub sdiv sdiv_trap srem divides_by_zero ishl clz band iconcat low_half high_half operation meaning row signed wrapped fits fits_signed quotient remainder sum_below with_bits zeros_from_top floored number_of bytes_of memory_read memory_write address_at written same_sig names
slots_unwritten_ends = refl
