-- Worked examples: what the definitions of a run and of a splice compute on them.
use Rattle.std.specs.Prelude.{[], ◌∷◌, Some, None}
use Rattle.std.specs.Prelude.{◌≡◌}
use Rattle.std.proofs.Common.{refl}
use Rattle.clk_num.specs.Operations.{iadd, isub, sdiv, sdiv_trap, srem, divides_by_zero, ishl, clz, band, iconcat, low_half, high_half, operation, meaning, value_of}
use Rattle.clk_num.specs.Numbers.{signed, wrapped, fits, fits_signed, quotient, remainder, sum_below, with_bits, zeros_from_top, floored}
use Rattle.clk_num.specs.Rows.{row}
use Rattle.ir_semantics.specs.Values.{number_of, bytes_of, memory_read, memory_write, address_at}
use Rattle.ir_semantics.specs.Step.{written}
use Rattle.ir_core.specs.Signatures.{same_sig}
use Rattle.ir_semantics.specs.Names.{names}
use Rattle.clk_num.specs.declared.width.Width.TheVariants.{W64}
use Rattle.clk_num.specs.declared.op.Op.TheVariants.{Iadd}
use Rattle.clk_num.specs.declared.op.TrapCode.TheVariants.{HeapOob}
use Rattle.ir_core.specs.declared.signatures.Ty.TheVariants.{I64}
use Rattle.ir_core.specs.declared.signatures.Conv.TheVariants.{Fast, Tail}
use Rattle.ir_core.specs.declared.instructions.Arg.TheVariants.{Value}
use Rattle.ir_core.specs.Module.{PureImm, Direct, Indirect, Plain, Call, ReturnCall, Function, Module}
use Rattle.ir_semantics.specs.Machine.{Going, Returned, Trapped}
use Rattle.ir_semantics.specs.Runs.{outcome}
use Rattle.ir_semantics.specs.Splice.{sides, splice_with, replace}
use Rattle.ir_semantics.specs.Canon.{canonical}
use Rattle.ir_examples.proofs.Written.{signature, declares, f, g, t, i64s, world, ends, of_i64, line, jumps, returns, block, function}

-- An indirect tail call out of the callee.
abbrev indirect_tail_callee : Function
indirect_tail_callee =
    function t (signature (I64 ∷ I64 ∷ []) (I64 ∷ []) Tail) [] (of_i64 Tail ∷ []) [] (I64 ∷ I64 ∷ []) (
    block 0 (0 ∷ 1 ∷ []) (line None [] (ReturnCall (Indirect 0 0) (1 ∷ [])) ∷ []) ∷ [])

abbrev indirect_tail_caller : Function
indirect_tail_caller =
    function f (signature (I64 ∷ I64 ∷ []) (I64 ∷ []) Fast) [] (signature (I64 ∷ I64 ∷ []) (I64 ∷ []) Tail ∷ []) (declares t 0 ∷ []) (I64 ∷ I64 ∷ I64 ∷ []) (
    block 0 (0 ∷ 1 ∷ []) (line None (2 ∷ []) (Call (Direct 0) (0 ∷ 1 ∷ [])) ∷ returns (2 ∷ []) ∷ []) ∷ [])

abbrev indirect_tail_result : Function
indirect_tail_result =
    function f (signature (I64 ∷ I64 ∷ []) (I64 ∷ []) Fast) [] (signature (I64 ∷ I64 ∷ []) (I64 ∷ []) Tail ∷ of_i64 Tail ∷ []) (declares t 0 ∷ []) (I64 ∷ I64 ∷ I64 ∷ I64 ∷ I64 ∷ I64 ∷ []) (
    block 0 (0 ∷ 1 ∷ []) (jumps 1 (Value 0 ∷ Value 1 ∷ []) ∷ []) ∷
    block 1 (2 ∷ 3 ∷ []) (line None (4 ∷ []) (Call (Indirect 1 2) (3 ∷ [])) ∷ jumps 2 (Value 4 ∷ []) ∷ []) ∷
    block 2 (5 ∷ []) (returns (5 ∷ []) ∷ []) ∷ [])

indirect_tail_text : canonical (splice_with sides indirect_tail_caller 0 0 indirect_tail_callee) ≡ indirect_tail_result
unfolding iadd isub sdiv sdiv_trap srem divides_by_zero ishl clz band iconcat low_half high_half operation meaning row signed wrapped fits fits_signed quotient remainder sum_below with_bits zeros_from_top floored number_of bytes_of memory_read memory_write address_at written same_sig names
indirect_tail_text = refl

-- The function whose address is called: the names in order are %f, %g, %t.
abbrev indirect_tail_target : Function
indirect_tail_target =
    function g (of_i64 Tail) [] [] [] (I64 ∷ I64 ∷ []) (
    block 0 (0 ∷ []) (line (Some I64) (1 ∷ []) (Plain (PureImm Iadd 0 (value_of W64 1))) ∷ returns (1 ∷ []) ∷ []) ∷ [])

abbrev indirect_tail_before : Module
indirect_tail_before = indirect_tail_callee ∷ indirect_tail_target ∷ indirect_tail_caller ∷ []

abbrev indirect_tail_after : Module
indirect_tail_after = replace (splice_with sides indirect_tail_caller 0 0 indirect_tail_callee) indirect_tail_before

indirect_tail_before_5 : outcome indirect_tail_before f (i64s (4294967312 ∷ 5 ∷ [])) (world [] []) 5 ≡ ends [] [] (Returned (i64s (6 ∷ [])))
unfolding iadd isub sdiv sdiv_trap srem divides_by_zero ishl clz band iconcat low_half high_half operation meaning row signed wrapped fits fits_signed quotient remainder sum_below with_bits zeros_from_top floored number_of bytes_of memory_read memory_write address_at written same_sig names
indirect_tail_before_5 = refl

indirect_tail_before_4 : outcome indirect_tail_before f (i64s (4294967312 ∷ 5 ∷ [])) (world [] []) 4 ≡ ends [] [] (Going)
unfolding iadd isub sdiv sdiv_trap srem divides_by_zero ishl clz band iconcat low_half high_half operation meaning row signed wrapped fits fits_signed quotient remainder sum_below with_bits zeros_from_top floored number_of bytes_of memory_read memory_write address_at written same_sig names
indirect_tail_before_4 = refl

indirect_tail_after_6 : outcome indirect_tail_after f (i64s (4294967312 ∷ 5 ∷ [])) (world [] []) 6 ≡ ends [] [] (Returned (i64s (6 ∷ [])))
unfolding iadd isub sdiv sdiv_trap srem divides_by_zero ishl clz band iconcat low_half high_half operation meaning row signed wrapped fits fits_signed quotient remainder sum_below with_bits zeros_from_top floored number_of bytes_of memory_read memory_write address_at written same_sig names
indirect_tail_after_6 = refl

indirect_tail_after_5 : outcome indirect_tail_after f (i64s (4294967312 ∷ 5 ∷ [])) (world [] []) 5 ≡ ends [] [] (Going)
unfolding iadd isub sdiv sdiv_trap srem divides_by_zero ishl clz band iconcat low_half high_half operation meaning row signed wrapped fits fits_signed quotient remainder sum_below with_bits zeros_from_top floored number_of bytes_of memory_read memory_write address_at written same_sig names
indirect_tail_after_5 = refl

-- the address of %f, whose signature is another, and one between two names
indirect_tail_other_before : outcome indirect_tail_before f (i64s (4294967296 ∷ 5 ∷ [])) (world [] []) 2 ≡ ends [] [] (Trapped HeapOob)
unfolding iadd isub sdiv sdiv_trap srem divides_by_zero ishl clz band iconcat low_half high_half operation meaning row signed wrapped fits fits_signed quotient remainder sum_below with_bits zeros_from_top floored number_of bytes_of memory_read memory_write address_at written same_sig names
indirect_tail_other_before = refl

indirect_tail_other_after : outcome indirect_tail_after f (i64s (4294967296 ∷ 5 ∷ [])) (world [] []) 2 ≡ ends [] [] (Trapped HeapOob)
unfolding iadd isub sdiv sdiv_trap srem divides_by_zero ishl clz band iconcat low_half high_half operation meaning row signed wrapped fits fits_signed quotient remainder sum_below with_bits zeros_from_top floored number_of bytes_of memory_read memory_write address_at written same_sig names
indirect_tail_other_after = refl

indirect_tail_between_before : outcome indirect_tail_before f (i64s (4294967313 ∷ 5 ∷ [])) (world [] []) 2 ≡ ends [] [] (Trapped HeapOob)
unfolding iadd isub sdiv sdiv_trap srem divides_by_zero ishl clz band iconcat low_half high_half operation meaning row signed wrapped fits fits_signed quotient remainder sum_below with_bits zeros_from_top floored number_of bytes_of memory_read memory_write address_at written same_sig names
indirect_tail_between_before = refl

indirect_tail_between_after : outcome indirect_tail_after f (i64s (4294967313 ∷ 5 ∷ [])) (world [] []) 2 ≡ ends [] [] (Trapped HeapOob)
unfolding iadd isub sdiv sdiv_trap srem divides_by_zero ishl clz band iconcat low_half high_half operation meaning row signed wrapped fits fits_signed quotient remainder sum_below with_bits zeros_from_top floored number_of bytes_of memory_read memory_write address_at written same_sig names
indirect_tail_between_after = refl
