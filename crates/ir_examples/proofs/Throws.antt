-- Worked examples: what the definitions of a run and of a splice compute on them.
use Rattle.std.specs.Prelude.{[], ◌∷◌, Some, None}
use Rattle.std.specs.Prelude.{◌≡◌}
use Rattle.std.proofs.Common.{refl}
use Rattle.clk_num.specs.Operations.{iadd, isub, sdiv, sdiv_trap, srem, divides_by_zero, ishl, clz, band, iconcat, low_half, high_half, operation, meaning}
use Rattle.clk_num.specs.Numbers.{signed, wrapped, fits, fits_signed, quotient, remainder, sum_below, with_bits, zeros_from_top, floored}
use Rattle.clk_num.specs.Rows.{row}
use Rattle.ir_semantics.specs.Values.{number_of, bytes_of, memory_read, memory_write, address_at}
use Rattle.ir_semantics.specs.Step.{written}
use Rattle.ir_core.specs.Signatures.{same_sig}
use Rattle.ir_semantics.specs.Names.{names}
use Rattle.ir_core.specs.declared.signatures.Ty.TheVariants.{I64}
use Rattle.ir_core.specs.declared.signatures.Conv.TheVariants.{Fast}
use Rattle.ir_core.specs.declared.instructions.Arg.TheVariants.{Value, Ret, Exn}
use Rattle.ir_core.specs.Module.{TryCall, Function, Module, TryDirect}
use Rattle.ir_semantics.specs.Machine.{Host, Caught, Throws, Returned, Threw}
use Rattle.ir_semantics.specs.Runs.{outcome}
use Rattle.ir_semantics.specs.Splice.{sides, splice_with, replace}
use Rattle.ir_semantics.specs.Canon.{canonical}
use Rattle.ir_examples.proofs.Written.{declares, f, g, h, i64s, world, ends, of_i64, line, to, caught, jumps, returns, block, function, forwards}

-- A throw through a plain call of the callee.
abbrev throw_callee : Function
throw_callee = forwards g h

abbrev throw_caller : Function
throw_caller =
    function f (of_i64 Fast) [] (of_i64 Fast ∷ []) (declares g 0 ∷ []) (I64 ∷ I64 ∷ I64 ∷ []) (
    block 0 (0 ∷ []) (line None [] (TryCall (TryDirect 0) 0 (0 ∷ []) (to 1 (Ret 0 ∷ [])) (caught (Some 3) (to 2 (Exn 0 ∷ [])) ∷ [])) ∷ []) ∷
    block 1 (1 ∷ []) (returns (1 ∷ []) ∷ []) ∷
    block 2 (2 ∷ []) (returns (2 ∷ []) ∷ []) ∷ [])

abbrev throw_result : Function
throw_result =
    function f (of_i64 Fast) [] (of_i64 Fast ∷ []) (declares g 0 ∷ declares h 0 ∷ []) (I64 ∷ I64 ∷ I64 ∷ I64 ∷ I64 ∷ []) (
    block 0 (0 ∷ []) (jumps 1 (Value 0 ∷ []) ∷ []) ∷
    block 1 (1 ∷ []) (line None [] (TryCall (TryDirect 1) 0 (1 ∷ []) (to 2 (Ret 0 ∷ [])) (caught (Some 3) (to 4 (Exn 0 ∷ [])) ∷ [])) ∷ []) ∷
    block 2 (2 ∷ []) (jumps 3 (Value 2 ∷ []) ∷ []) ∷
    block 3 (3 ∷ []) (returns (3 ∷ []) ∷ []) ∷
    block 4 (4 ∷ []) (returns (4 ∷ []) ∷ []) ∷ [])

throw_text : canonical (splice_with sides throw_caller 0 0 throw_callee) ≡ throw_result
unfolding iadd isub sdiv sdiv_trap srem divides_by_zero ishl clz band iconcat low_half high_half operation meaning row signed wrapped fits fits_signed quotient remainder sum_below with_bits zeros_from_top floored number_of bytes_of memory_read memory_write address_at written same_sig names
throw_text = refl

abbrev throw_before : Module
throw_before = throw_callee ∷ throw_caller ∷ []

abbrev throw_after : Module
throw_after = replace (splice_with sides throw_caller 0 0 throw_callee) throw_before

throw_before_caught : outcome throw_before f (i64s (5 ∷ [])) (world [] (Throws 3 7 8 ∷ [])) 20 ≡ ends (Host h (i64s (5 ∷ [])) [] ∷ Caught 3 7 8 0 ∷ []) [] (Returned (i64s (7 ∷ [])))
unfolding iadd isub sdiv sdiv_trap srem divides_by_zero ishl clz band iconcat low_half high_half operation meaning row signed wrapped fits fits_signed quotient remainder sum_below with_bits zeros_from_top floored number_of bytes_of memory_read memory_write address_at written same_sig names
throw_before_caught = refl

throw_before_threw : outcome throw_before f (i64s (5 ∷ [])) (world [] (Throws 4 7 8 ∷ [])) 20 ≡ ends (Host h (i64s (5 ∷ [])) [] ∷ []) [] (Threw 4 7 8)
unfolding iadd isub sdiv sdiv_trap srem divides_by_zero ishl clz band iconcat low_half high_half operation meaning row signed wrapped fits fits_signed quotient remainder sum_below with_bits zeros_from_top floored number_of bytes_of memory_read memory_write address_at written same_sig names
throw_before_threw = refl

throw_after_caught : outcome throw_after f (i64s (5 ∷ [])) (world [] (Throws 3 7 8 ∷ [])) 20 ≡ ends (Host h (i64s (5 ∷ [])) [] ∷ Caught 3 7 8 0 ∷ []) [] (Returned (i64s (7 ∷ [])))
unfolding iadd isub sdiv sdiv_trap srem divides_by_zero ishl clz band iconcat low_half high_half operation meaning row signed wrapped fits fits_signed quotient remainder sum_below with_bits zeros_from_top floored number_of bytes_of memory_read memory_write address_at written same_sig names
throw_after_caught = refl

throw_after_threw : outcome throw_after f (i64s (5 ∷ [])) (world [] (Throws 4 7 8 ∷ [])) 20 ≡ ends (Host h (i64s (5 ∷ [])) [] ∷ []) [] (Threw 4 7 8)
unfolding iadd isub sdiv sdiv_trap srem divides_by_zero ishl clz band iconcat low_half high_half operation meaning row signed wrapped fits fits_signed quotient remainder sum_below with_bits zeros_from_top floored number_of bytes_of memory_read memory_write address_at written same_sig names
throw_after_threw = refl

-- Joined tables.
abbrev tables_callee : Function
tables_callee =
    function g (of_i64 Fast) [] (of_i64 Fast ∷ []) (declares h 0 ∷ []) (I64 ∷ I64 ∷ I64 ∷ []) (
    block 0 (0 ∷ []) (line None [] (TryCall (TryDirect 0) 0 (0 ∷ []) (to 1 (Ret 0 ∷ [])) (caught (Some 1) (to 2 (Exn 0 ∷ [])) ∷ [])) ∷ []) ∷
    block 1 (1 ∷ []) (returns (1 ∷ []) ∷ []) ∷
    block 2 (2 ∷ []) (returns (2 ∷ []) ∷ []) ∷ [])

abbrev tables_caller : Function
tables_caller =
    function f (of_i64 Fast) [] (of_i64 Fast ∷ []) (declares g 0 ∷ []) (I64 ∷ I64 ∷ I64 ∷ []) (
    block 0 (0 ∷ []) (line None [] (TryCall (TryDirect 0) 0 (0 ∷ []) (to 1 (Ret 0 ∷ [])) (caught (Some 1) (to 2 (Exn 0 ∷ [])) ∷ caught (Some 2) (to 2 (Exn 1 ∷ [])) ∷ caught None (to 2 (Exn 0 ∷ [])) ∷ [])) ∷ []) ∷
    block 1 (1 ∷ []) (returns (1 ∷ []) ∷ []) ∷
    block 2 (2 ∷ []) (returns (2 ∷ []) ∷ []) ∷ [])

abbrev tables_result : Function
tables_result =
    function f (of_i64 Fast) [] (of_i64 Fast ∷ []) (declares g 0 ∷ declares h 0 ∷ []) (I64 ∷ I64 ∷ I64 ∷ I64 ∷ I64 ∷ I64 ∷ []) (
    block 0 (0 ∷ []) (jumps 1 (Value 0 ∷ []) ∷ []) ∷
    block 1 (1 ∷ []) (line None [] (TryCall (TryDirect 1) 0 (1 ∷ []) (to 2 (Ret 0 ∷ [])) (caught (Some 1) (to 3 (Exn 0 ∷ [])) ∷ caught (Some 1) (to 5 (Exn 0 ∷ [])) ∷ caught (Some 2) (to 5 (Exn 1 ∷ [])) ∷ caught None (to 5 (Exn 0 ∷ [])) ∷ [])) ∷ []) ∷
    block 2 (2 ∷ []) (jumps 4 (Value 2 ∷ []) ∷ []) ∷
    block 3 (3 ∷ []) (jumps 4 (Value 3 ∷ []) ∷ []) ∷
    block 4 (4 ∷ []) (returns (4 ∷ []) ∷ []) ∷
    block 5 (5 ∷ []) (returns (5 ∷ []) ∷ []) ∷ [])

tables_text : canonical (splice_with sides tables_caller 0 0 tables_callee) ≡ tables_result
unfolding iadd isub sdiv sdiv_trap srem divides_by_zero ishl clz band iconcat low_half high_half operation meaning row signed wrapped fits fits_signed quotient remainder sum_below with_bits zeros_from_top floored number_of bytes_of memory_read memory_write address_at written same_sig names
tables_text = refl

abbrev tables_before : Module
tables_before = tables_callee ∷ tables_caller ∷ []

abbrev tables_after : Module
tables_after = replace (splice_with sides tables_caller 0 0 tables_callee) tables_before

tables_before_1 : outcome tables_before f (i64s (5 ∷ [])) (world [] (Throws 1 7 8 ∷ [])) 20 ≡ ends (Host h (i64s (5 ∷ [])) [] ∷ Caught 1 7 8 0 ∷ []) [] (Returned (i64s (7 ∷ [])))
unfolding iadd isub sdiv sdiv_trap srem divides_by_zero ishl clz band iconcat low_half high_half operation meaning row signed wrapped fits fits_signed quotient remainder sum_below with_bits zeros_from_top floored number_of bytes_of memory_read memory_write address_at written same_sig names
tables_before_1 = refl

tables_before_2 : outcome tables_before f (i64s (5 ∷ [])) (world [] (Throws 2 7 8 ∷ [])) 20 ≡ ends (Host h (i64s (5 ∷ [])) [] ∷ Caught 2 7 8 2 ∷ []) [] (Returned (i64s (8 ∷ [])))
unfolding iadd isub sdiv sdiv_trap srem divides_by_zero ishl clz band iconcat low_half high_half operation meaning row signed wrapped fits fits_signed quotient remainder sum_below with_bits zeros_from_top floored number_of bytes_of memory_read memory_write address_at written same_sig names
tables_before_2 = refl

tables_before_9 : outcome tables_before f (i64s (5 ∷ [])) (world [] (Throws 9 7 8 ∷ [])) 20 ≡ ends (Host h (i64s (5 ∷ [])) [] ∷ Caught 9 7 8 3 ∷ []) [] (Returned (i64s (7 ∷ [])))
unfolding iadd isub sdiv sdiv_trap srem divides_by_zero ishl clz band iconcat low_half high_half operation meaning row signed wrapped fits fits_signed quotient remainder sum_below with_bits zeros_from_top floored number_of bytes_of memory_read memory_write address_at written same_sig names
tables_before_9 = refl

tables_after_1 : outcome tables_after f (i64s (5 ∷ [])) (world [] (Throws 1 7 8 ∷ [])) 20 ≡ ends (Host h (i64s (5 ∷ [])) [] ∷ Caught 1 7 8 0 ∷ []) [] (Returned (i64s (7 ∷ [])))
unfolding iadd isub sdiv sdiv_trap srem divides_by_zero ishl clz band iconcat low_half high_half operation meaning row signed wrapped fits fits_signed quotient remainder sum_below with_bits zeros_from_top floored number_of bytes_of memory_read memory_write address_at written same_sig names
tables_after_1 = refl

tables_after_2 : outcome tables_after f (i64s (5 ∷ [])) (world [] (Throws 2 7 8 ∷ [])) 20 ≡ ends (Host h (i64s (5 ∷ [])) [] ∷ Caught 2 7 8 2 ∷ []) [] (Returned (i64s (8 ∷ [])))
unfolding iadd isub sdiv sdiv_trap srem divides_by_zero ishl clz band iconcat low_half high_half operation meaning row signed wrapped fits fits_signed quotient remainder sum_below with_bits zeros_from_top floored number_of bytes_of memory_read memory_write address_at written same_sig names
tables_after_2 = refl

tables_after_9 : outcome tables_after f (i64s (5 ∷ [])) (world [] (Throws 9 7 8 ∷ [])) 20 ≡ ends (Host h (i64s (5 ∷ [])) [] ∷ Caught 9 7 8 3 ∷ []) [] (Returned (i64s (7 ∷ [])))
unfolding iadd isub sdiv sdiv_trap srem divides_by_zero ishl clz band iconcat low_half high_half operation meaning row signed wrapped fits fits_signed quotient remainder sum_below with_bits zeros_from_top floored number_of bytes_of memory_read memory_write address_at written same_sig names
tables_after_9 = refl
