-- Worked examples: what the definitions of a run and of a splice compute on them.
use Rattle.std.specs.Prelude.{pos, [], ◌∷◌, Some, None}
use Rattle.std.specs.Prelude.{◌≡◌}
use Rattle.std.proofs.Common.{refl}
use Rattle.clk_num.specs.Operations.{iadd, isub, sdiv, sdiv_trap, srem, divides_by_zero, ishl, clz, band, iconcat, low_half, high_half, operation, meaning, value_of}
use Rattle.clk_num.specs.Numbers.{signed, wrapped, fits, fits_signed, quotient, remainder, sum_below, with_bits, zeros_from_top, floored}
use Rattle.clk_num.specs.Rows.{row}
use Rattle.ir_semantics.specs.Values.{number_of, bytes_of, memory_read, memory_write, address_at}
use Rattle.ir_semantics.specs.Step.{written}
use Rattle.ir_core.specs.Signatures.{same_sig}
use Rattle.ir_semantics.specs.Names.{names}
use Rattle.clk_num.specs.declared.width.Width.TheVariants.{W16}
use Rattle.debug_tags.specs.declared.tags.Tag.TheVariants.{Slot, User}
use Rattle.ir_core.specs.declared.signatures.Ty.TheVariants.{I16, I64}
use Rattle.ir_core.specs.declared.signatures.Conv.TheVariants.{Fast, Tail}
use Rattle.ir_core.specs.declared.instructions.Arg.TheVariants.{Value, Ret, Exn}
use Rattle.ir_core.specs.Module.{Const, StackStore, Direct, Plain, Call, ReturnCall, TryCall, Function, Module, TryDirect}
use Rattle.ir_semantics.specs.Machine.{Host, Returns, Bytes, Going, Returned}
use Rattle.ir_semantics.specs.Machine.{User as ShownUser}
use Rattle.ir_semantics.specs.Runs.{outcome}
use Rattle.ir_semantics.specs.Splice.{sides, splice_with, replace}
use Rattle.ir_semantics.specs.Canon.{canonical}
use Rattle.ir_examples.proofs.Written.{signature, slot, declares, f, g, h, i64s, world, ends, of_i64, line, tagged, to, caught, jumps, returns, block, function, forwards}

-- A tail call out of the callee, at a plain call.
abbrev tail_callee : Function
tail_callee =
    function g (of_i64 Tail) [] (of_i64 Tail ∷ []) (declares h 0 ∷ []) (I64 ∷ []) (
    block 0 (0 ∷ []) (line None [] (ReturnCall (Direct 0) (0 ∷ [])) ∷ []) ∷ [])

abbrev tail_caller : Function
tail_caller =
    function f (of_i64 Fast) [] (of_i64 Tail ∷ []) (declares g 0 ∷ []) (I64 ∷ I64 ∷ []) (
    block 0 (0 ∷ []) (line None (1 ∷ []) (Call (Direct 0) (0 ∷ [])) ∷ returns (1 ∷ []) ∷ []) ∷ [])

abbrev tail_result : Function
tail_result =
    function f (of_i64 Fast) [] (of_i64 Tail ∷ []) (declares g 0 ∷ declares h 0 ∷ []) (I64 ∷ I64 ∷ I64 ∷ I64 ∷ []) (
    block 0 (0 ∷ []) (jumps 1 (Value 0 ∷ []) ∷ []) ∷
    block 1 (1 ∷ []) (line None (2 ∷ []) (Call (Direct 1) (1 ∷ [])) ∷ jumps 2 (Value 2 ∷ []) ∷ []) ∷
    block 2 (3 ∷ []) (returns (3 ∷ []) ∷ []) ∷ [])

tail_text : canonical (splice_with sides tail_caller 0 0 tail_callee) ≡ tail_result
unfolding iadd isub sdiv sdiv_trap srem divides_by_zero ishl clz band iconcat low_half high_half operation meaning row signed wrapped fits fits_signed quotient remainder sum_below with_bits zeros_from_top floored number_of bytes_of memory_read memory_write address_at written same_sig names
tail_text = refl

abbrev tail_before : Module
tail_before = tail_callee ∷ tail_caller ∷ []

abbrev tail_after : Module
tail_after = replace (splice_with sides tail_caller 0 0 tail_callee) tail_before

tail_before_3 : outcome tail_before f (i64s (5 ∷ [])) (world [] (Returns (pos 9 ∷ []) ∷ [])) 3 ≡ ends (Host h (i64s (5 ∷ [])) [] ∷ []) [] (Returned (i64s (9 ∷ [])))
unfolding iadd isub sdiv sdiv_trap srem divides_by_zero ishl clz band iconcat low_half high_half operation meaning row signed wrapped fits fits_signed quotient remainder sum_below with_bits zeros_from_top floored number_of bytes_of memory_read memory_write address_at written same_sig names
tail_before_3 = refl

tail_after_3 : outcome tail_after f (i64s (5 ∷ [])) (world [] (Returns (pos 9 ∷ []) ∷ [])) 3 ≡ ends (Host h (i64s (5 ∷ [])) [] ∷ []) [] (Going)
unfolding iadd isub sdiv sdiv_trap srem divides_by_zero ishl clz band iconcat low_half high_half operation meaning row signed wrapped fits fits_signed quotient remainder sum_below with_bits zeros_from_top floored number_of bytes_of memory_read memory_write address_at written same_sig names
tail_after_3 = refl

tail_before_4 : outcome tail_before f (i64s (5 ∷ [])) (world [] (Returns (pos 9 ∷ []) ∷ [])) 4 ≡ ends (Host h (i64s (5 ∷ [])) [] ∷ []) [] (Returned (i64s (9 ∷ [])))
unfolding iadd isub sdiv sdiv_trap srem divides_by_zero ishl clz band iconcat low_half high_half operation meaning row signed wrapped fits fits_signed quotient remainder sum_below with_bits zeros_from_top floored number_of bytes_of memory_read memory_write address_at written same_sig names
tail_before_4 = refl

tail_after_4 : outcome tail_after f (i64s (5 ∷ [])) (world [] (Returns (pos 9 ∷ []) ∷ [])) 4 ≡ ends (Host h (i64s (5 ∷ [])) [] ∷ []) [] (Returned (i64s (9 ∷ [])))
unfolding iadd isub sdiv sdiv_trap srem divides_by_zero ishl clz band iconcat low_half high_half operation meaning row signed wrapped fits fits_signed quotient remainder sum_below with_bits zeros_from_top floored number_of bytes_of memory_read memory_write address_at written same_sig names
tail_after_4 = refl

-- The same at a try_call: as many steps.
abbrev tail_try_callee : Function
tail_try_callee =
    function g (of_i64 Tail) [] (of_i64 Tail ∷ []) (declares h 0 ∷ []) (I64 ∷ []) (
    block 0 (0 ∷ []) (line None [] (ReturnCall (Direct 0) (0 ∷ [])) ∷ []) ∷ [])

abbrev tail_try_caller : Function
tail_try_caller =
    function f (of_i64 Fast) [] (of_i64 Tail ∷ []) (declares g 0 ∷ []) (I64 ∷ I64 ∷ I64 ∷ []) (
    block 0 (0 ∷ []) (line None [] (TryCall (TryDirect 0) 0 (0 ∷ []) (to 1 (Ret 0 ∷ [])) (caught (Some 3) (to 2 (Exn 0 ∷ [])) ∷ [])) ∷ []) ∷
    block 1 (1 ∷ []) (returns (1 ∷ []) ∷ []) ∷
    block 2 (2 ∷ []) (returns (2 ∷ []) ∷ []) ∷ [])

abbrev tail_try_result : Function
tail_try_result =
    function f (of_i64 Fast) [] (of_i64 Tail ∷ []) (declares g 0 ∷ declares h 0 ∷ []) (I64 ∷ I64 ∷ I64 ∷ I64 ∷ []) (
    block 0 (0 ∷ []) (jumps 1 (Value 0 ∷ []) ∷ []) ∷
    block 1 (1 ∷ []) (line None [] (TryCall (TryDirect 1) 0 (1 ∷ []) (to 2 (Ret 0 ∷ [])) (caught (Some 3) (to 3 (Exn 0 ∷ [])) ∷ [])) ∷ []) ∷
    block 2 (2 ∷ []) (returns (2 ∷ []) ∷ []) ∷
    block 3 (3 ∷ []) (returns (3 ∷ []) ∷ []) ∷ [])

tail_try_text : canonical (splice_with sides tail_try_caller 0 0 tail_try_callee) ≡ tail_try_result
unfolding iadd isub sdiv sdiv_trap srem divides_by_zero ishl clz band iconcat low_half high_half operation meaning row signed wrapped fits fits_signed quotient remainder sum_below with_bits zeros_from_top floored number_of bytes_of memory_read memory_write address_at written same_sig names
tail_try_text = refl

abbrev tail_try_before : Module
tail_try_before = tail_try_callee ∷ tail_try_caller ∷ []

abbrev tail_try_after : Module
tail_try_after = replace (splice_with sides tail_try_caller 0 0 tail_try_callee) tail_try_before

tail_try_before_2 : outcome tail_try_before f (i64s (5 ∷ [])) (world [] (Returns (pos 9 ∷ []) ∷ [])) 2 ≡ ends (Host h (i64s (5 ∷ [])) [] ∷ []) [] (Going)
unfolding iadd isub sdiv sdiv_trap srem divides_by_zero ishl clz band iconcat low_half high_half operation meaning row signed wrapped fits fits_signed quotient remainder sum_below with_bits zeros_from_top floored number_of bytes_of memory_read memory_write address_at written same_sig names
tail_try_before_2 = refl

tail_try_before_3 : outcome tail_try_before f (i64s (5 ∷ [])) (world [] (Returns (pos 9 ∷ []) ∷ [])) 3 ≡ ends (Host h (i64s (5 ∷ [])) [] ∷ []) [] (Returned (i64s (9 ∷ [])))
unfolding iadd isub sdiv sdiv_trap srem divides_by_zero ishl clz band iconcat low_half high_half operation meaning row signed wrapped fits fits_signed quotient remainder sum_below with_bits zeros_from_top floored number_of bytes_of memory_read memory_write address_at written same_sig names
tail_try_before_3 = refl

tail_try_after_2 : outcome tail_try_after f (i64s (5 ∷ [])) (world [] (Returns (pos 9 ∷ []) ∷ [])) 2 ≡ ends (Host h (i64s (5 ∷ [])) [] ∷ []) [] (Going)
unfolding iadd isub sdiv sdiv_trap srem divides_by_zero ishl clz band iconcat low_half high_half operation meaning row signed wrapped fits fits_signed quotient remainder sum_below with_bits zeros_from_top floored number_of bytes_of memory_read memory_write address_at written same_sig names
tail_try_after_2 = refl

tail_try_after_3 : outcome tail_try_after f (i64s (5 ∷ [])) (world [] (Returns (pos 9 ∷ []) ∷ [])) 3 ≡ ends (Host h (i64s (5 ∷ [])) [] ∷ []) [] (Returned (i64s (9 ∷ [])))
unfolding iadd isub sdiv sdiv_trap srem divides_by_zero ishl clz band iconcat low_half high_half operation meaning row signed wrapped fits fits_signed quotient remainder sum_below with_bits zeros_from_top floored number_of bytes_of memory_read memory_write address_at written same_sig names
tail_try_after_3 = refl

-- Tags.
abbrev tags_callee : Function
tags_callee =
    function g (signature [] [] Fast) [] (signature [] [] Fast ∷ []) (declares h 0 ∷ []) [] (
    block 0 [] (tagged (User 9 ∷ []) [] (Call (Direct 0) []) ∷ returns [] ∷ []) ∷ [])

abbrev tags_caller : Function
tags_caller =
    function f (signature [] [] Fast) (slot 2 ∷ []) (signature [] [] Fast ∷ []) (declares g 0 ∷ []) (I16 ∷ []) (
    block 0 [] (
    line None (0 ∷ []) (Plain (Const (value_of W16 513))) ∷
    line (Some I16) [] (Plain (StackStore 0 0 (pos 0))) ∷
    tagged (User 7 ∷ Slot 0 ∷ []) [] (Call (Direct 0) []) ∷
    returns [] ∷ []) ∷ [])

abbrev tags_result : Function
tags_result =
    function f (signature [] [] Fast) (slot 2 ∷ []) (signature [] [] Fast ∷ []) (declares g 0 ∷ declares h 0 ∷ []) (I16 ∷ []) (
    block 0 [] (
    line None (0 ∷ []) (Plain (Const (value_of W16 513))) ∷
    line (Some I16) [] (Plain (StackStore 0 0 (pos 0))) ∷
    jumps 1 [] ∷ []) ∷
    block 1 [] (tagged (User 7 ∷ Slot 0 ∷ User 9 ∷ []) [] (Call (Direct 1) []) ∷ jumps 2 [] ∷ []) ∷
    block 2 [] (returns [] ∷ []) ∷ [])

tags_text : canonical (splice_with sides tags_caller 0 2 tags_callee) ≡ tags_result
unfolding iadd isub sdiv sdiv_trap srem divides_by_zero ishl clz band iconcat low_half high_half operation meaning row signed wrapped fits fits_signed quotient remainder sum_below with_bits zeros_from_top floored number_of bytes_of memory_read memory_write address_at written same_sig names
tags_text = refl

abbrev tags_before : Module
tags_before = tags_callee ∷ tags_caller ∷ []

abbrev tags_after : Module
tags_after = replace (splice_with sides tags_caller 0 2 tags_callee) tags_before

tags_before_run : outcome tags_before f (i64s []) (world [] (Returns [] ∷ [])) 20 ≡ ends (Host h [] (ShownUser 7 ∷ Bytes (1 ∷ 2 ∷ []) ∷ ShownUser 9 ∷ []) ∷ []) [] (Returned [])
unfolding iadd isub sdiv sdiv_trap srem divides_by_zero ishl clz band iconcat low_half high_half operation meaning row signed wrapped fits fits_signed quotient remainder sum_below with_bits zeros_from_top floored number_of bytes_of memory_read memory_write address_at written same_sig names
tags_before_run = refl

tags_after_run : outcome tags_after f (i64s []) (world [] (Returns [] ∷ [])) 20 ≡ ends (Host h [] (ShownUser 7 ∷ Bytes (1 ∷ 2 ∷ []) ∷ ShownUser 9 ∷ []) ∷ []) [] (Returned [])
unfolding iadd isub sdiv sdiv_trap srem divides_by_zero ishl clz band iconcat low_half high_half operation meaning row signed wrapped fits fits_signed quotient remainder sum_below with_bits zeros_from_top floored number_of bytes_of memory_read memory_write address_at written same_sig names
tags_after_run = refl

-- Recursion: the callee declaration of the callee is the one that the caller has.
abbrev recursion_callee : Function
recursion_callee = forwards f f

abbrev recursion_caller : Function
recursion_caller = forwards g f

abbrev recursion_result : Function
recursion_result =
    function g (of_i64 Fast) [] (of_i64 Fast ∷ []) (declares f 0 ∷ []) (I64 ∷ I64 ∷ I64 ∷ I64 ∷ []) (
    block 0 (0 ∷ []) (jumps 1 (Value 0 ∷ []) ∷ []) ∷
    block 1 (1 ∷ []) (line None (2 ∷ []) (Call (Direct 0) (1 ∷ [])) ∷ jumps 2 (Value 2 ∷ []) ∷ []) ∷
    block 2 (3 ∷ []) (returns (3 ∷ []) ∷ []) ∷ [])

recursion_text : canonical (splice_with sides recursion_caller 0 0 recursion_callee) ≡ recursion_result
unfolding iadd isub sdiv sdiv_trap srem divides_by_zero ishl clz band iconcat low_half high_half operation meaning row signed wrapped fits fits_signed quotient remainder sum_below with_bits zeros_from_top floored number_of bytes_of memory_read memory_write address_at written same_sig names
recursion_text = refl
