-- Worked examples: what the definitions of a run and of a splice compute on them.
use Rattle.std.specs.Prelude.{pos, [], ◌∷◌, Some, None, true, replicate}
use Rattle.std.specs.Prelude.{◌≡◌}
use Rattle.std.proofs.Common.{refl}
use Rattle.clk_num.specs.Operations.{iadd, isub, sdiv, sdiv_trap, srem, divides_by_zero, ishl, clz, band, iconcat, low_half, high_half, operation, meaning, value_of}
use Rattle.clk_num.specs.Numbers.{signed, wrapped, fits, fits_signed, quotient, remainder, sum_below, with_bits, zeros_from_top, floored}
use Rattle.clk_num.specs.Rows.{row}
use Rattle.ir_semantics.specs.Values.{number_of, bytes_of, memory_read, memory_write, address_at}
use Rattle.ir_semantics.specs.Step.{written}
use Rattle.ir_core.specs.Signatures.{same_sig}
use Rattle.ir_semantics.specs.Names.{names}
use Rattle.clk_num.specs.declared.width.Width.TheVariants.{W8, W16, W64}
use Rattle.clk_num.specs.declared.op.TrapCode.TheVariants.{IntOvf, HeapOob}
use Rattle.clk_num.specs.declared.op.Op.TheVariants.{Iadd, Isub, Sdiv, Srem, Ishl, Clz}
use Rattle.ir_core.specs.declared.signatures.Ty.TheVariants.{I8, I16, I64}
use Rattle.ir_core.specs.declared.signatures.Conv.TheVariants.{Fast}
use Rattle.ir_core.specs.Module.{Const, Pure, PureImm, Store, FuncAddr, Indirect, Plain, Call, Function, Module}
use Rattle.ir_semantics.specs.Machine.{Returned, Trapped}
use Rattle.ir_semantics.specs.Runs.{outcome}
use Rattle.ir_examples.proofs.Written.{signature, declares, no_flags, f, g, h, i64s, world, ends, of_i64, line, returns, block, function}

-- Arithmetic.
abbrev arithmetic_sdiv : Function
arithmetic_sdiv =
    function f (signature [] (I8 ∷ []) Fast) [] [] [] (I8 ∷ I8 ∷ I8 ∷ []) (
    block 0 [] (
    line None (0 ∷ []) (Plain (Const (value_of W8 128))) ∷
    line None (1 ∷ []) (Plain (Const (value_of W8 255))) ∷
    line (Some I8) (2 ∷ []) (Plain (Pure Sdiv (0 ∷ 1 ∷ []))) ∷
    returns (2 ∷ []) ∷ []) ∷ [])

abbrev arithmetic_srem : Function
arithmetic_srem =
    function f (signature [] (I8 ∷ []) Fast) [] [] [] (I8 ∷ I8 ∷ I8 ∷ []) (
    block 0 [] (
    line None (0 ∷ []) (Plain (Const (value_of W8 128))) ∷
    line None (1 ∷ []) (Plain (Const (value_of W8 255))) ∷
    line (Some I8) (2 ∷ []) (Plain (Pure Srem (0 ∷ 1 ∷ []))) ∷
    returns (2 ∷ []) ∷ []) ∷ [])

abbrev arithmetic_ishl : Function
arithmetic_ishl =
    function f (signature [] (I8 ∷ []) Fast) [] [] [] (I8 ∷ I8 ∷ I8 ∷ []) (
    block 0 [] (
    line None (0 ∷ []) (Plain (Const (value_of W8 3))) ∷
    line None (1 ∷ []) (Plain (Const (value_of W8 9))) ∷
    line (Some I8) (2 ∷ []) (Plain (Pure Ishl (0 ∷ 1 ∷ []))) ∷
    returns (2 ∷ []) ∷ []) ∷ [])

abbrev arithmetic_clz : Function
arithmetic_clz =
    function f (signature [] (I16 ∷ []) Fast) [] [] [] (I16 ∷ I16 ∷ []) (
    block 0 [] (
    line None (0 ∷ []) (Plain (Const (value_of W16 0))) ∷
    line (Some I16) (1 ∷ []) (Plain (Pure Clz (0 ∷ []))) ∷
    returns (1 ∷ []) ∷ []) ∷ [])

abbrev arithmetic_sdiv_module : Module
arithmetic_sdiv_module = arithmetic_sdiv ∷ []

arithmetic_sdiv_run : outcome arithmetic_sdiv_module f (i64s []) (world [] []) 9 ≡ ends [] [] (Trapped IntOvf)
unfolding iadd isub sdiv sdiv_trap srem divides_by_zero ishl clz band iconcat low_half high_half operation meaning row signed wrapped fits fits_signed quotient remainder sum_below with_bits zeros_from_top floored number_of bytes_of memory_read memory_write address_at written same_sig names
arithmetic_sdiv_run = refl

abbrev arithmetic_srem_module : Module
arithmetic_srem_module = arithmetic_srem ∷ []

arithmetic_srem_run : outcome arithmetic_srem_module f (i64s []) (world [] []) 9 ≡ ends [] [] (Returned (value_of W8 0 ∷ []))
unfolding iadd isub sdiv sdiv_trap srem divides_by_zero ishl clz band iconcat low_half high_half operation meaning row signed wrapped fits fits_signed quotient remainder sum_below with_bits zeros_from_top floored number_of bytes_of memory_read memory_write address_at written same_sig names
arithmetic_srem_run = refl

abbrev arithmetic_ishl_module : Module
arithmetic_ishl_module = arithmetic_ishl ∷ []

arithmetic_ishl_run : outcome arithmetic_ishl_module f (i64s []) (world [] []) 9 ≡ ends [] [] (Returned (value_of W8 6 ∷ []))
unfolding iadd isub sdiv sdiv_trap srem divides_by_zero ishl clz band iconcat low_half high_half operation meaning row signed wrapped fits fits_signed quotient remainder sum_below with_bits zeros_from_top floored number_of bytes_of memory_read memory_write address_at written same_sig names
arithmetic_ishl_run = refl

abbrev arithmetic_clz_module : Module
arithmetic_clz_module = arithmetic_clz ∷ []

arithmetic_clz_run : outcome arithmetic_clz_module f (i64s []) (world [] []) 9 ≡ ends [] [] (Returned (value_of W16 16 ∷ []))
unfolding iadd isub sdiv sdiv_trap srem divides_by_zero ishl clz band iconcat low_half high_half operation meaning row signed wrapped fits fits_signed quotient remainder sum_below with_bits zeros_from_top floored number_of bytes_of memory_read memory_write address_at written same_sig names
arithmetic_clz_run = refl

-- A store in the order of big ends.
abbrev memory_store : Function
memory_store =
    function f (signature [] [] Fast) [] [] [] (I64 ∷ I16 ∷ []) (
    block 0 [] (
    line None (0 ∷ []) (Plain (Const (value_of W64 16))) ∷
    line None (1 ∷ []) (Plain (Const (value_of W16 513))) ∷
    line (Some I16) [] (Plain (Store None (record no_flags { big = true }) 1 0 (pos 2))) ∷
    returns [] ∷ []) ∷ [])

abbrev memory_module : Module
memory_module = memory_store ∷ []

memory_within : outcome memory_module f (i64s []) (world (replicate 20 0) []) 9 ≡ ends [] (0 ∷ 0 ∷ 0 ∷ 0 ∷ 0 ∷ 0 ∷ 0 ∷ 0 ∷ 0 ∷ 0 ∷ 0 ∷ 0 ∷ 0 ∷ 0 ∷ 0 ∷ 0 ∷ 0 ∷ 0 ∷ 2 ∷ 1 ∷ []) (Returned [])
unfolding iadd isub sdiv sdiv_trap srem divides_by_zero ishl clz band iconcat low_half high_half operation meaning row signed wrapped fits fits_signed quotient remainder sum_below with_bits zeros_from_top floored number_of bytes_of memory_read memory_write address_at written same_sig names
memory_within = refl

memory_outside : outcome memory_module f (i64s []) (world (replicate 19 0) []) 9 ≡ ends [] (replicate 19 0) (Trapped HeapOob)
unfolding iadd isub sdiv sdiv_trap srem divides_by_zero ishl clz band iconcat low_half high_half operation meaning row signed wrapped fits fits_signed quotient remainder sum_below with_bits zeros_from_top floored number_of bytes_of memory_read memory_write address_at written same_sig names
memory_outside = refl

-- Addresses and indirect calls.
abbrev addresses_callee : Function
addresses_callee =
    function g (of_i64 Fast) [] [] [] (I64 ∷ I64 ∷ []) (
    block 0 (0 ∷ []) (line (Some I64) (1 ∷ []) (Plain (PureImm Iadd 0 (value_of W64 1))) ∷ returns (1 ∷ []) ∷ []) ∷ [])

abbrev addresses_caller : Function
addresses_caller =
    function f (of_i64 Fast) [] (of_i64 Fast ∷ []) (declares g 0 ∷ declares h 0 ∷ []) (I64 ∷ I64 ∷ I64 ∷ I64 ∷ I64 ∷ []) (
    block 0 (0 ∷ []) (
    line None (1 ∷ []) (Plain (FuncAddr 0)) ∷
    line None (2 ∷ []) (Plain (FuncAddr 1)) ∷
    line (Some I64) (3 ∷ []) (Plain (Pure Isub (2 ∷ 1 ∷ []))) ∷
    line None (4 ∷ []) (Call (Indirect 0 1) (3 ∷ [])) ∷
    returns (4 ∷ []) ∷ []) ∷ [])

abbrev addresses_lost : Function
addresses_lost =
    function f (of_i64 Fast) [] (of_i64 Fast ∷ []) (declares g 0 ∷ declares h 0 ∷ []) (I64 ∷ I64 ∷ I64 ∷ I64 ∷ I64 ∷ []) (
    block 0 (0 ∷ []) (
    line None (1 ∷ []) (Plain (FuncAddr 0)) ∷
    line None (2 ∷ []) (Plain (FuncAddr 1)) ∷
    line (Some I64) (3 ∷ []) (Plain (Pure Isub (2 ∷ 1 ∷ []))) ∷
    line None (4 ∷ []) (Call (Indirect 0 0) (3 ∷ [])) ∷
    returns (4 ∷ []) ∷ []) ∷ [])

abbrev addresses_module : Module
addresses_module = addresses_callee ∷ addresses_caller ∷ []

abbrev addresses_lost_module : Module
addresses_lost_module = addresses_callee ∷ addresses_lost ∷ []

addresses_run : outcome addresses_module f (i64s (0 ∷ [])) (world [] []) 20 ≡ ends [] [] (Returned (i64s (17 ∷ [])))
unfolding iadd isub sdiv sdiv_trap srem divides_by_zero ishl clz band iconcat low_half high_half operation meaning row signed wrapped fits fits_signed quotient remainder sum_below with_bits zeros_from_top floored number_of bytes_of memory_read memory_write address_at written same_sig names
addresses_run = refl

addresses_lost_run : outcome addresses_lost_module f (i64s (0 ∷ [])) (world [] []) 20 ≡ ends [] [] (Trapped HeapOob)
unfolding iadd isub sdiv sdiv_trap srem divides_by_zero ishl clz band iconcat low_half high_half operation meaning row signed wrapped fits fits_signed quotient remainder sum_below with_bits zeros_from_top floored number_of bytes_of memory_read memory_write address_at written same_sig names
addresses_lost_run = refl
