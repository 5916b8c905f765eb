-- A worked example: caller and callee both have slots, and each keeps the bytes of its own.
use Rattle.std.specs.Prelude.{◌≡◌, pos, [], ◌∷◌, Some, None}
use Rattle.std.proofs.Common.{refl}
use Rattle.clk_num.specs.Operations.{iadd, operation, meaning, value_of}
use Rattle.clk_num.specs.Numbers.{signed, wrapped, fits, fits_signed}
use Rattle.clk_num.specs.Rows.{row}
use Rattle.ir_semantics.specs.Values.{number_of, bytes_of, memory_read, memory_write, address_at}
use Rattle.ir_semantics.specs.Step.{written}
use Rattle.ir_core.specs.Signatures.{same_sig}
use Rattle.ir_semantics.specs.Names.{names}
use Rattle.clk_num.specs.declared.width.Width.TheVariants.{W64}
use Rattle.clk_num.specs.declared.op.Op.TheVariants.{Iadd}
use Rattle.ir_core.specs.declared.signatures.Ty.TheVariants.{I64}
use Rattle.ir_core.specs.declared.signatures.Conv.TheVariants.{Fast}
use Rattle.ir_core.specs.declared.instructions.Arg.TheVariants.{Value}
use Rattle.ir_core.specs.Module.{Pure, PureImm, StackLoad, StackStore, Direct, Plain, Call, Function, Module}
use Rattle.ir_semantics.specs.Machine.{Returned}
use Rattle.ir_semantics.specs.Runs.{outcome}
use Rattle.ir_semantics.specs.Splice.{sides, splice_with, replace}
use Rattle.ir_semantics.specs.Canon.{canonical}
use Rattle.ir_examples.proofs.Written.{slot, declares, f, g, i64s, world, ends, of_i64, line, jumps, returns, block, function}

-- It stores its argument and one in its slot, and gives what it reads there.
abbrev storing_callee : Function
storing_callee =
    function g (of_i64 Fast) (slot 16 ∷ []) [] [] (I64 ∷ I64 ∷ I64 ∷ []) (
    block 0 (0 ∷ []) (
    line (Some I64) (1 ∷ []) (Plain (PureImm Iadd 0 (value_of W64 1))) ∷
    line (Some I64) [] (Plain (StackStore 1 0 (pos 8))) ∷
    line None (2 ∷ []) (Plain (StackLoad I64 0 (pos 8))) ∷
    returns (2 ∷ []) ∷ []) ∷ [])

-- It stores its argument in its slot, calls the other, and reads its slot again.
abbrev storing_caller : Function
storing_caller =
    function f (of_i64 Fast) (slot 8 ∷ []) (of_i64 Fast ∷ []) (declares g 0 ∷ []) (I64 ∷ I64 ∷ I64 ∷ I64 ∷ []) (
    block 0 (0 ∷ []) (
    line (Some I64) [] (Plain (StackStore 0 0 (pos 0))) ∷
    line None (1 ∷ []) (Call (Direct 0) (0 ∷ [])) ∷
    line None (2 ∷ []) (Plain (StackLoad I64 0 (pos 0))) ∷
    line (Some I64) (3 ∷ []) (Plain (Pure Iadd (1 ∷ 2 ∷ []))) ∷
    returns (3 ∷ []) ∷ []) ∷ [])

-- The callee's slot stands behind the caller's.
abbrev storing_result : Function
storing_result =
    function f (of_i64 Fast) (slot 8 ∷ slot 16 ∷ []) (of_i64 Fast ∷ []) (declares g 0 ∷ []) (I64 ∷ I64 ∷ I64 ∷ I64 ∷ I64 ∷ I64 ∷ I64 ∷ []) (
    block 0 (0 ∷ []) (line (Some I64) [] (Plain (StackStore 0 0 (pos 0))) ∷ jumps 1 (Value 0 ∷ []) ∷ []) ∷
    block 1 (1 ∷ []) (
    line (Some I64) (2 ∷ []) (Plain (PureImm Iadd 1 (value_of W64 1))) ∷
    line (Some I64) [] (Plain (StackStore 2 1 (pos 8))) ∷
    line None (3 ∷ []) (Plain (StackLoad I64 1 (pos 8))) ∷
    jumps 2 (Value 3 ∷ []) ∷ []) ∷
    block 2 (4 ∷ []) (
    line None (5 ∷ []) (Plain (StackLoad I64 0 (pos 0))) ∷
    line (Some I64) (6 ∷ []) (Plain (Pure Iadd (4 ∷ 5 ∷ []))) ∷
    returns (6 ∷ []) ∷ []) ∷ [])

storing_text : canonical (splice_with sides storing_caller 0 1 storing_callee) ≡ storing_result
unfolding iadd operation meaning row signed wrapped fits fits_signed number_of bytes_of memory_read memory_write address_at written same_sig names
storing_text = refl

abbrev storing_before : Module
storing_before = storing_callee ∷ storing_caller ∷ []

abbrev storing_after : Module
storing_after = replace (splice_with sides storing_caller 0 1 storing_callee) storing_before

-- 5 + 1 from the callee's slot, and 5 from the caller's: in one slot for both it would be 12
storing_before_ends : outcome storing_before f (i64s (5 ∷ [])) (world [] []) 20 ≡ ends [] [] (Returned (i64s (11 ∷ [])))
unfolding iadd operation meaning row signed wrapped fits fits_signed number_of bytes_of memory_read memory_write address_at written same_sig names
storing_before_ends = refl

storing_after_ends : outcome storing_after f (i64s (5 ∷ [])) (world [] []) 20 ≡ ends [] [] (Returned (i64s (11 ∷ [])))
unfolding iadd operation meaning row signed wrapped fits fits_signed number_of bytes_of memory_read memory_write address_at written same_sig names
storing_after_ends = refl
