-- Worked examples: a number that is not of its type has no form.
use Rattle.std.specs.Prelude.{◌<◌, [], ◌∷◌, Some, None}
use Rattle.std.proofs.Common.{arith}
use Rattle.clk_num.specs.Operations.{value_of}
use Rattle.clk_num.specs.declared.width.Width.TheVariants.{W8}
use Rattle.clk_num.specs.declared.op.Op.TheVariants.{Iadd}
use Rattle.ir_core.specs.declared.signatures.Ty.TheVariants.{I8}
use Rattle.ir_core.specs.declared.signatures.Conv.TheVariants.{Fast}
use Rattle.ir_core.specs.Module.{Const, PureImm, Plain, Line, Function}
use Rattle.ir_text.specs.Writable.{LineWritable}
use Rattle.ir_semantics.specs.TypeRules.{Types}
use Rattle.ir_examples.proofs.Written.{signature, f, line, returns, block, function}

-- `iconst.i8 300`
abbrev large_constant : Line
large_constant = line None (1 ∷ []) (Plain (Const (value_of W8 300)))

-- `iadd_imm v0, 256`
abbrev large_immediate : Line
large_immediate = line (Some I8) (2 ∷ []) (Plain (PureImm Iadd 0 (value_of W8 256)))

abbrev large : Function
large =
    function f (signature (I8 ∷ []) (I8 ∷ []) Fast) [] [] [] (I8 ∷ I8 ∷ I8 ∷ []) (
    block 0 (0 ∷ []) (large_constant ∷ large_immediate ∷ returns (2 ∷ []) ∷ []) ∷ [])

large_constant_refused : Types large large_constant → ⊥
large_constant_refused p = let h : 300 < 256 = p.2 in absurd (omega arith)

large_constant_unwritable : LineWritable large large_constant → ⊥
large_constant_unwritable p = let h : 300 < 256 = p.0.1.0 in absurd (omega arith)

large_immediate_refused : Types large large_immediate → ⊥
large_immediate_refused p = let h : 256 < 256 = p.1 in absurd (omega arith)

large_immediate_unwritable : LineWritable large large_immediate → ⊥
large_immediate_unwritable p = let h : 256 < 256 = p.0.1.0 in absurd (omega arith)
