-- The rules on where blocks end and where targets lead: a terminator stands last in its block and nowhere else, and no
-- target is the first block.
use Rattle.std.specs.Prelude.{◌≢◌, ⊤, ℕ, suc, [], Option, Some, None, Bool, true, false, slice_get}
use Rattle.ir_core.specs.declared.instructions.BlockCall.{BlockCall}
use Rattle.ir_core.specs.Module.{Line, Block, Function}
use Rattle.ir_core.specs.Lists.{Each}
use Rattle.ir_semantics.specs.Splice.{first_number}
use Rattle.ir_core.specs.Uses.{targets}
use Rattle.ir_semantics.specs.Available.{terminates}

-- ---- NoTerminator: a terminator stands last in its block and nowhere else

abbrev pub Filled : Block → Type 0
Filled b = b.lines ≢ []

-- of an instruction that ends its block or does not, and what stands behind it
abbrev pub EndsRightly : Bool → Option Line → Type 0
EndsRightly true None = ⊤
EndsRightly true (Some l) = ⊥
EndsRightly false None = ⊥
EndsRightly false (Some l) = ⊤

abbrev pub Terminated : Block → ℕ → Line → Type 0
Terminated b i l = EndsRightly (terminates l.inst) (slice_get b.lines (suc i))

-- ---- EntryTarget: no target is the first block

abbrev pub EntryIsNoTarget : Function → Line → Type 0
EntryIsNoTarget f l = Each (λ (t : BlockCall). t.block ≢ first_number f.blocks) (targets l.inst)
