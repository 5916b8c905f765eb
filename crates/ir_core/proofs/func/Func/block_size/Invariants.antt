use Rattle.std.proofs.Common.{◌≡◌, ◌+◌, length, take}
use Rattle.ir_core.specs.Edits.{params_of}
use Rattle.ir_core.specs.Viewed.{line_of}
use Rattle.ir_core.specs.Size.{total, line_size, capped}
use Rattle.ir_core.proofs.func.Func.block_size.Given as goal

abbrev pub invariant-loop-added : goal.invariant-loop-added
invariant-loop-added l = l.size ≡ capped ((1 + length (params_of l.fn.block l.self.function.blocks)) + total (λ x. line_size (line_of x)) (take l.added-index l.added-items))
