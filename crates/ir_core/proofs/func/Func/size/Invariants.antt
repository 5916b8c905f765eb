use Rattle.std.proofs.Common.{◌≡◌, ◌+◌, ◌≤◌, length, take}
use Rattle.ir_core.specs.Lookup.{block_numbers}
use Rattle.ir_core.specs.Lists.{In, Each}
use Rattle.ir_core.specs.Size.{total, sig_size, size_at, size_of, capped}
use Rattle.ir_core.proofs.func.Func.size.Given as goal

abbrev pub invariant-loop-sig : goal.invariant-loop-sig
invariant-loop-sig l = l.size ≡ capped ((length l.self.function.slots + length l.self.function.callees) + total sig_size (take l.sig-index l.sig-items))

abbrev pub invariant-loop-block : goal.invariant-loop-block
invariant-loop-block l = record { sum : capped (l.size + total (size_at l.self.function.blocks) l.block-iterator) ≡ capped (size_of l.self.function); there : Each (λ n. In n (block_numbers l.self.function.blocks)) l.block-iterator; small : l.size ≤ 18446744073709551615 }
