use Rattle.std.proofs.Common.{◌≡◌, ◌+◌, take}
use Rattle.ir_core.specs.Size.{total, sig_size}
use Rattle.splice_size.proofs.counts.take_sigs.Given as goal

abbrev pub invariant-loop-sig : goal.invariant-loop-sig
invariant-loop-sig l = l.left + total sig_size (take l.sig-index l.sigs) ≡ l.fn.left
