use Rattle.std.proofs.Common.{◌≡◌, take}
use Rattle.ir_core.specs.Size.{capped, sig_size, total}
use Rattle.splice_size.proofs.spliced.sigs_size.Given as goal

abbrev pub invariant-loop-sig : goal.invariant-loop-sig
invariant-loop-sig l = l.size ≡ capped (total sig_size (take l.sig-index l.sigs))
