-- The sizes, computed.
use Rattle.std.proofs.Common.{refl}
use Rattle.ir_core.specs.Signatures.{same_sig}
use Rattle.splice_size.specs.Examples.{WorkedSizes}

pub worked_sizes : WorkedSizes
unfolding same_sig
worked_sizes = record {
  plain = (refl, refl);
  tail = (refl, refl);
  tries = (refl, refl);
}
