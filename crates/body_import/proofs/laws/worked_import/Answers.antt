use Rattle.std.proofs.Common.{refl}
use Rattle.ir_core.specs.Signatures.{same_sig}
use Rattle.body_import.proofs.laws.worked_import.Goals as goal

pub returns : goal.returns
unfolding same_sig
returns c = record {
  caller = refl;
  sigs = refl;
  callees = refl;
}
