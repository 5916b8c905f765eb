use Rattle.std.proofs.Common.{◌≡◌, length, drop}
use Rattle.ir_core.specs.Signatures.{same_params}
use Rattle.body_import.proofs.same.are_same_params.Given as goal

abbrev pub invariant-loop-i : goal.invariant-loop-i
invariant-loop-i l = (same_params (drop l.i l.a) (drop l.i l.b) ≡ same_params l.a l.b) × (length l.a ≡ length l.b)
