use Rattle.std.proofs.Common.{◌≡◌, ◌+◌, drop}
use Rattle.ir_core.specs.Signatures.{same_sig}
use Rattle.ir_semantics.specs.Import.{first_place}
use Rattle.body_import.proofs.comparing.find_sig.Given as goal

abbrev pub invariant-loop-place : goal.invariant-loop-place
invariant-loop-place l = first_place same_sig l.sigs l.sig ≡ l.place + first_place same_sig (drop l.place l.sigs) l.sig
