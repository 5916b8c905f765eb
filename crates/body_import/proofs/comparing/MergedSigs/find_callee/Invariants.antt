use Rattle.std.proofs.Common.{◌≡◌, ◌+◌, drop}
use Rattle.ir_semantics.specs.Import.{first_place, same_callee}
use Rattle.body_import.specs.CalleeKeys.{numbered}
use Rattle.body_import.specs.Compared.{all_sigs}
use Rattle.body_import.proofs.comparing.MergedSigs.find_callee.Given as goal

abbrev pub invariant-loop-place : goal.invariant-loop-place
invariant-loop-place l = first_place (same_callee (all_sigs l.self)) l.callees (numbered l.sig l.callee) ≡ l.place + first_place (same_callee (all_sigs l.self)) (drop l.place l.callees) (numbered l.sig l.callee)
