use Rattle.std.proofs.Common.{◌≡◌, length, drop}
use Rattle.std.specs.Cmp.Lexicographic.{pointwise}
use Rattle.ir_core.specs.Lookup.{param_types}
use Rattle.ir_core.specs.Signatures.{same_type}
use Rattle.sig_numbers.proofs.types.have_same_types.Given as goal

abbrev pub invariant-loop-i : goal.invariant-loop-i
invariant-loop-i l = (pointwise same_type (param_types (drop l.i l.a)) (param_types (drop l.i l.b)) ≡ pointwise same_type (param_types l.a) (param_types l.b)) × (length l.a ≡ length l.b)
