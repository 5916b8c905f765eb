use Rattle.std.proofs.Common.{◌≡◌, length, drop}
use Rattle.ir_core.specs.Lookup.{param_types}
use Rattle.ir_check.specs.Twins.{have_types}
use Rattle.ir_check.proofs.types.have_param_types.Given as goal

abbrev pub invariant-loop-i : goal.invariant-loop-i
invariant-loop-i l = (have_types l.func.function (drop l.i l.values) (param_types (drop l.i l.params)) ≡ have_types l.func.function l.values (param_types l.params)) × (length l.values ≡ length l.params)
