use Rattle.std.proofs.Common.{◌≡◌, length, drop, map}
use Rattle.ir_core.specs.Lookup.{param_types}
use Rattle.ir_semantics.specs.TypeRules.{arg_type, types_of}
use Rattle.ir_check.specs.Twins.{same_types}
use Rattle.ir_check.proofs.types.have_arg_types.Given as goal

abbrev pub invariant-loop-i : goal.invariant-loop-i
invariant-loop-i l =
    (same_types (map (arg_type l.func.function (param_types l.results) l.payloads) (drop l.i l.args)) (types_of l.func.function (drop l.i l.params)) ≡ same_types (map (arg_type l.func.function (param_types l.results) l.payloads) l.args) (types_of l.func.function l.params))
    × (length l.args ≡ length l.params)
