use Rattle.std.proofs.Common.{◌≡◌, ◌++◌, drop, map, Some}
use Rattle.ir_core.specs.Lookup.{type_of}
use Rattle.inline_body.proofs.results.result_types.Given as goal

abbrev pub invariant-loop-value : goal.invariant-loop-value
invariant-loop-value l = map Some l.list.items ++ map (type_of l.fn.caller.function) (drop l.value-index l.values) ≡ map (type_of l.fn.caller.function) l.values
