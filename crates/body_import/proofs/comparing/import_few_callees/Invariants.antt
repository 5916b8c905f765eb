use Rattle.std.proofs.Common.{drop, map}
use Rattle.ir_semantics.specs.Import.{same_callee}
use Rattle.body_import.specs.CalleeKeys.{renumbered}
use Rattle.body_import.specs.Compared.{all_sigs}
use Rattle.body_import.proofs.Compared.{Walked}
use Rattle.body_import.proofs.comparing.import_few_callees.Given as goal

abbrev pub invariant-loop-callee : goal.invariant-loop-callee
invariant-loop-callee l = Walked (same_callee (all_sigs l.sigs)) l.own l.added.items l.places.items (map (renumbered l.table) l.callees) (map (renumbered l.table) (drop l.callee-index l.callees))
