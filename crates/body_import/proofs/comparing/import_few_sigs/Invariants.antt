use Rattle.std.proofs.Common.{drop}
use Rattle.ir_core.specs.Signatures.{same_sig}
use Rattle.body_import.proofs.Compared.{Walked}
use Rattle.body_import.proofs.comparing.import_few_sigs.Given as goal

abbrev pub invariant-loop-sig : goal.invariant-loop-sig
invariant-loop-sig l = Walked same_sig l.own l.added.items l.table.items l.sigs (drop l.sig-index l.sigs)
