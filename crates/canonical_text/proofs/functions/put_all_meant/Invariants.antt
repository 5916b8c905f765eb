use Rattle.std.proofs.Common.{take}
use Rattle.canonical_text.specs.Printed.{PutsPrinted}
use Rattle.canonical_text.proofs.functions.put_all_meant.Given as goal

abbrev pub invariant-loop-raw : goal.invariant-loop-raw
invariant-loop-raw g l = PutsPrinted g.O.Output.holds l.fn.out l.out (take l.raw-index l.raws) l.heads.items
