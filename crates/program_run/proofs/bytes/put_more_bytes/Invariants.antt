use Rattle.std.proofs.Common.{length}
use Rattle.ir_text.specs.TextTree.{spelled}
use Rattle.text_output.proofs.Puts.{Going}
use Rattle.program_run.specs.RunText.{more_bytes}
use Rattle.program_run.proofs.bytes.put_more_bytes.Given as goal

abbrev pub invariant-bytes : goal.invariant-bytes
invariant-bytes g l = Going g.O.Output.holds l.initial.out l.out (spelled (more_bytes l.rest)) (spelled (more_bytes l.bytes))

abbrev pub decreases-bytes : goal.decreases-bytes
decreases-bytes g l = length l.rest
