use Rattle.ir_text.specs.TextTree.{spelled}
use Rattle.text_output.specs.Output.{Puts}
use Rattle.program_run.specs.RunText.{groups_text}
use Rattle.program_run.proofs.memory.put_memory.Given as goal

abbrev pub invariant-loop-i : goal.invariant-loop-i
invariant-loop-i g l = Puts g.O.Output.holds l.initial.out l.out (spelled (groups_text l.memory l.i))
