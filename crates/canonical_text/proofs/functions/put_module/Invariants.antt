use Rattle.std.proofs.Common.{drop}
use Rattle.ir_text.specs.TextTree.{spelled}
use Rattle.ir_text.specs.Text.{more_functions}
use Rattle.text_output.proofs.Puts.{Going}
use Rattle.canonical_text.proofs.functions.put_module.Given as goal

abbrev pub invariant-loop-i : goal.invariant-loop-i
invariant-loop-i g l = Going g.O.Output.holds l.fn.out l.out (spelled (more_functions (drop l.i l.module))) (spelled (more_functions l.module))
