use Rattle.std.proofs.Common.{drop}
use Rattle.ir_text.specs.TextTree.{spelled}
use Rattle.ir_text.specs.TextDeclarations.{declarations}
use Rattle.text_output.proofs.Puts.{Going}
use Rattle.clif_print.proofs.declarations.put_declarations.Given as goal

abbrev pub invariant-loop-i : goal.invariant-loop-i
invariant-loop-i g l = Going g.O.Output.holds l.initial.out l.out (spelled (declarations g.T.Declared.line l.i (drop l.i l.items))) (spelled (declarations g.T.Declared.line 0 l.items))
