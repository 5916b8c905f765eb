use Rattle.std.proofs.Common.{take}
use Rattle.ir_core.specs.Lists.{Each}
use Rattle.ir_semantics.specs.CallRules.{Declared}
use Rattle.clif_check.proofs.declarations.declares_at.Given as goal

abbrev pub invariant-loop-callee : goal.invariant-loop-callee
invariant-loop-callee g l = Each (Declared (g.N.Named.functions l.all) l.func.function) (take l.callee-index l.callee-items)
