use Rattle.clif_check.specs.Declarations.{DeclareWithin}
use Rattle.clif_check.proofs.declarations.declare_within.Given as goal

abbrev pub invariant-loop-place : goal.invariant-loop-place
invariant-loop-place g l = DeclareWithin (g.N.Named.functions l.all) l.from l.place
