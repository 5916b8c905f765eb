use Rattle.gen_mod.proofs.Making.{Makes}
use Rattle.gen_mod.proofs.generated.generate.Given as goal

abbrev pub invariant-made : goal.invariant-made
invariant-made l = Makes l.number l.functions l.i l.state l.module
