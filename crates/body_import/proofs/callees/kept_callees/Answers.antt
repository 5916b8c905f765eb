use Rattle.std.proofs.Common.{length, ◌<◌, subst, sym}
use Rattle.ir_core.specs.declared.declarations.Callee.{Callee}
use Rattle.body_import.proofs.FirstPlaces.{each_at}
use Rattle.body_import.proofs.callees.kept_callees.Goals as goal

pub push_callee-requires : goal.push_callee-requires
push_callee-requires c = let P : Callee → Type 0 = λ k. k.sig < length c.args.table.now in subst P (sym c.callee-item.is) (each_at P c.args.callees.now c.loop-callee.callee-index c.callee-item.result c.requires.in_range c.loop-callee-test.true)
