use Rattle.std.proofs.Common.{length, ◌<◌, subst, sym}
use Rattle.ir_core.specs.declared.declarations.Callee.{Callee}
use Rattle.body_import.proofs.FirstPlaces.{each_at}
use Rattle.body_import.proofs.callees.callee_keys.Goals as goal

pub number_at-sig-requires : goal.number_at-sig-requires
number_at-sig-requires c = let P : Callee → Type 0 = λ k. k.sig < length c.args.table.now in subst P (sym c.callee-item.is) (each_at P c.args.callees.now c.loop-callee.callee-index c.callee-item.result c.requires c.loop-callee-test.true)
