use Rattle.std.proofs.Common.{length, ◌<◌, subst, sym, refl}
use Rattle.ir_core.specs.declared.declarations.Callee.{Callee}
use Rattle.body_import.proofs.FirstPlaces.{each_at}
use Rattle.body_import.proofs.callees.callee_places.Goals as goal

pub number_at-sig-requires : goal.number_at-sig-requires
number_at-sig-requires c = let P : Callee → Type 0 = λ k. k.sig < length c.args.first.now in subst P (sym c.callee-item.is) (each_at P c.args.callees.now c.loop-callee.callee-index c.callee-item.result c.requires.in_range c.loop-callee-test.true)

pub loop-callee-init : goal.loop-callee-init
loop-callee-init c = (c.new-places.ensures 0, refl)
