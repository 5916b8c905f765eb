use Rattle.std.proofs.Common.{arith}
use Rattle.print_workers.proofs.PartsLemmas.{part_goes}
use Rattle.print_workers.proofs.RoomLemmas.{has_room, keeps}
use Rattle.text_output.proofs.Puts.{◌▸◌}
use Rattle.print_workers.proofs.putting.put_part.Goals as goal

pub put_alone-requires-clause-room : goal.put_alone-requires-clause-room
put_alone-requires-clause-room g c = has_room c.loop-i.invariant.kept (c.requires.room c.loop-i.i c.func.result.now.function (omega (arith, c.loop-i.auto.i)) (omega (arith, c.loop-i-test.true)) c.func.ensures.same)

pub loop-i-preserved : goal.loop-i-preserved
loop-i-preserved g c = record {
  part = part_goes c.func.result.now.function c.loop-i.invariant.part c.func.ensures.same (c.put_before_function.ensures ▸ c.put_alone.ensures.text);
  kept = keeps c.loop-i.invariant.kept c.put_alone.ensures.kept;
}
