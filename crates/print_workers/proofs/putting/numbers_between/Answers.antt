use Rattle.print_workers.proofs.RoomLemmas.{one_more}
use Rattle.print_workers.proofs.putting.numbers_between.Goals as goal

pub loop-i-preserved : goal.loop-i-preserved
loop-i-preserved g c =
    one_more (g.F.Functions.functions c.args.functions.now) c.args.from c.loop-i.i c.func.result.now.function c.loop-i.numbers c.make_room.new.self c.loop-i.invariant c.make_room.ensures.kept c.func.ensures.same c.in_ok-make_room.ensures.room
