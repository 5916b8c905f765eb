use Rattle.std.proofs.Common.{[], refl}
use Rattle.worker_driver.proofs.Views.{idle_done}
use Rattle.worker_tests.proofs.Pairs.{refused_done}
use Rattle.worker_tests.proofs.turns.refuse.Goals as goal

pub returns-clause-done : goal.returns-clause-done
returns-clause-done c =
    let drew = c.in_ok-ticket.ensures.some in
    let idle = idle_done c.args.«module».now c.args.board.now c.args.seat [] refl c.requires in
    refused_done c.args.«module».now c.args.board.now.count c.args.seat.place.me.0 c.draw.new.seat.place.me.0 c.publish.new.seat.place.me.0 c.in_ok-ticket.ticket
    idle.0 idle.1 drew.1 drew.2 drew.0 c.publish.ensures.noted
