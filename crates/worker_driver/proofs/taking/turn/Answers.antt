use Rattle.std.proofs.Common.{arith}
use Rattle.worker_driver.proofs.Views.{open_now, done_by_body, done_by_refusal, noted_by_body, noted_by_refusal, once_by_body, once_by_refusal, ticket_low}
use Rattle.worker_driver.proofs.taking.turn.Goals as goal

pub publish-requires-clause-ticket : goal.publish-requires-clause-ticket
publish-requires-clause-ticket g c =
    open_now c.args.«module».now c.args.board.now.count c.args.seat.now.place.me.0 c.next_ticket.new.seat.place.me.0 c.build.new.seat.place.me.0 c.in-Some.ticket c.next_ticket.new.ahead.items c.next_ticket.ensures.view c.in-Some.ensures.some c.build.ensures.view

pub publish-requires-2-clause-ticket : goal.publish-requires-2-clause-ticket
publish-requires-2-clause-ticket g c =
    open_now c.args.«module».now c.args.board.now.count c.args.seat.now.place.me.0 c.next_ticket.new.seat.place.me.0 c.build.new.seat.place.me.0 c.in-Some.ticket c.next_ticket.new.ahead.items c.next_ticket.ensures.view c.in-Some.ensures.some c.build.ensures.view

pub returns-in-Some-build-clause-done : goal.returns-in-Some-build-clause-done
returns-in-Some-build-clause-done g c = (
  done_by_body c.args.«module».now c.args.board.now.count c.args.seat.now.place.me.0 c.next_ticket.new.seat.place.me.0 c.build.new.seat.place.me.0 c.in-Some.ticket c.next_ticket.new.ahead.items c.next_ticket.ensures.view c.in-Some.ensures.some c.build.ensures.view _ c.publish.ensures.noted,
  noted_by_body c.args.«module».now c.args.board.now.count c.args.seat.now.place.me.0 c.next_ticket.new.seat.place.me.0 c.build.new.seat.place.me.0 c.in-Some.ticket c.next_ticket.new.ahead.items c.next_ticket.ensures.view c.in-Some.ensures.some c.build.ensures.view c.requires.done.1 c.in-Some-build.ensures.noted _ c.publish.ensures.noted,
)

pub returns-clause-done : goal.returns-clause-done
returns-clause-done g c = (
  done_by_refusal c.args.«module».now c.args.board.now.count c.args.seat.now.place.me.0 c.next_ticket.new.seat.place.me.0 c.build.new.seat.place.me.0 c.in-Some.ticket c.next_ticket.new.ahead.items c.next_ticket.ensures.view c.in-Some.ensures.some c.build.ensures.view _ c.publish-2.ensures.noted,
  noted_by_refusal c.args.«module».now c.args.board.now.count c.args.seat.now.place.me.0 c.next_ticket.new.seat.place.me.0 c.build.new.seat.place.me.0 c.in-Some.ticket c.next_ticket.new.ahead.items c.next_ticket.ensures.view c.in-Some.ensures.some c.build.ensures.view c.requires.done.1 _ c.publish-2.ensures.noted,
)

pub returns-in-Some-build-clause-once : goal.returns-in-Some-build-clause-once
returns-in-Some-build-clause-once g c =
    once_by_body c.args.«module».now c.args.board.now.count c.args.seat.now.place.me.0 c.next_ticket.new.seat.place.me.0 c.build.new.seat.place.me.0 c.in-Some.ticket c.next_ticket.new.ahead.items c.next_ticket.ensures.view c.in-Some.ensures.some c.build.ensures.view _ c.publish.ensures.noted c.requires.board.0.2

pub returns-clause-once : goal.returns-clause-once
returns-clause-once g c =
    once_by_refusal c.args.«module».now c.args.board.now.count c.args.seat.now.place.me.0 c.next_ticket.new.seat.place.me.0 c.build.new.seat.place.me.0 c.in-Some.ticket c.next_ticket.new.ahead.items c.next_ticket.ensures.view c.in-Some.ensures.some c.build.ensures.view _ c.publish-2.ensures.noted c.requires.board.0.2

pub build-requires-clause-ticket : goal.build-requires-clause-ticket
build-requires-clause-ticket g c = let n = c.requires.board.0.2 in
    let low = ticket_low c.args.board.now.count c.next_ticket.new.seat.place.me.0 c.in-Some.ticket c.next_ticket.new.ahead.items c.in-Some.ensures.some in omega arith
