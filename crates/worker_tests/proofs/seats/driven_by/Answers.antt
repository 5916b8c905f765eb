use Rattle.std.proofs.Common.{List, arith, subst}
use Rattle.ir_core.specs.Module.{Module}
use Rattle.publish_table.specs.declared.board.Board.{Board}
use Rattle.publish_table.specs.declared.board.Seat.{Seat}
use Rattle.publish_table.specs.Seats.{IsMade}
use Rattle.worker_driver.proofs.Closing.{many, all_idle, all_seats}
use Rattle.worker_tests.proofs.seats.driven_by.Goals as goal

pub drive-requires-clause-seats : goal.drive-requires-clause-seats
drive-requires-clause-seats g c κs within =
    let m : Module = c.args.«module».now in let b : Board = c.in_ok-board.board in let all : List Seat = c.in_ok-board.seats.items in
    let made : IsMade m c.args.policy 2 b all = subst (λ (fs : Module). IsMade fs c.args.policy 2 b all) c.module-functions.ensures.same c.in_ok-board.ensures in
    let n = many m c.args.policy 2 b all made in
    (omega (arith, c.in_ok-board.seats.ok), all_idle m c.args.policy 2 b all made)

pub close-requires : goal.close-requires
close-requires g c =
    let m : Module = c.args.«module».now in let b : Board = c.in_ok-board.board in let all : List Seat = c.in_ok-board.seats.items in
    let made : IsMade m c.args.policy 2 b all = subst (λ (fs : Module). IsMade fs c.args.policy 2 b all) c.module-functions.ensures.same c.in_ok-board.ensures in
    let out : List Seat = c.in_ok-seats.seats.items in let same = c.in_ok-seats.ensures.len in
    all_seats m c.args.policy 2 b all made out (omega arith) (omega (arith, c.in_ok-board.seats.ok, c.in_ok-seats.seats.ok))
    (λ i d l. c.in_ok-seats.ensures.each i d (omega (arith, c.in_ok-board.seats.ok, l)))
