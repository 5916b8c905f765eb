use Rattle.std.proofs.Common.{◌≡◌, List, [], ◌∷◌, length, sym, ap, ◌∙◌, subst, arith}
use Rattle.ir_core.specs.Module.{Module}
use Rattle.publish_table.specs.declared.board.Board.{Board}
use Rattle.publish_table.specs.declared.board.Seat.{Seat}
use Rattle.publish_table.specs.Seats.{AreAllSeats}
use Rattle.worker_driver.specs.Turns.{IsThroughAs}
use Rattle.worker_driver.proofs.Closing.{many, all_seats}
use Rattle.worker_tests.proofs.Pairs.{two_of, pair_through}
use Rattle.worker_tests.proofs.turns.refuse_and_take.Goals as goal

pub returns : goal.returns
returns g c =
    let m : Module = c.args.«module».now in let b : Board = c.args.board.now in let all : List Seat = c.args.seats.items in
    let o : Seat = c.in_ok-other.other in let l : Seat = c.in_ok-last.last in
    let o' : Seat = c.in_ok-other-3.other in let l' : Seat = c.in_ok-last-2.last in
    let n = many m c.args.policy 2 b all c.requires.seats in
    let is : all ≡ o ∷ l ∷ [] = two_of all c.pop.new.self.items c.pop-2.new.self.items o l n c.in_ok-last.ensures.items c.in_ok-other.ensures.items in
    let p = c.in_ok-other-2.ensures.seat.1 in let q = c.in_ok-other-3.ensures.seat.1 in
    let r = c.turn_of_idle-turn.ensures.seat.1 in let s = c.in_ok-last-2.ensures.seat.1 in
    let one : IsThroughAs m b o o' =
    ((c.in_ok-other-3.ensures.seat.0, c.in_ok-other-3.ensures.done.0, c.in_ok-other-3.ensures.ended, c.in_ok-other-3.ensures.done.1), (q.0 ∙ p.0, q.1 ∙ p.1)) in
    let two : IsThroughAs m b l l' =
    ((c.in_ok-last-2.ensures.seat.0, c.in_ok-last-2.ensures.done.0, c.in_ok-last-2.ensures.ended, c.in_ok-last-2.ensures.done.1), (s.0 ∙ r.0, s.1 ∙ r.1)) in
    subst (AreAllSeats b) (sym c.in-Ok.ensures.items) (all_seats m c.args.policy 2 b all c.requires.seats (o' ∷ l' ∷ []) (omega arith) (let e = ap length is in omega arith)
    (pair_through m b all o l o' l' is one two))
