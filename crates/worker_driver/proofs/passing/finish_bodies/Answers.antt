use Rattle.std.proofs.Common.{◌≡◌, ℕ, ◌+◌, List, length, ◌∙◌, subst, arith}
use Rattle.std.proofs.lemmas.Result.{on_ok_weaker}
use Rattle.ir_core.specs.Module.{Module}
use Rattle.ir_core.specs.WellFormed.{DifferentNames}
use Rattle.inline_finish.specs.declared.bodies.Policy.{Policy}
use Rattle.publish_table.specs.declared.board.Board.{Board}
use Rattle.publish_table.specs.declared.board.Seat.{Seat}
use Rattle.publish_table.specs.declared.view.Cell.{Cell}
use Rattle.publish_table.specs.Seats.{IsMade}
use Rattle.worker_driver.specs.Turns.{inlined_at, cost_in}
use Rattle.worker_driver.proofs.Closing.{many, all_idle, all_seats, answered, all_cost}
use Rattle.worker_driver.proofs.Costs.{cost_all}
use Rattle.worker_driver.proofs.passing.finish_bodies.Goals as goal

pub drive-requires-clause-seats : goal.drive-requires-clause-seats
drive-requires-clause-seats g c κs within =
    let m : Module = c.args.«module».now in let b : Board = c.in_ok-board.board in let all : List Seat = c.in_ok-board.seats.items in let w : ℕ = c.useful_workers-seated.result in
    let made : IsMade m c.args.policy w b all = subst (λ (fs : Module). IsMade fs c.args.policy w b all) c.module-functions.ensures.same c.in_ok-board.ensures in
    let n = many m c.args.policy w b all made in let some = c.useful_workers-seated.ensures.some.0 in
    (omega (arith, c.in_ok-board.seats.ok), all_idle m c.args.policy w b all made)

pub close-cells-requires : goal.close-cells-requires
close-cells-requires g c =
    let m : Module = c.args.«module».now in let b : Board = c.in_ok-board.board in let all : List Seat = c.in_ok-board.seats.items in let w : ℕ = c.useful_workers-seated.result in
    let made : IsMade m c.args.policy w b all = subst (λ (fs : Module). IsMade fs c.args.policy w b all) c.module-functions.ensures.same c.in_ok-board.ensures in
    let out : List Seat = c.in_ok-seats.seats.items in let same = c.in_ok-seats.ensures.len in let some = c.useful_workers-seated.ensures.some.0 in
    all_seats m c.args.policy w b all made out (omega arith) (omega (arith, c.in_ok-board.seats.ok, c.in_ok-seats.seats.ok))
    (λ i d l. c.in_ok-seats.ensures.each i d (omega (arith, c.in_ok-board.seats.ok, l)))

pub gather_bodies-requires-clause-cells : goal.gather_bodies-requires-clause-cells
gather_bodies-requires-clause-cells g c =
    answered c.module-functions.result.now c.args.policy c.useful_workers-seated.result c.in_ok-board.board c.in_ok-board.seats.items c.in_ok-board.ensures
    c.in_ok-seats.seats.items c.close-cells.result.items c.close-cells.ensures

pub returns-clause-steps : goal.returns-clause-steps
returns-clause-steps g c = on_ok_weaker c.gather_bodies.result (λ none.
    let m : Module = c.args.«module».now in let b : Board = c.in_ok-board.board in let all : List Seat = c.in_ok-board.seats.items in let w : ℕ = c.useful_workers-seated.result in
    let p : Policy = c.args.policy in
    let made : IsMade m p w b all = subst (λ (fs : Module). IsMade fs p w b all) c.module-functions.ensures.same c.in_ok-board.ensures in
    let out : List Seat = c.in_ok-seats.seats.items in let cells : List Cell = c.close-cells.result.items in let same = c.in_ok-seats.ensures.len in
    let long : length out ≡ length all = omega (arith, c.in_ok-board.seats.ok, c.in_ok-seats.seats.ok) in
    let names = subst (λ (fs : Module). DifferentNames fs) c.module-functions.ensures.same c.module-functions.ensures.functions.names in
    let cost : cost_in p m out ≡ _ = all_cost m p w b all made out cells long
    (λ i d l. c.in_ok-seats.ensures.each i d (omega (arith, c.in_ok-board.seats.ok, l))) c.close-cells.ensures none (λ t. 1 + inlined_at p m t)
    ∙ cost_all p m names in
    let steps = c.in_ok-seats.ensures.steps in omega arith) c.gather_bodies.ensures.none_refused
