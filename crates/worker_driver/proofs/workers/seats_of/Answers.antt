use Rattle.std.proofs.Common.{◌≡◌, List, ◌∷◌, ◌++◌, [], ap, ◌∙◌, sym, arith}
use mathlib.Core.List.{map-append}
use Rattle.ir_core.specs.Module.{Module}
use Rattle.inline_finish.specs.declared.bodies.Policy.{Policy}
use Rattle.publish_table.specs.declared.board.Seat.{Seat}
use Rattle.publish_table.specs.Seats.{view_of}
use Rattle.publish_table.proofs.Gathers.{all_head}
use Rattle.worker_driver.specs.Turns.{CountsWell, cost_of, cost_in, seat_at}
use Rattle.worker_driver.proofs.Desks.{cost_more}
use Rattle.worker_driver.proofs.workers.seats_of.Goals as goal

pub loop-desk-preserved : goal.loop-desk-preserved
loop-desk-preserved g c = let p : Policy = c.args.policy in let m : Module = c.args.«module».now in let i = c.loop-desk.invariant in
    let seats : List Seat = c.loop-desk.seats.items in let seat : Seat = c.in-Some.desk.seat in
    let h = all_head (CountsWell p m) c.in-Some.desk c.next.new.self.rest.items c.loop-desk.desk-iterator.rest.items c.in-Some.ensures.steps.0 i.left in
    let pushed = c.in_ok-push.ensures.items in record {
      seats = pushed ∙ (ap (λ (l : List Seat). l ++ seat ∷ []) i.seats ∙ sym (map-append seat_at c.loop-desk.yielded (c.in-Some.desk ∷ [])));
      steps =
          let count : c.in-Some.desk.count ≡ cost_of p m (view_of seat).bodies = h.0 in
          let a = c.add_many.ensures in let b = i.steps in let e = ap (cost_in p m) pushed ∙ cost_more p m seats seat in omega arith;
      left = h.1;
    }
