use Rattle.std.proofs.Common.{rules, ◌≡◌, ℕ, List, ◌∷◌, ap}
use Rattle.publish_table.specs.declared.view.View.{View}
use Rattle.publish_table.specs.Plays.{once_ended}
use Rattle.worker_driver.proofs.Views.{only_drew_by, only_drew_both, only_drew_end, left_more, left_end}
use Rattle.worker_driver.proofs.drawing.draw_ahead.Goals as goal

pub returns-in_default-clause-view : goal.returns-in_default-clause-view
returns-in_default-clause-view c = let n : ℕ = c.args.board.now.count in
    let v : View = c.loop-seat.seat.place.me.0 in let w : View = c.draw.new.seat.place.me.0 in let e : w ≡ once_ended v = search rules in
    only_drew_both n c.args.seat.now.place.me.0 v w c.loop-seat.invariant.view (only_drew_end n v w e)

pub returns-in_default-clause-left : goal.returns-in_default-clause-left
returns-in_default-clause-left c = λ t h. let n : ℕ = c.args.board.now.count in
    let v : View = c.loop-seat.seat.place.me.0 in let w : View = c.draw.new.seat.place.me.0 in let e : w ≡ once_ended v = search rules in
    left_end n v w (t ∷ c.loop-seat.ahead.items) e (c.loop-seat.invariant.left t h)

pub loop-seat-preserved : goal.loop-seat-preserved
loop-seat-preserved c = let n : ℕ = c.args.board.now.count in let d = c.in-Some.ensures.some in
    let v : View = c.loop-seat.seat.place.me.0 in let w : View = c.draw.new.seat.place.me.0 in record {
      seat = search rules;
      view = only_drew_both n c.args.seat.now.place.me.0 v w c.loop-seat.invariant.view (only_drew_by n v w c.in-Some.ticket d.1 d.2 d.0);
      left = λ t h. left_more n v w c.in-Some.ticket (t ∷ c.loop-seat.ahead.items) _ d.1 d.2 d.0
          (ap (λ (l : List ℕ). t ∷ l) c.push_back_reserved.ensures.items) (c.loop-seat.invariant.left t h);
    }
