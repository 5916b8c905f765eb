use Rattle.std.proofs.Common.{ℕ, ◌-◌, ◌∷◌}
use Rattle.std.specs.VecDeque.{deque_capacity, deque_len}
use Rattle.publish_table.specs.Seats.{StaysSeat, view_of}
use Rattle.worker_driver.specs.Turns.{IsDoneBut, OnlyDrew}
use Rattle.worker_driver.proofs.drawing.draw_ahead.Given as goal

abbrev pub invariant-loop-seat : goal.invariant-loop-seat
invariant-loop-seat l = record {
  seat : StaysSeat l.board l.initial.seat l.seat;
  view : OnlyDrew l.board.count (view_of l.initial.seat) (view_of l.seat);
  left : (t : ℕ) → IsDoneBut l.board.count (view_of l.initial.seat) (t ∷ l.initial.ahead.items) → IsDoneBut l.board.count (view_of l.seat) (t ∷ l.ahead.items);
}

abbrev pub decreases-loop-seat : goal.decreases-loop-seat
decreases-loop-seat l = deque_capacity l.ahead - deque_len l.ahead
