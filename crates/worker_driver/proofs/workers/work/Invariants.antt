use Rattle.std.proofs.Common.{◌≡◌, ◌+◌, ◌*◌, ◌≤◌, length}
use Rattle.publish_table.specs.Seats.{IsSeatOf, view_of}
use Rattle.worker_driver.specs.Turns.{IsDoneBut, IsNoted, IsOnce, IsSameSeat, RoseBy, cost_of}
use Rattle.worker_driver.proofs.workers.work.Given as goal

abbrev pub invariant-loop : goal.invariant-loop
invariant-loop g l = record {
  seat : IsSeatOf l.board l.seat × IsSameSeat l.initial.seat l.seat;
  done : IsDoneBut l.board.count (view_of l.seat) l.ahead.items;
  noted : IsNoted l.«module» (view_of l.seat);
  once : IsOnce l.«module» (view_of l.seat);
  count : cost_of l.policy l.«module» (view_of l.seat).bodies ≡ cost_of l.policy l.«module» (view_of l.initial.seat).bodies + l.count;
  steps : RoseBy (view_of l.seat) l.count l.initial.steps l.steps;
  bound : l.count ≤ 18446744073709551616 * length (view_of l.seat).bodies;
}
