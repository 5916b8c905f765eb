use Rattle.std.proofs.Common.{◌≡◌, ◌+◌, All, map}
use Rattle.worker_driver.specs.Turns.{CountsWell, seat_at, cost_in}
use Rattle.worker_driver.proofs.workers.seats_of.Given as goal

abbrev pub invariant-loop-desk : goal.invariant-loop-desk
invariant-loop-desk g l = record {
  seats : l.seats.items ≡ map seat_at l.yielded;
  steps : l.steps ≡ l.initial.steps + cost_in l.fn.policy l.«module» l.seats.items;
  left : All (CountsWell l.fn.policy l.«module») l.desk-iterator.rest.items;
}
