use Rattle.publish_table.specs.Seats.{StaysSeat, view_of}
use Rattle.worker_driver.specs.Reading.{IsFor, OnlyRead, ReadSoFar}
use Rattle.worker_driver.proofs.taking.read_callees.Given as goal

abbrev pub invariant-loop-callee : goal.invariant-loop-callee
invariant-loop-callee g l = record {
  seat : StaysSeat l.board l.initial.seat l.seat;
  view : OnlyRead (view_of l.initial.seat) (view_of l.seat);
  kind : IsFor l.«module» l.fn.policy l.callees;
  read : ReadSoFar l.plan l.func l.callee-index l.callees (view_of l.seat);
}
