use Rattle.worker_driver.proofs.ReadBodies.{apart_read}
use Rattle.worker_driver.proofs.taking.read_apart.Goals as goal

pub returns-clause-read : goal.returns-clause-read
returns-clause-read g c = λ ok. apart_read c.args.plan.now c.args.func c.args.callee c.args.callees.now c.read_callee.new.callees c.read_callee.new.seat.place.me.0 (c.read_callee.ensures.read ok)
