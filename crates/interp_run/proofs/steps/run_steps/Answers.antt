use Rattle.std.proofs.Common.{◌∙◌, ap, sym, []}
use Rattle.ir_semantics.specs.Machine.{On}
use Rattle.ir_semantics.specs.Runs.{run}
use Rattle.interp.specs.State.{frame_of, waits_of, world_of, moment, stop_of}
use Rattle.interp_run.proofs.Running.{run_next, run_stops}
use Rattle.interp_run.proofs.steps.run_steps.Goals as goal

pub returns-in-Some : goal.returns-in-Some
returns-in-Some c =
    let m = c.args.program.now.module.now in
    run_stops m c.args.steps c.steps.made (frame_of m c.steps.top) (waits_of m c.steps.below.items) (world_of c.steps.world) (world_of c.step.new.world) (stop_of c.in-Some.stop) (run m c.args.steps (On (frame_of m c.args.top.now) [] (world_of c.args.world.now))) c.steps-test.true
    (ap (moment m c.step.new.top c.step.new.below.items (world_of c.step.new.world)) (sym c.in-Some.is) ∙ c.in_ok-moved.ensures) c.steps.invariant

pub steps-preserved : goal.steps-preserved
steps-preserved c =
    let m = c.args.program.now.module.now in
    run_next m c.args.steps c.steps.made (frame_of m c.steps.top) (waits_of m c.steps.below.items) (world_of c.steps.world) (On (frame_of m c.step.new.top) (waits_of m c.step.new.below.items) (world_of c.step.new.world)) (run m c.args.steps (On (frame_of m c.args.top.now) [] (world_of c.args.world.now))) c.steps-test.true
    (ap (moment m c.step.new.top c.step.new.below.items (world_of c.step.new.world)) (sym c.in-None.is) ∙ c.in_ok-moved.ensures) c.steps.invariant
