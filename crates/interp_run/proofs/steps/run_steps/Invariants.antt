use Rattle.std.proofs.Common.{◌≡◌, ◌-◌, []}
use Rattle.ir_semantics.specs.Machine.{On}
use Rattle.ir_semantics.specs.Runs.{run}
use Rattle.interp.specs.State.{frame_of, waits_of, world_of}
use Rattle.interp_run.proofs.steps.run_steps.Given as goal

abbrev pub invariant-steps : goal.invariant-steps
invariant-steps l = let m = l.program.module.now in run m (l.steps - l.made) (On (frame_of m l.top) (waits_of m l.below.items) (world_of l.world)) ≡ run m l.steps (On (frame_of m l.fn.top) [] (world_of l.fn.world))
