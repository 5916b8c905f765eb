use Rattle.std.proofs.Common.{◌≤◌, ◌-◌, length}
use Rattle.print_workers.proofs.cuts.go_on.Given as goal

abbrev pub invariant-functions : goal.invariant-functions
invariant-functions g l = record {
  later : l.fn.from.func ≤ l.reached.func;
  within : l.reached.func ≤ length (g.F.Functions.functions l.functions);
}

abbrev pub decreases-functions : goal.decreases-functions
decreases-functions g l = length (g.F.Functions.functions l.functions) - l.reached.func
