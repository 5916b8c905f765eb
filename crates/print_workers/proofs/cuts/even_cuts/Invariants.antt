use Rattle.std.proofs.Common.{◌≤◌, ◌-◌, length}
use Rattle.print_workers.specs.Parts.{AreCuts}
use Rattle.print_workers.proofs.cuts.even_cuts.Given as goal

abbrev pub invariant-loop-i : goal.invariant-loop-i
invariant-loop-i g l = record {
  are : AreCuts l.reached.func (l.i - 1) l.cuts.items;
  within : l.reached.func ≤ length (g.F.Functions.functions l.functions);
}
