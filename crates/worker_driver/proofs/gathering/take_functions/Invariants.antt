use Rattle.std.proofs.Common.{◌≡◌, ◌≤◌, ◌*◌, length, map, sum}
use Rattle.ir_core.specs.Lists.{Each}
use Rattle.ir_core.specs.Sound.{IsSound}
use Rattle.worker_driver.specs.Gathered.{functions_in, inlined_in}
use Rattle.worker_driver.proofs.Gathered.{of_funcs}
use Rattle.worker_driver.proofs.gathering.take_functions.Given as goal

abbrev pub invariant-loop-built : goal.invariant-loop-built
invariant-loop-built l = record {
  functions : of_funcs l.funcs.items ≡ functions_in l.yielded;
  sound : Each IsSound (of_funcs l.funcs.items);
  inlined : l.inlined ≡ sum (map inlined_in l.yielded);
  by_function : l.inlined_by_function.items ≡ map inlined_in l.yielded;
  bound : l.inlined ≤ 18446744073709551615 * length l.inlined_by_function.items;
}
