use Rattle.std.proofs.Common.{take}
use Rattle.ir_core.specs.Lists.{Each}
use Rattle.ir_core.specs.Named.{IsIndex, functions_in}
use Rattle.ir_core.specs.Sound.{IsSound}
use Rattle.ir_core.specs.WellFormed.{DifferentNames}
use Rattle.ir_core.proofs.index.Names.of.Given as goal

abbrev pub invariant-functions : goal.invariant-functions
invariant-functions l = record {
  index : IsIndex l.names (functions_in (take l.place l.funcs));
  apart : DifferentNames (functions_in (take l.place l.funcs));
  sound : Each IsSound (functions_in (take l.place l.funcs));
}
