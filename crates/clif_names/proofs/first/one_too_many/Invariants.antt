use Rattle.std.proofs.Common.{take}
use Rattle.clif_names.specs.Faults.{IsOneTooMany}
use Rattle.name_tables.specs.Least.{IsLeast}
use Rattle.clif_names.proofs.first.one_too_many.Given as goal

abbrev pub invariant-loop-place : goal.invariant-loop-place
invariant-loop-place l = IsLeast (IsOneTooMany (take l.place l.functions)) l.least
