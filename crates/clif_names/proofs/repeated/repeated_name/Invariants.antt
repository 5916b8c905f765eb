use Rattle.std.proofs.Common.{take}
use Rattle.clif_names.specs.Faults.{RepeatsName}
use Rattle.name_tables.specs.Least.{IsLeast}
use Rattle.clif_names.proofs.NameSetLaws.{AreNames}
use Rattle.clif_names.proofs.repeated.repeated_name.Given as goal

abbrev pub invariant-loop-func : goal.invariant-loop-func
invariant-loop-func l = record {
  names : AreNames (take l.func-index l.functions) l.names;
  least : IsLeast (RepeatsName (take l.func-index l.functions)) l.least;
}
