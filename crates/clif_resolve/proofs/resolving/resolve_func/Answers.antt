use Rattle.std.proofs.Common.{List, subst}
use Rattle.std.specs.Prelude.{IfErr, IfOk}
use Rattle.clif_read.specs.declared.raw.RawFunction.{RawFunction}
use Rattle.clif_names.specs.Faults.{IsNamesFault, NoFault, of_functions}
use Rattle.clif_meaning.specs.Meaning.{Means}
use Rattle.clif_resolve.proofs.Alone.{range_of_one}
use Rattle.clif_resolve.proofs.resolving.resolve_func.Goals as goal

pub returns-clause-meant : goal.returns-clause-meant
returns-clause-meant c =
    subst (λ (fs : List RawFunction). IfOk c.resolve_functions.result (λ r. NoFault (of_functions fs) × Means (of_functions fs) r.0))
    (range_of_one c.as_slice.result.now c.args.raw.now c.args.func c.as_slice.ensures) c.resolve_functions.ensures.meant

pub returns-clause-fault : goal.returns-clause-fault
returns-clause-fault c =
    subst (λ (fs : List RawFunction). IfErr c.resolve_functions.result (IsNamesFault (of_functions fs)))
    (range_of_one c.as_slice.result.now c.args.raw.now c.args.func c.as_slice.ensures) c.resolve_functions.ensures.fault
