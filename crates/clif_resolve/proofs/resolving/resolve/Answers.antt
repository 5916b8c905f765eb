use Rattle.std.proofs.Common.{List, subst}
use Rattle.std.specs.Prelude.{IfErr, IfOk}
use Rattle.clif_read.specs.declared.raw.RawFunction.{RawFunction}
use Rattle.clif_names.specs.Faults.{IsNamesFault, NoFault, of_functions}
use Rattle.clif_meaning.specs.Meaning.{Means}
use Rattle.clif_resolve.proofs.resolving.resolve.Goals as goal

pub returns-clause-meant : goal.returns-clause-meant
returns-clause-meant c =
    subst (λ (fs : List RawFunction). IfOk c.resolve_functions.result (λ r. NoFault (of_functions fs) × Means (of_functions fs) r.0))
    c.as_slice.ensures c.resolve_functions.ensures.meant

pub returns-clause-fault : goal.returns-clause-fault
returns-clause-fault c =
    subst (λ (fs : List RawFunction). IfErr c.resolve_functions.result (IsNamesFault (of_functions fs)))
    c.as_slice.ensures c.resolve_functions.ensures.fault
