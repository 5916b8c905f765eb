use Rattle.std.proofs.Common.{List, subst}
use Rattle.clif_meaning.specs.Reads.{alone}
use Rattle.clif_meaning.specs.Spots.{Spots}
use Rattle.clif_check.specs.Faults.{IsErrOf}
use Rattle.clif_check.proofs.Standing.{fault_stands, some_there}
use Rattle.clif_check.proofs.Stages.{refused_has_spot, rule_is_fault}
use Rattle.clif_check.proofs.checking.check_func.Goals as goal

pub text_err-requires : goal.text_err-requires
text_err-requires c =
    let m = c.in_ok-module.«module» in
    refused_has_spot m c.in_ok-module.places c.in-Err.rejected.err
    (λ func item rule first.
    let stands = fault_stands (alone c.args.raw.now c.args.func) m func item rule c.in_ok-module.ensures.meant.1 first in
    rw c.in_ok-module.ensures.places (some_there _ stands.0 stands.1))
    c.in-Err.ensures.fault

pub returns-clause-fault : goal.returns-clause-fault
returns-clause-fault c =
    let raw = alone c.args.raw.now c.args.func in
    rule_is_fault raw c.in_ok-module.«module» c.in-Err.rejected.err c.text_err.result c.in_ok-module.ensures.meant.0 c.in_ok-module.ensures.meant.1 c.in-Err.ensures.fault
    (subst (λ (places : List Spots). IsErrOf places c.in-Err.rejected.err c.text_err.result) c.in_ok-module.ensures.places c.text_err.ensures)
