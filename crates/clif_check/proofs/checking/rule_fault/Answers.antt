use Rattle.std.proofs.Common.{List, subst}
use Rattle.clif_meaning.specs.Spots.{Spots}
use Rattle.clif_check.specs.Faults.{IsErrOf}
use Rattle.clif_check.proofs.Standing.{fault_stands, some_there}
use Rattle.clif_check.proofs.Stages.{refused_has_spot, rule_is_fault}
use Rattle.clif_check.proofs.checking.rule_fault.Goals as goal

pub text_err-requires : goal.text_err-requires
text_err-requires c =
    refused_has_spot c.args.rejected.module c.in-Ok.places c.args.rejected.err
    (λ func item rule first.
    let stands = fault_stands c.args.raw.now c.args.rejected.module func item rule c.requires.means first in
    rw c.in-Ok.ensures (some_there _ stands.0 stands.1))
    c.requires.refused

pub returns-in-Ok : goal.returns-in-Ok
returns-in-Ok c =
    rule_is_fault c.args.raw.now c.args.rejected.module c.args.rejected.err c.text_err.result c.requires.free c.requires.means c.requires.refused
    (subst (λ (places : List Spots). IsErrOf places c.args.rejected.err c.text_err.result) c.in-Ok.ensures c.text_err.ensures)
