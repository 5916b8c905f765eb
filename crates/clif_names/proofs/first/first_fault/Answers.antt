use Rattle.clif_names.specs.Faults.{ListFault, InSomeFunction, of_functions}
use Rattle.clif_names.specs.LeastSpots.{joined}
use Rattle.clif_names.proofs.FirstLaws.{first_is, joined_least}
use Rattle.clif_names.proofs.first.first_fault.Goals as goal

pub returns : goal.returns
returns c =
    let fs = c.args.functions.now in
    rw (c.first_of.ensures, c.join.ensures)
    (first_is (of_functions fs) (joined c.in_ok-among.among c.in_ok-inside.inside)
    (joined_least (ListFault fs) (InSomeFunction fs) c.in_ok-among.among c.in_ok-inside.inside c.in_ok-among.ensures c.in_ok-inside.ensures))
