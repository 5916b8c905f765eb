use Rattle.clifinl.proofs.PrintEnds.{print_run}
use Rattle.clifinl.proofs.Runs.{honest, stopped, written}
use Rattle.clifinl.proofs.commands.print.Goals as goal

pub returns-in-Ok-clause-run : goal.returns-in-Ok-clause-run
returns-in-Ok-clause-run g c =
    let (m, took, same) = c.in-Ok.ensures.read in
    print_run c.printed_text_reads_back.ensures _ _ _
    (written _ _ _ _ _ _ _ took (rw same at c.write_canonical_text-status.ensures.wrote))

pub returns-in-Err-clause-run : goal.returns-in-Err-clause-run
returns-in-Err-clause-run g c =
    print_run c.printed_text_reads_back.ensures _ _ _ (stopped _ _ _ _ _ honest _ c.in-Err.ensures.stopped)
