use Rattle.clifinl.proofs.InlineEnds.{inline_run}
use Rattle.clifinl.proofs.Runs.{honest, stopped, written}
use Rattle.clifinl.proofs.inlining.inline.Goals as goal

pub returns-in-Ok-clause-run : goal.returns-in-Ok-clause-run
returns-in-Ok-clause-run g c =
    inline_run c.inlined_text_is_kept.ensures _ c.args.options.now.caller_size_in_range _ _ _
    (written _ _ _ _ _ _ _ c.in-Ok.ensures.read c.write_inlined-status.ensures.wrote)

pub returns-in-Err-clause-run : goal.returns-in-Err-clause-run
returns-in-Err-clause-run g c =
    inline_run c.inlined_text_is_kept.ensures _ c.args.options.now.caller_size_in_range _ _ _
    (stopped _ _ _ _ _ honest _ c.in-Err.ensures.stopped)
