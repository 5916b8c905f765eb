use Rattle.std.proofs.Common.{subst}
use Rattle.interp.specs.Outcome.{shown_of}
use Rattle.ir_text.specs.TextTree.{Text, spelled}
use Rattle.program_run.specs.RunText.{shown_text}
use Rattle.text_output.specs.Output.{Puts}
use Rattle.program_run.proofs.Separated.{separated_map}
use Rattle.program_run.proofs.events.put_shown.Goals as goal

pub returns : goal.returns
returns g c =
    subst (λ (t : Text). Puts g.O.Output.holds c.args.out.now c.put_list.new.out (spelled t)) (separated_map shown_of shown_text c.args.shown.now) c.put_list.ensures
