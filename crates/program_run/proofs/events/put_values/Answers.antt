use Rattle.std.proofs.Common.{subst}
use Rattle.clk_num.specs.Views.{data_of}
use Rattle.ir_text.specs.TextTree.{Text, spelled}
use Rattle.ir_text.specs.TextInstructions.{constant}
use Rattle.text_output.specs.Output.{Puts}
use Rattle.program_run.proofs.Separated.{separated_map}
use Rattle.program_run.proofs.events.put_values.Goals as goal

pub returns : goal.returns
returns g c =
    subst (λ (t : Text). Puts g.O.Output.holds c.args.out.now c.put_list.new.out (spelled t)) (separated_map data_of constant c.args.values.now) c.put_list.ensures
