use Rattle.script_text.proofs.Examples.{worked_scripts, refused_scripts, worked_lists}
use Rattle.script_text.proofs.laws.worked_examples.Goals as goal

pub returns : goal.returns
returns c = record { scripts = worked_scripts; refused = refused_scripts; lists = worked_lists }
