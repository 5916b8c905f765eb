use Rattle.clif_lex.proofs.Stretches.{stretch_by_stretch}
use Rattle.clif_lex.proofs.laws.stretch_by_stretch.Goals as goal

pub returns : goal.returns
returns c = stretch_by_stretch c.args.text.now
