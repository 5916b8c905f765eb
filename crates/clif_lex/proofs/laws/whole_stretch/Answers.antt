use Rattle.clif_lex.proofs.Stretches.{whole_stretch, stretch_of_whole}
use Rattle.clif_lex.proofs.laws.whole_stretch.Goals as goal

pub returns : goal.returns
returns c = λ ts. (whole_stretch c.args.text.now ts, stretch_of_whole c.args.text.now ts)
