use Rattle.clif_insts.proofs.InstLaws.{inst_is}
use Rattle.clif_insts.proofs.laws.read_by_the_grammar.Goals as goal

pub returns : goal.returns
returns c = λ opening. (inst_is opening).same
