use Rattle.clif_read.proofs.ModuleLaws.{module_is}
use Rattle.clif_read.proofs.laws.read_by_the_grammar.Goals as goal

pub returns : goal.returns
returns c = module_is.same
