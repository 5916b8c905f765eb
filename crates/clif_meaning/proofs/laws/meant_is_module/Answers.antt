use Rattle.clif_meaning.proofs.ModuleLaws.{meant_is_module}
use Rattle.clif_meaning.proofs.laws.meant_is_module.Goals as goal

pub returns : goal.returns
returns c = meant_is_module
