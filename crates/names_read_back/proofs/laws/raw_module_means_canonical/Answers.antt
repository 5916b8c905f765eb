use Rattle.names_read_back.proofs.Canonical.{module_means}
use Rattle.names_read_back.proofs.laws.raw_module_means_canonical.Goals as goal

pub returns : goal.returns
returns c = λ m is w. module_means m is.whole w.functions
