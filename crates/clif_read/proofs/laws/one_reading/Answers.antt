use Rattle.std.proofs.Common.{refl}
use Rattle.grammar.proofs.Exact.{exact}
use Rattle.clif_read.specs.ModuleGrammar.{module_rule}
use Rattle.clif_read.proofs.laws.one_reading.Goals as goal

pub returns : goal.returns
returns c = exact module_rule refl
