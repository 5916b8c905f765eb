use Rattle.text_read_back.proofs.Defined.{module_numbered}
use Rattle.text_read_back.proofs.laws.text_is_numbered.Goals as goal

pub returns : goal.returns
returns c = λ m is. module_numbered m is.whole
