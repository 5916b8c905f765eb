use Rattle.text_read_back.proofs.Modules.{writable_reads_back}
use Rattle.text_read_back.proofs.Spelled.{module_spellable}
use Rattle.text_read_back.proofs.laws.writable_text_reads_back.Goals as goal

pub returns : goal.returns
returns c = λ m is w. writable_reads_back m w (module_spellable m is.whole w.functions)
