use Rattle.clif_read.proofs.Within.{texts_formed, texts_within}
use Rattle.read_workers.proofs.text_ranges.read_text.Goals as goal

pub returns-clause-formed : goal.returns-clause-formed
returns-clause-formed g c = texts_formed c.args.text.now c.read_text_by.result c.read_text_by.ensures.found

pub returns-clause-within : goal.returns-clause-within
returns-clause-within g c = texts_within c.args.text.now c.read_text_by.result c.read_text_by.ensures.fault
