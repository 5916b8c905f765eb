use Rattle.clif_read.proofs.Within.{raw_formed, raw_within}
use Rattle.read_workers.proofs.token_ranges.read_raw.Goals as goal

pub returns-clause-formed : goal.returns-clause-formed
returns-clause-formed g c = raw_formed c.args.text.now c.args.tokens.now c.read_raw_by.result c.requires.whole c.read_raw_by.ensures.found

pub returns-clause-within : goal.returns-clause-within
returns-clause-within g c = raw_within c.args.text.now c.args.tokens.now c.read_raw_by.result c.requires.whole c.read_raw_by.ensures.stop
