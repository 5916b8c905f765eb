use Rattle.inline_caller.proofs.Definitions as definitions
use Rattle.inline_caller.proofs.laws.splice_is_definitions.Goals as goal

pub returns : goal.returns
returns c = definitions.splice_is_definitions
