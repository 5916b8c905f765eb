use Rattle.script_text.proofs.Before.{tokens_before}
use Rattle.script_text.proofs.laws.tokens_before_a_fault.Goals as goal

pub returns : goal.returns
returns c = tokens_before
