use Rattle.names_read_back.proofs.Insts.{instruction_back}
use Rattle.names_read_back.proofs.laws.instructions_read_back.Goals as goal

pub returns : goal.returns
returns c = λ n at f l s t i. instruction_back n at f l s t i
