-- read_is_module
use Rattle.read_writable.proofs.Whole.{read_is_module}
use Rattle.read_writable.proofs.laws.read_is_module.Goals as goal

pub returns : goal.returns
returns c = read_is_module
