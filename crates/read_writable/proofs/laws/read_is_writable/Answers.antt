-- read_is_writable
use Rattle.read_writable.proofs.Whole.{read_is_writable}
use Rattle.read_writable.proofs.laws.read_is_writable.Goals as goal

pub returns : goal.returns
returns c = read_is_writable
