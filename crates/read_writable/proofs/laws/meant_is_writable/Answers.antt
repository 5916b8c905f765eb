-- meant_is_writable
use Rattle.read_writable.proofs.Whole.{meant_is_writable}
use Rattle.read_writable.proofs.laws.meant_is_writable.Goals as goal

pub returns : goal.returns
returns c = meant_is_writable
