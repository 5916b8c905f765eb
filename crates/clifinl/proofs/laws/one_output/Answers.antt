-- one_output
use Rattle.clifinl.proofs.OneOutput as law
use Rattle.clifinl.proofs.laws.one_output.Goals as goal

pub returns : goal.returns
returns c = law.one_output c.names_differ.ensures c.read_is_writable.ensures
