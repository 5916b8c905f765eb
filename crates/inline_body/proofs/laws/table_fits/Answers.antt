use Rattle.inline_body.proofs.Along.{fits}
use Rattle.inline_body.proofs.laws.table_fits.Goals as goal

pub returns : goal.returns
returns c = λ first k ks block_params e. fits first k ks block_params e
