use Rattle.inline_body.proofs.LastBody.{body_is}
use Rattle.inline_body.proofs.laws.last_body_is_copied.Goals as goal

pub returns : goal.returns
returns c = λ p n is bs. body_is p n is bs
