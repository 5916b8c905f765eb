use Rattle.inline_body.proofs.WithinBody.{body_is}
use Rattle.inline_body.proofs.laws.within_body_is_inlined.Goals as goal

pub returns : goal.returns
returns c = λ p n starts is bs. body_is p n starts is bs
