use Rattle.body_import.proofs.Paired.{params_apart}
use Rattle.body_import.proofs.same.are_same_params.Goals as goal

pub returns-then-a-b : goal.returns-then-a-b
returns-then-a-b c = params_apart c.args.a.now c.args.b.now c.if-a-b.true
