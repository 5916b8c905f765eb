use Rattle.inline_ends.proofs.TriedSteps.{closed}
use Rattle.inline_ends.proofs.try_body.close.Goals as goal

pub returns-clause-blocks : goal.returns-clause-blocks
returns-clause-blocks c = closed c.args.current (record { block_params = c.push.new.self; block_lines = c.push-2.new.self }) c.from_vec.result c.requires c.in_ok-push.ensures.items c.in_ok-push-2.ensures.items c.from_vec.ensures
