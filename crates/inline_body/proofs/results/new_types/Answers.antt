use Rattle.std.proofs.Common.{map}
use Rattle.inline_body.proofs.ResultTypes.{repeated_next}
use Rattle.inline_body.proofs.results.new_types.Goals as goal

pub loop-call-preserved : goal.loop-call-preserved
loop-call-preserved c = repeated_next (map (λ t. t.1) c.args.callee.now.function.types) c.loop-call.list.items c.push_types.new.list.items c.loop-call._call c.args.results.now c.loop-call.invariant c.in_ok-push_types.ensures
