use Rattle.inline_caller.proofs.ReplacedCalls.{replaced}
use Rattle.inline_caller.proofs.prepared.place_body.Goals as goal

pub inst-requires : goal.inst-requires
inst-requires c = (replaced c.args.caller.now.function c.args.callee.now.function c.args.site c.requires.can).there
