use Rattle.std.proofs.Common.{◌∙◌}
use Rattle.test_directives.specs.Commands.{needs_accepted}
use Rattle.filetest.proofs.CommandChecks.{any_here, any_later}
use Rattle.filetest.proofs.testing.is_module_needed.Goals as goal

pub returns-then-needs_accepted : goal.returns-then-needs_accepted
returns-then-needs_accepted c = any_here needs_accepted c.args.commands.now c.loop-i.i c.index-commands-i.result c.needs_accepted.result c.loop-i-test.true c.index-commands-i.is c.needs_accepted.ensures c.if-needs_accepted.true ∙ c.loop-i.invariant

pub loop-i-preserved : goal.loop-i-preserved
loop-i-preserved c = any_later needs_accepted c.args.commands.now c.loop-i.i c.index-commands-i.result c.needs_accepted.result c.loop-i-test.true c.index-commands-i.is c.needs_accepted.ensures c.if-needs_accepted.false ∙ c.loop-i.invariant
