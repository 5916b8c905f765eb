use Rattle.std.proofs.Common.{◌∙◌}
use Rattle.filetest.specs.Tested.{is_verifier}
use Rattle.filetest.proofs.CommandChecks.{any_here, any_later}
use Rattle.filetest.proofs.testing.are_faults_needed.Goals as goal

pub returns-then-is_verified : goal.returns-then-is_verified
returns-then-is_verified c = any_here is_verifier c.args.commands.now c.loop-i.i c.index-commands-i.result c.is_verified.result c.loop-i-test.true c.index-commands-i.is c.is_verified.ensures c.if-is_verified.true ∙ c.loop-i.invariant

pub loop-i-preserved : goal.loop-i-preserved
loop-i-preserved c = any_later is_verifier c.args.commands.now c.loop-i.i c.index-commands-i.result c.is_verified.result c.loop-i-test.true c.index-commands-i.is c.is_verified.ensures c.if-is_verified.false ∙ c.loop-i.invariant
