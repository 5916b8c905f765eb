use Rattle.std.proofs.Common.{◌∙◌}
use Rattle.interp.proofs.Entering.{target_in, target_past}
use Rattle.interp.proofs.branches.pick.Goals as goal

pub returns-then-index-entries : goal.returns-then-index-entries
returns-then-index-entries c = c.index-entries-index.is ∙ target_in c.args.entries.now c.args.default.now c.index-entries-index.result c.args.index c.if-index-entries.true

pub returns-else-index-entries : goal.returns-else-index-entries
returns-else-index-entries c = target_past c.args.entries.now c.args.default.now c.args.index c.if-index-entries.false
