use Rattle.clif_names.specs.Limits.{target_limits}
use Rattle.clif_lines.specs.Keeping.{AllKeep}
use Rattle.clif_lines.proofs.Parting.{each_at, got}
use Rattle.clif_lines.proofs.targets.targets.Goals as goal

pub target-requires : goal.target-requires
target-requires c =
    each_at (λ t. AllKeep (target_limits t)) c.args.written.now c.loop-item.item-index c.item-item.result c.requires
    (got c.args.written.now c.loop-item.item-index c.item-item.result c.loop-item-test.true c.item-item.is)
