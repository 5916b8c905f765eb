use Rattle.clif_insts.specs.declared.raw.RawEntry.{RawEntry}
use Rattle.clif_names.specs.Limits.{entry_limits, target_limits}
use Rattle.clif_lines.specs.Keeping.{AllKeep, Keeps}
use Rattle.clif_lines.proofs.Parting.{each_mapped, each_part, got}
use Rattle.clif_lines.proofs.targets.table.Goals as goal

pub entry-requires-clause-tag : goal.entry-requires-clause-tag
entry-requires-clause-tag c =
    each_part Keeps entry_limits c.args.written.now c.loop-item.item-index c.item-item.result c.requires.tags
    (got c.args.written.now c.loop-item.item-index c.item-item.result c.loop-item-test.true c.item-item.is)

pub entry-requires-clause-target : goal.entry-requires-clause-target
entry-requires-clause-target c =
    each_mapped (λ t. AllKeep (target_limits t)) (λ (e : RawEntry). e.target) c.args.written.now c.loop-item.item-index c.item-item.result c.requires.targets
    (got c.args.written.now c.loop-item.item-index c.item-item.result c.loop-item-test.true c.item-item.is)
