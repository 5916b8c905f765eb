use Rattle.std.proofs.Common.{pos}
use Rattle.clif_read.specs.declared.raw.RawTag.TheVariants as tag
use Rattle.clif_names.specs.Limits.{tag_limits}
use Rattle.clif_lines.specs.Keeping.{Keeps}
use Rattle.clif_lines.proofs.Parting.{each_part, got_or}
use Rattle.clif_lines.proofs.targets.tags.Goals as goal

pub tag-requires : goal.tag-requires
tag-requires c =
    each_part Keeps tag_limits c.args.written.now c.loop-item.item-index _ c.requires
    (got_or c.args.written.now c.loop-item.item-index (tag.User (record { value = pos 0; spot = 0 })) c.loop-item-test.true)
