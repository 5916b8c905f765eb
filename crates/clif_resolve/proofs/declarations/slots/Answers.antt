use Rattle.clif_names.specs.Limits.{decl_limits}
use Rattle.clif_lines.specs.Keeping.{Keeps}
use Rattle.clif_lines.proofs.Parting.{each_part, got}
use Rattle.clif_resolve.proofs.declarations.slots.Goals as goal

pub push_slot-requires : goal.push_slot-requires
push_slot-requires c =
    each_part Keeps decl_limits c.args.decls.now c.loop-decl.decl-index c.decl-item.result c.requires
    (got c.args.decls.now c.loop-decl.decl-index c.decl-item.result c.loop-decl-test.true c.decl-item.is)
