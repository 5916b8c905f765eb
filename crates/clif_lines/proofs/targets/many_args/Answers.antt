use Rattle.clif_insts.specs.declared.raw.RawArg.TheVariants as arg
use Rattle.clif_names.specs.Limits.{arg_limits}
use Rattle.clif_lines.specs.Keeping.{Keeps}
use Rattle.clif_lines.proofs.Parting.{each_part, got_or}
use Rattle.clif_lines.proofs.targets.many_args.Goals as goal

pub arg-requires : goal.arg-requires
arg-requires c =
    each_part Keeps arg_limits c.args.written.now c.loop-item.item-index _ c.requires
    (got_or c.args.written.now c.loop-item.item-index (arg.Value (record { number = 0; spot = 0 })) c.loop-item-test.true)
