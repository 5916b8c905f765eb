use Rattle.std.proofs.Common.{◌++◌}
use Rattle.std.specs.Prelude.{flat_map}
use Rattle.ir_core.proofs.Members.{each_left, each_right}
use Rattle.clif_names.specs.Limits.{operand_limits, tag_limits, target_limits}
use Rattle.name_tables.specs.Uses.{operand_targets}
use Rattle.clif_lines.specs.Keeping.{Keeps}
use Rattle.clif_lines.proofs.Parting.{each_all}
use Rattle.clif_lines.proofs.lines.line.Goals as goal

pub instruction-requires-clause-limits : goal.instruction-requires-clause-limits
instruction-requires-clause-limits c =
    let inst = c.args.inst.now in
    let ours = flat_map tag_limits c.args.written.now in
    let theirs = operand_limits inst.suffix inst.operands in
    each_right Keeps ours theirs (each_left Keeps (ours ++ theirs) (flat_map target_limits (operand_targets inst.operands)) c.requires)

pub instruction-requires-clause-targets : goal.instruction-requires-clause-targets
instruction-requires-clause-targets c =
    let inst = c.args.inst.now in
    let before = flat_map tag_limits c.args.written.now ++ operand_limits inst.suffix inst.operands in
    each_all Keeps target_limits (operand_targets inst.operands)
    (each_right Keeps before (flat_map target_limits (operand_targets inst.operands)) c.requires)

pub tags-requires : goal.tags-requires
tags-requires c =
    let inst = c.args.inst.now in
    let ours = flat_map tag_limits c.args.written.now in
    let theirs = operand_limits inst.suffix inst.operands in
    each_left Keeps ours theirs (each_left Keeps (ours ++ theirs) (flat_map target_limits (operand_targets inst.operands)) c.requires)
