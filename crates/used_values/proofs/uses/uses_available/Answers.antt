use Rattle.std.proofs.Common.{length}
use Rattle.ir_core.specs.Uses.{operands, targets_used, targets}
use Rattle.ir_core.specs.Viewed.{instruction_of}
use Rattle.ir_semantics.specs.Available.{Available}
use Rattle.used_values.proofs.Ranged.{operands_below}
use Rattle.used_values.proofs.Using.{first_refused, first_held}
use Rattle.used_values.proofs.uses.uses_available.Goals as goal

pub are_operands_available-requires-clause-inside : goal.are_operands_available-requires-clause-inside
are_operands_available-requires-clause-inside c = operands_below (length c.args.avail.now.types) (instruction_of c.args.inst.now) c.requires.inside

pub returns-then-not-are_operands_available : goal.returns-then-not-are_operands_available
returns-then-not-are_operands_available c = first_refused (Available c.args.avail.now c.args.block c.args.index) (operands (instruction_of c.args.inst.now)) (targets_used (targets (instruction_of c.args.inst.now))) c.are_operands_available.result c.are_operands_available.ensures c.if-not-are_operands_available.true

pub returns : goal.returns
returns c = first_held (Available c.args.avail.now c.args.block c.args.index) (operands (instruction_of c.args.inst.now)) (targets_used (targets (instruction_of c.args.inst.now))) c.are_operands_available.result c.are_targets_available.result c.are_operands_available.ensures c.if-not-are_operands_available.false c.are_targets_available.ensures
