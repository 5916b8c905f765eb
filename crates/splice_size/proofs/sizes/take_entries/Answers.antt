use Rattle.std.proofs.Common.{◌+◌, ◌-◌, arith, length, take, ap}
use Rattle.ir_core.specs.Size.{argument_count, total}
use Rattle.ir_core.specs.Uses.{table_targets}
use Rattle.ir_core.proofs.Sizing.{total_more, total_targets}
use Rattle.splice_size.specs.SizeAfter.{table_size}
use Rattle.splice_size.proofs.Budgets.{refused, total_part}
use Rattle.splice_size.proofs.sizes.take_entries.Goals as goal

pub returns-in_err-left-2 : goal.returns-in_err-left-2
returns-in_err-left-2 c =
    let es = c.args.entries.now in
    let part = total_part (λ e. argument_count e.target) es c.loop-entry.entry-index c.entry-item.result c.loop-entry-test.true in
    refused c.from_residual-in_err-left-2.result (c.args.left - table_size es) c.args.left c.loop-entry.left (length es + total argument_count (table_targets (take c.loop-entry.entry-index es))) (length c.as_slice.result.now) (table_size es)
    c.from_residual-in_err-left-2.ensures c.loop-entry.invariant c.in_err-left-2.ensures
    (omega (arith, ap length c.as_slice.ensures, ap (λ e. argument_count e.target) c.entry-item.is, part, total_targets (take c.loop-entry.entry-index es), total_targets es))

pub loop-entry-preserved : goal.loop-entry-preserved
loop-entry-preserved c =
    omega (
      arith,
      c.in_ok-left-2.ensures,
      c.loop-entry.invariant,
      ap length c.as_slice.ensures,
      ap (λ e. argument_count e.target) c.entry-item.is,
      total_more (λ e. argument_count e.target) c.args.entries.now c.loop-entry.entry-index c.entry-item.result c.loop-entry-test.true,
      total_targets (take c.loop-entry.entry-index c.args.entries.now),
      total_targets (take (c.loop-entry.entry-index + 1) c.args.entries.now),
    )
