use Rattle.ir_check.specs.Found.{block_at}
use Rattle.ir_check.specs.Twins.{entry_types}
use Rattle.ir_check.proofs.Searching.{entry_skipped, entry_asked}
use Rattle.ir_check.proofs.early.keeps_entry_types.Goals as goal

pub returns-then-not-is_entry : goal.returns-then-not-is_entry
returns-then-not-is_entry c = entry_skipped c.args.func.now.function c.is_entry.result c.args.block c.args.first (entry_types c.args.func.now.function (block_at c.args.func.now.function c.args.block)) c.is_entry.ensures c.if-not-is_entry.true c.requires.first

pub returns : goal.returns
returns c = entry_asked c.args.func.now.function c.is_entry.result c.args.block c.args.first (entry_types c.args.func.now.function (block_at c.args.func.now.function c.args.block)) c.has_entry_types.result c.is_entry.ensures c.if-not-is_entry.false c.requires.first c.has_entry_types.ensures
