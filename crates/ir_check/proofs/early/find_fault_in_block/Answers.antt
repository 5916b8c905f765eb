use Rattle.ir_check.proofs.Searching.{block_bad, block_good}
use Rattle.ir_check.proofs.early.find_fault_in_block.Goals as goal

pub returns-in-Some : goal.returns-in-Some
returns-in-Some c = block_bad c.args.func.now.function c.args.number c.args.block c.requires.there c.in-Some.kind c.in-Some.ensures c.number.result c.number.ensures

pub returns : goal.returns
returns c = block_good c.args.func.now.function c.args.number c.args.block c.requires.there c.find_block_fault.result c.in_default.is c.find_block_fault.ensures c.find_fault_in_lines.result c.find_fault_in_lines.ensures
