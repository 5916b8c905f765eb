use Rattle.ir_check.proofs.Searching.{late_items}
use Rattle.ir_check.proofs.Unfound.{none_found}
use Rattle.ir_check.proofs.late.find_use_in_func.Goals as goal

pub returns-then-shows_available : goal.returns-then-shows_available
returns-then-shows_available c = λ m. none_found m c.args.number c.args.func.now.function (c.shows_available.ensures c.if-shows_available.true)

pub returns : goal.returns
returns c = λ m. late_items m c.args.number c.args.func.now.function c.find_use_in_blocks.result (c.find_use_in_blocks.ensures m)
