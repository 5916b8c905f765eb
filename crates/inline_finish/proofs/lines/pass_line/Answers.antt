use Rattle.std.proofs.Common.{◌+◌, ◌<◌, ◌^◌, arith}
use Rattle.inline_finish.proofs.Steps.{point_fits}
use Rattle.inline_finish.proofs.lines.pass_line.Goals as goal

pub overflow_add-progress : goal.overflow_add-progress
overflow_add-progress c = let h : c.args.progress.now.at.index + 1 < 2 ^ 32 = point_fits c.args.progress.now.caller c.args.progress.now.at c.func.result.now.function c.requires c.func.ensures c.values-count.ensures.sound in omega arith
