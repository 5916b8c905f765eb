use Rattle.std.proofs.Common.{arith}
use Rattle.ir_check.proofs.Rowed.{rows_none}
use Rattle.ir_check.proofs.typing.find_row.Goals as goal

pub returns-in_default : goal.returns-in_default
returns-in_default c = rows_none c.args.func.now.function c.args.op c.args.args.now (λ h. let a = h.0 in let l = c.in_default.len_below in omega arith)

pub returns-in_default-2 : goal.returns-in_default-2
returns-in_default-2 c = rows_none c.args.func.now.function c.args.op c.args.args.now (λ h. let b = h.1 in let l = c.in_default.len_at_least in omega arith)
