use Rattle.std.proofs.Common.{arith}
use Rattle.interp_run.proofs.Addressing.{sig_past, sig_none, sig_some}
use Rattle.interp_run.proofs.addresses.find_sig.Goals as goal

pub returns-then-at-len : goal.returns-then-at-len
returns-then-at-len c = sig_past c.args.program.now.module.now c.args.at c.args.sig (omega arith)

pub returns-then-number-sigs : goal.returns-then-number-sigs
returns-then-number-sigs c = sig_none c.args.program.now.module.now c.args.at c.args.sig c.number-number.result c.func.result.now.function c.sigs-sigs.result.now c.func.ensures.at c.sigs-sigs.ensures c.number-number.ensures c.if-number-sigs.true

pub returns : goal.returns
returns c = sig_some c.args.program.now.module.now c.args.at c.args.sig c.number-number.result c.func.result.now.function c.sigs-sigs.result.now c.index-sigs-number.result c.index-sigs-number.result c.func.ensures.at c.sigs-sigs.ensures c.number-number.ensures c.if-number-sigs.false c.index-sigs-number.is
