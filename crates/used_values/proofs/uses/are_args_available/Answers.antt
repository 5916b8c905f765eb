use Rattle.std.proofs.Common.{◌+◌, length, drop, ap, ◌∷◌, []}
use Rattle.ir_core.specs.Uses.{arg_values_used}
use Rattle.ir_semantics.specs.Available.{Available}
use Rattle.used_values.proofs.Ranged.{arg_below}
use Rattle.used_values.proofs.Using.{refuses, goes_on, holds, args_split, past}
use Rattle.used_values.proofs.uses.are_args_available.Goals as goal

pub is_arg_available-requires-clause-inside : goal.is_arg_available-requires-clause-inside
is_arg_available-requires-clause-inside c = arg_below (length c.args.avail.now.types) c.args.args.now c.loop-i.i c.index-args-i.result c.requires.inside c.loop-i-test.true c.index-args-i.is

pub returns-then-not-is_arg_available : goal.returns-then-not-is_arg_available
returns-then-not-is_arg_available c =
    refuses (Available c.args.avail.now c.args.block c.args.index) (arg_values_used c.args.args.now) (arg_values_used (drop c.loop-i.i c.args.args.now)) (arg_values_used (c.index-args-i.result ∷ [])) (arg_values_used (drop (c.loop-i.i + 1) c.args.args.now)) c.is_arg_available.result
    (args_split c.args.args.now c.loop-i.i c.index-args-i.result c.loop-i-test.true c.index-args-i.is) c.is_arg_available.ensures c.if-not-is_arg_available.true c.loop-i.invariant

pub loop-i-preserved : goal.loop-i-preserved
loop-i-preserved c =
    goes_on (Available c.args.avail.now c.args.block c.args.index) (arg_values_used c.args.args.now) (arg_values_used (drop c.loop-i.i c.args.args.now)) (arg_values_used (c.index-args-i.result ∷ [])) (arg_values_used (drop (c.loop-i.i + 1) c.args.args.now)) c.is_arg_available.result
    (args_split c.args.args.now c.loop-i.i c.index-args-i.result c.loop-i-test.true c.index-args-i.is) c.is_arg_available.ensures c.if-not-is_arg_available.false c.loop-i.invariant

pub returns : goal.returns
returns c = holds (Available c.args.avail.now c.args.block c.args.index) (arg_values_used c.args.args.now) (arg_values_used (drop c.loop-i.i c.args.args.now)) (ap arg_values_used (past c.args.args.now c.loop-i.i c.loop-i-test.false)) c.loop-i.invariant
