use Rattle.std.proofs.Common.{drop}
use Rattle.ir_check.specs.Faults.{first_rules, tried_at, callee_items}
use Rattle.ir_check.proofs.Searching.{Rest}
use Rattle.ir_check.proofs.early.find_fault_in_callees.Given as goal

abbrev pub invariant-loop-i : goal.invariant-loop-i
invariant-loop-i l = Rest l.«module» (tried_at first_rules l.number l.func.function (callee_items 0 l.func.function.callees)) (tried_at first_rules l.number l.func.function (callee_items l.i (drop l.i l.func.function.callees)))
