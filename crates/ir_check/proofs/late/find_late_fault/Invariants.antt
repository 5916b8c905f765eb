use Rattle.std.proofs.Common.{drop}
use Rattle.ir_check.specs.Faults.{last_rules, tried}
use Rattle.ir_check.proofs.Searching.{Rest}
use Rattle.ir_check.proofs.late.find_late_fault.Given as goal

abbrev pub invariant-loop-i : goal.invariant-loop-i
invariant-loop-i l = Rest l.«module» (tried last_rules 0 l.«module») (tried last_rules l.i (drop l.i l.«module»))
