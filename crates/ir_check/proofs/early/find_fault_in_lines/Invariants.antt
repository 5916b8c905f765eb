use Rattle.std.proofs.Common.{drop}
use Rattle.ir_core.specs.Edits.{lines_of}
use Rattle.ir_core.specs.Module.{Module}
use Rattle.ir_check.specs.Faults.{first_rules, tried_at, line_items}
use Rattle.ir_check.proofs.Searching.{Rest}
use Rattle.ir_check.proofs.early.find_fault_in_lines.Given as goal

abbrev pub invariant-loop-i : goal.invariant-loop-i
invariant-loop-i l = (m : Module) → Rest m (tried_at first_rules l.number l.func.function (line_items l.block 0 (lines_of l.block l.func.function.blocks))) (tried_at first_rules l.number l.func.function (line_items l.block l.i (drop l.i (lines_of l.block l.func.function.blocks))))
