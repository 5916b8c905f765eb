-- The size of a function: the sum of its blocks, block parameters, instructions, results of instructions, operands
-- (each value, result or payload in an operand place or as an argument of a target, and the address of an indirect
-- call), entries of `br_table` lists and of exception tables, debug tags, slots, callee declarations, and for each
-- signature of its list one, its parameters and its results. The function's own signature isn't counted.
use Rattle.std.specs.Prelude.{ℕ, ◌+◌, List, [], ◌∷◌, length, min}
use Rattle.ir_core.specs.declared.signatures.Sig.{Sig}
use Rattle.ir_core.specs.declared.instructions.BlockCall.{BlockCall}
use Rattle.ir_core.specs.Module.{BrTable, Instruction, Branches, TryCall, Line, Block, Function}
use Rattle.ir_core.specs.Uses.{operands, targets}
use Rattle.ir_core.specs.Edits.{params_of, lines_of}

-- the sum of a number for each element
abbrev pub total : {A : Type 0} → (A → ℕ) → List A → ℕ
total f [] = 0
total f (x ∷ xs) = f x + total f xs

abbrev pub argument_count : BlockCall → ℕ
argument_count target = length target.args

abbrev pub operand_count : Instruction → ℕ
operand_count i = length (operands i) + total argument_count (targets i)

abbrev pub entry_count : Instruction → ℕ
entry_count (Branches (BrTable index default entries)) = length entries
entry_count (TryCall callee sig args normal table) = length table
entry_count i = 0

abbrev pub line_size : Line → ℕ
line_size l = (1 + length l.results) + (operand_count l.inst + entry_count l.inst) + length l.tags

abbrev pub block_size : Block → ℕ
block_size b = (1 + length b.params) + total line_size b.lines

abbrev pub sig_size : Sig → ℕ
sig_size s = (1 + length s.params) + length s.results

abbrev pub size_of : Function → ℕ
size_of f = (length f.slots + length f.callees) + total sig_size f.sigs + total block_size f.blocks

-- the number, or the greatest number of 64 bits where it is greater
abbrev pub capped : ℕ → ℕ
capped n = min n 18446744073709551615

-- the size of the block that has the number
abbrev pub size_at : List Block → ℕ → ℕ
size_at bs n = (1 + length (params_of n bs)) + total line_size (lines_of n bs)
