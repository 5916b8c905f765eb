-- What of a callee counts where its body comes in place of a call: sums over its blocks and lines.
use Rattle.std.specs.Prelude.{ℕ, ◌+◌, ◌≤◌, List, [], ◌∷◌, length}
use Rattle.ir_core.specs.Module.{Instruction, SequencePoint, Return, Call, ReturnCall, TryCall, Line, Block, Function}
use Rattle.ir_core.specs.Edits.{params_of, lines_of}
use Rattle.ir_core.specs.Size.{line_size, sig_size, total}
use Rattle.splice_size.specs.declared.counts.Counts.{Counts}

abbrev pub none : Counts
none =
    record {
      blocks = 0;
      returned = 0;
      returns = 0;
      calls = 0;
      results = 0;
      tail_calls = 0;
      try_calls = 0;
      sequence_points = 0;
    }

-- a part that has a size and nothing else that counts
abbrev pub of_size : ℕ → Counts
of_size n = record none { blocks = n }

abbrev pub plus : Counts → Counts → Counts
plus a b =
    record {
      blocks = a.blocks + b.blocks;
      returned = a.returned + b.returned;
      returns = a.returns + b.returns;
      calls = a.calls + b.calls;
      results = a.results + b.results;
      tail_calls = a.tail_calls + b.tail_calls;
      try_calls = a.try_calls + b.try_calls;
      sequence_points = a.sequence_points + b.sequence_points;
    }

abbrev pub summed : {A : Type 0} → (A → Counts) → List A → Counts
summed f [] = none
summed f (x ∷ xs) = plus (f x) (summed f xs)

-- the size of a return without its operands
abbrev pub bare_size : Line → ℕ
bare_size l = (1 + length l.results) + length l.tags

abbrev pub counts_by : Line → Instruction → Counts
counts_by l SequencePoint = record none { blocks = line_size l; sequence_points = 1 }
counts_by l (Return values) = record none { blocks = bare_size l; returned = length values; returns = 1 }
counts_by l (Call t args) = record none { blocks = line_size l; calls = 1; results = length l.results }
counts_by l (ReturnCall t args) = record none { blocks = line_size l; tail_calls = 1 }
counts_by l (TryCall t sig args normal table) = record none { blocks = line_size l; try_calls = 1 }
counts_by l _ = of_size (line_size l)

abbrev pub line_counts : Line → Counts
line_counts l = counts_by l l.inst

-- a block by itself, and its lines
abbrev pub block_counts : Block → Counts
block_counts b = plus (of_size (1 + length b.params)) (summed line_counts b.lines)

abbrev pub counts_of : Function → Counts
counts_of f = summed block_counts f.blocks

-- the block that has the number
abbrev pub counts_at : List Block → ℕ → Counts
counts_at bs n = plus (of_size (1 + length (params_of n bs))) (summed line_counts (lines_of n bs))

-- the size of the part that was counted
abbrev pub sum_size : Counts → ℕ
sum_size c = c.blocks + c.returned

-- each thing that counts has a size
abbrev pub IsSmall : Counts → Type 0
IsSmall c = (c.returns + c.calls + c.results) + (c.tail_calls + c.try_calls + c.sequence_points) ≤ c.blocks

-- the size of its declarations: what is no block
abbrev pub declared_size : Function → ℕ
declared_size f = (length f.slots + length f.callees) + total sig_size f.sigs
