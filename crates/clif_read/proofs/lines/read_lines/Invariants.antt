use Rattle.std.proofs.Common.{[], false, ◌≤◌, length}
use Rattle.clif_read.specs.Lines.{more_lines_at}
use Rattle.clif_read.proofs.LineLoop.{KeepsLines}
use Rattle.clif_read.proofs.lines.read_lines.Given as goal

abbrev pub invariant-lines : goal.invariant-lines
invariant-lines l = KeepsLines l.list.items l.after_return l.reader (more_lines_at (length l.fn.reader) [] false l.fn.reader)
    × (length l.reader ≤ length l.fn.reader)

abbrev pub decreases-lines : goal.decreases-lines
decreases-lines l = length l.reader
