use Rattle.std.proofs.Common.{◌≡◌, ◌+◌, drop, length}
use Rattle.inline_body.specs.WithBody.{lines_in}
use Rattle.inline_body.proofs.prepare.count_lines.Given as goal

abbrev pub invariant-loop-block : goal.invariant-loop-block
invariant-loop-block l = l.count + length (lines_in (drop l.block-index l.blocks)) ≡ length (lines_in l.blocks)
