use Rattle.std.proofs.Common.{◌≡◌, ◌+◌, ◌≤◌, length}
use Rattle.inline_body.specs.WithBody.{lines_in}
use Rattle.inline_body.proofs.Fills.{Fills}
use Rattle.inline_body.proofs.appending.append_to_blocks.Given as goal

abbrev pub invariant-loop-lines_of_block : goal.invariant-loop-lines_of_block
invariant-loop-lines_of_block l =
    Fills l.fn.caller.function l.caller.function l.fn.block_lines l.lines_of_block-iterator.rest.items
    × (l.caller.room ≡ record l.fn.caller.room { insts = l.caller.room.insts })
    × (l.fn.caller.room.insts + length (lines_in l.lines_of_block-iterator.rest.items) ≤ l.caller.room.insts + length (lines_in l.fn.block_lines))
