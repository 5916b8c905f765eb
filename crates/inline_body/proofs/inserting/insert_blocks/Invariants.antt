use Rattle.std.proofs.Common.{◌≡◌, ◌+◌, ◌≤◌, length}
use Rattle.inline_body.proofs.Behind.{Inserting}
use Rattle.inline_body.proofs.inserting.insert_blocks.Given as goal

abbrev pub invariant-loop-params : goal.invariant-loop-params
invariant-loop-params l =
    Inserting l.fn.first l.at l.fn.caller.function l.caller.function l.fn.block_params l.params-iterator.rest.items
    × (l.caller.room ≡ record l.fn.caller.room { blocks = l.caller.room.blocks })
    × (l.fn.caller.room.blocks + length l.params-iterator.rest.items ≤ l.caller.room.blocks + length l.fn.block_params)
