use Rattle.std.proofs.Common.{◌≡◌, ◌+◌, ◌≤◌, length, map}
use Rattle.ir_core.specs.Viewed.{line_of}
use Rattle.inline_body.proofs.Putting.{Putting}
use Rattle.inline_body.proofs.site.append_lines.Given as goal

abbrev pub invariant-loop-line : goal.invariant-loop-line
invariant-loop-line l =
    Putting l.block l.fn.caller.function l.caller.function (map line_of l.fn.added) (map line_of l.line-iterator.rest.items)
    × (l.caller.room ≡ record l.fn.caller.room { insts = l.caller.room.insts })
    × (l.fn.caller.room.insts + length l.line-iterator.rest.items ≤ l.caller.room.insts + length l.fn.added)
