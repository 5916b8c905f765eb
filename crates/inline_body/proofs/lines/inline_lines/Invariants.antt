use Rattle.std.proofs.Common.{◌≡◌, ◌++◌, drop, map}
use Rattle.ir_core.specs.Lists.{Each}
use Rattle.ir_core.specs.Viewed.{line_of}
use Rattle.inline_body.specs.Named.{Reached}
use Rattle.inline_body.specs.Inlined.{inlined_lines}
use Rattle.inline_body.proofs.lines.inline_lines.Given as goal

abbrev pub invariant-loop-line : goal.invariant-loop-line
invariant-loop-line l = (map line_of l.list.items ++ inlined_lines l.fn.names l.fn.outer l.after l.fn.results (map line_of (drop l.line-index l.lines)) ≡ inlined_lines l.fn.names l.fn.outer l.after l.fn.results (map line_of l.lines)) × Each (Reached l.fn.names) (map line_of (drop l.line-index l.lines))
