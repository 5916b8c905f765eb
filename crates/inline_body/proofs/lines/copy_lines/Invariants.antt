use Rattle.std.proofs.Common.{◌≡◌, ◌++◌, drop, map}
use Rattle.ir_core.specs.Lists.{Each}
use Rattle.ir_core.specs.Viewed.{line_of}
use Rattle.inline_body.specs.Named.{Reached}
use Rattle.inline_body.specs.Inlined.{copied_line}
use Rattle.inline_body.proofs.lines.copy_lines.Given as goal

abbrev pub invariant-loop-line : goal.invariant-loop-line
invariant-loop-line l = (map line_of l.list.items ++ map (copied_line l.fn.names l.fn.outer) (map line_of (drop l.line-index l.lines)) ≡ map (copied_line l.fn.names l.fn.outer) (map line_of l.lines)) × Each (Reached l.fn.names) (map line_of (drop l.line-index l.lines))
