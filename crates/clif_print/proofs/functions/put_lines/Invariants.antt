use Rattle.std.proofs.Common.{◌≡◌, ◌+◌, length, map}
use Rattle.ir_core.specs.Lookup.{line_definitions}
use Rattle.ir_text.specs.TextTree.{spelled}
use Rattle.ir_text.specs.Text.{lines}
use Rattle.ir_core.specs.Viewed.{line_of}
use Rattle.text_output.proofs.Puts.{Going}
use Rattle.clif_print.proofs.functions.put_lines.Given as goal

abbrev pub invariant-lines : goal.invariant-lines
invariant-lines g l = record {
  text : Going g.O.Output.holds l.initial.out l.out (spelled (lines l.func.function l.numbers.numbering l.next (map line_of l.rest))) (spelled (lines l.func.function l.numbers.numbering l.first (map line_of l.insts)));
  count : l.next + length (line_definitions (map line_of l.rest)) ≡ l.first + length (line_definitions (map line_of l.insts));
}

abbrev pub decreases-lines : goal.decreases-lines
decreases-lines g l = length l.rest
