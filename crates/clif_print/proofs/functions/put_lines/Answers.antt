use Rattle.std.proofs.Common.{◌≡◌, ◌∷◌, List, length, map, ap, arith, length-append}
use Rattle.ir_core.specs.Lookup.{line_definitions}
use Rattle.ir_core.specs.Module.{Line}
use Rattle.ir_text.specs.TextTree.{spelled}
use Rattle.ir_text.specs.Text.{lines}
use Rattle.ir_core.specs.Viewed.{line_of}
use Rattle.text_output.proofs.Puts.{goes}
use Rattle.clif_print.proofs.functions.put_lines.Goals as goal

pub lines-preserved : goal.lines-preserved
lines-preserved g c =
    let split : map line_of c.lines.rest.now ≡ line_of c.in-Some.inst.now ∷ map line_of c.in-Some.after.now = ap (map line_of) c.in-Some.ensures.cases.0 in
    let count = ap (λ (ls : List Line). length (line_definitions ls)) split in
    rw c.as_slice.ensures
    (record {
      text = goes _ c.lines.invariant.text (ap (λ (ls : List Line). spelled (lines c.args.func.now.function c.args.numbers.now.numbering c.lines.next ls)) split) c.put_line.ensures;
      count = omega (arith, count, length-append c.in-Some.inst.now.results (line_definitions (map line_of c.in-Some.after.now)), c.lines.invariant.count);
    })
