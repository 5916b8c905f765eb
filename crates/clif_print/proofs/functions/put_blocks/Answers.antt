use Rattle.std.proofs.Common.{◌++◌, List, ℕ, length, ap, sym, subst, arith, length-append}
use Rattle.ir_core.specs.Edits.{params_of, lines_of, blocks_at}
use Rattle.ir_core.specs.Lookup.{definitions, line_definitions}
use Rattle.ir_core.specs.Module.{Block}
use Rattle.ir_text.specs.TextTree.{spelled}
use Rattle.ir_text.specs.Text.{blocks}
use Rattle.text_output.specs.Output.{Puts}
use Rattle.clif_numbers.proofs.Blocks.{first_block}
use Rattle.text_output.proofs.Puts.{◌▸◌}
use Rattle.clif_numbers.proofs.Ranges.{all_few}
use Rattle.clif_print.proofs.functions.put_blocks.Goals as goal

pub put_block-next-requires-clause-few : goal.put_block-next-requires-clause-few
put_block-next-requires-clause-few g c =
    let bs : List Block = c.args.func.now.function.blocks in
    let rest : List ℕ = definitions (blocks_at bs c.next.new.self) in
    let split = ap (λ (l : List Block). length (definitions l)) (first_block bs c.blocks-order.result c.next.new.self c.in-Some.number c.in-Some.ensures.steps c.blocks-order.ensures.numbers c.blocks-order.ensures.sound.blocks_differ) in
    omega (arith, split, all_few c.args.func.now.function c.blocks-order.ensures.sound, length-append (params_of c.in-Some.number bs) (line_definitions (lines_of c.in-Some.number bs) ++ rest), length-append (line_definitions (lines_of c.in-Some.number bs)) rest)

pub put_more_blocks-requires-clause-few : goal.put_more_blocks-requires-clause-few
put_more_blocks-requires-clause-few g c =
    let bs : List Block = c.args.func.now.function.blocks in
    let rest : List ℕ = definitions (blocks_at bs c.next.new.self) in
    let split = ap (λ (l : List Block). length (definitions l)) (first_block bs c.blocks-order.result c.next.new.self c.in-Some.number c.in-Some.ensures.steps c.blocks-order.ensures.numbers c.blocks-order.ensures.sound.blocks_differ) in
    omega (arith, split, c.put_block-next.ensures.next, all_few c.args.func.now.function c.blocks-order.ensures.sound, length-append (params_of c.in-Some.number bs) (line_definitions (lines_of c.in-Some.number bs) ++ rest), length-append (line_definitions (lines_of c.in-Some.number bs)) rest)

pub returns-in-Some : goal.returns-in-Some
returns-in-Some g c =
    let bs : List Block = c.args.func.now.function.blocks in
    let split = first_block bs c.blocks-order.result c.next.new.self c.in-Some.number c.in-Some.ensures.steps c.blocks-order.ensures.numbers c.blocks-order.ensures.sound.blocks_differ in
    let more = rw c.put_block-next.ensures.next at c.put_more_blocks.ensures in
    subst (λ (l : List ℕ). Puts g.O.Output.holds c.args.out.now c.put_more_blocks.new.out l) (sym (ap (λ (l : List Block). spelled (blocks c.args.func.now.function c.args.numbers.now.numbering l)) split)) (c.put_block-next.ensures.text ▸ more)
