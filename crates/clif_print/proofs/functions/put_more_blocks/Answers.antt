use Rattle.std.proofs.Common.{◌≡◌, ◌++◌, List, ℕ, length, ap, refl, arith, rules, length-append}
use Rattle.ir_core.specs.Edits.{params_of, lines_of, blocks_at}
use Rattle.ir_core.specs.Lookup.{definitions, line_definitions}
use Rattle.ir_core.proofs.ByNumber.{first_in, rest_in}
use Rattle.ir_text.specs.TextTree.{spelled}
use Rattle.ir_text.specs.Text.{more_blocks}
use Rattle.text_output.proofs.Puts.{begins, goes, ◌▸◌}
use Rattle.clif_print.proofs.functions.put_more_blocks.Goals as goal

pub loop-number-init : goal.loop-number-init
loop-number-init g c =
    let it : c.into_iter-number-iterator.result ≡ c.args.order = search rules in
    rw it (record { text = begins; there = c.requires.there; count = refl })

pub put_block-next-requires-clause-there : goal.put_block-next-requires-clause-there
put_block-next-requires-clause-there g c = first_in _ _ _ _ c.in-Some.ensures.steps c.loop-number.invariant.there

pub loop-number-preserved : goal.loop-number-preserved
loop-number-preserved g c =
    let split = ap (λ (ns : List ℕ). definitions (blocks_at c.args.func.now.function.blocks ns)) c.in-Some.ensures.steps in
    let rest : List ℕ = definitions (blocks_at c.args.func.now.function.blocks c.next.new.self) in
    rw c.put_block-next.ensures.next
    (record {
      text = goes _ c.loop-number.invariant.text (ap (λ (ns : List ℕ). spelled (more_blocks c.args.func.now.function c.args.numbers.now.numbering c.loop-number.next (blocks_at c.args.func.now.function.blocks ns))) c.in-Some.ensures.steps) (c.put.ensures ▸ c.put_block-next.ensures.text);
      there = rest_in _ _ _ _ c.in-Some.ensures.steps c.loop-number.invariant.there;
      count = omega (arith, ap (length {A = ℕ}) split, length-append (params_of c.in-Some.number c.args.func.now.function.blocks) (line_definitions (lines_of c.in-Some.number c.args.func.now.function.blocks) ++ rest), length-append (line_definitions (lines_of c.in-Some.number c.args.func.now.function.blocks)) rest, c.loop-number.invariant.count);
    })
