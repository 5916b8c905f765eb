use Rattle.std.proofs.Common.{◌≡◌, ℕ, ◌+◌, length}
use Rattle.ir_core.specs.Lists.{In}
use Rattle.ir_core.specs.Lookup.{definitions, block_numbers}
use Rattle.ir_core.specs.Edits.{blocks_at}
use Rattle.ir_text.specs.TextTree.{spelled}
use Rattle.ir_text.specs.Text.{more_blocks}
use Rattle.text_output.proofs.Puts.{Going}
use Rattle.clif_print.proofs.functions.put_more_blocks.Given as goal

abbrev pub invariant-loop-number : goal.invariant-loop-number
invariant-loop-number g l = record {
  text : Going g.O.Output.holds l.initial.out l.out (spelled (more_blocks l.func.function l.numbers.numbering l.next (blocks_at l.func.function.blocks l.number-iterator)))
      (spelled (more_blocks l.func.function l.numbers.numbering l.first (blocks_at l.func.function.blocks l.initial.number-iterator)));
  there : (n : ℕ) → In n l.number-iterator → In n (block_numbers l.func.function.blocks);
  count : l.next + length (definitions (blocks_at l.func.function.blocks l.number-iterator)) ≡ l.first + length (definitions (blocks_at l.func.function.blocks l.initial.number-iterator));
}
