use Rattle.std.proofs.Common.{◌≡◌, ◌++◌, map}
use Rattle.ir_core.specs.Lookup.{block_numbers}
use Rattle.ir_core.specs.Lists.{In, Each}
use Rattle.ir_core.specs.Edits.{block_at}
use Rattle.inline_ends.specs.Tried.{tried_blocks}
use Rattle.inline_ends.specs.TriedParts.{made_blocks, AsMany, CanTry}
use Rattle.inline_ends.proofs.try_body.try_blocks.Given as goal

abbrev pub invariant-loop-block : goal.invariant-loop-block
invariant-loop-block l =
    record {
      left : made_blocks l.made ++ tried_blocks l.fn.names l.fn.site (map (block_at l.fn.callee.function.blocks) l.block-iterator) ≡ tried_blocks l.fn.names l.fn.site l.fn.callee.function.blocks;
      as_many : AsMany l.made;
      there : Each (λ k. In k (block_numbers l.fn.callee.function.blocks)) l.block-iterator;
      can : Each (CanTry l.fn.names) (map (block_at l.fn.callee.function.blocks) l.block-iterator);
    }
