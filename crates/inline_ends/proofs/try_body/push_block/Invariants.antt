use Rattle.std.proofs.Common.{◌≡◌, ◌+◌, ◌<◌, ◌^◌, ◌++◌, drop, map, length}
use Rattle.ir_core.specs.Lists.{Each}
use Rattle.ir_core.specs.Viewed.{line_of}
use Rattle.ir_core.specs.Edits.{block_at}
use Rattle.inline_body.specs.Named.{Reached}
use Rattle.inline_ends.specs.Tried.{plain_calls, tried_lines, tried_block}
use Rattle.inline_ends.specs.TriedParts.{made_blocks, AsMany, with_rest}
use Rattle.inline_ends.proofs.try_body.push_block.Given as goal

abbrev pub invariant-loop-line : goal.invariant-loop-line
invariant-loop-line l =
    record {
      left : with_rest l.current (tried_lines l.fn.names l.fn.site (l.current.block + 1) (map line_of (drop l.line-index l.lines))) ≡ made_blocks l.fn.made ++ tried_block l.fn.names l.fn.site (block_at l.fn.callee.function.blocks l.fn.block);
      as_many : AsMany l.current.made;
      reached : Each (Reached l.fn.names) (map line_of (drop l.line-index l.lines));
      few : Each (λ x. length x.results < 2 ^ 32) (map line_of (drop l.line-index l.lines));
      number : l.current.block + plain_calls (map line_of (drop l.line-index l.lines)) + 1 < 2 ^ 32;
    }
