-- Blocks in the making at a `try_call`.
use Rattle.std.specs.Prelude.{◌≡◌, ◌+◌, ◌<◌, ◌^◌, List, ◌++◌, length, map}
use Rattle.ir_core.specs.Module.{Line, Block}
use Rattle.ir_core.specs.Lists.{Each, Below}
use Rattle.ir_core.specs.Viewed.{line_of}
use Rattle.ir_semantics.specs.Splice.{Fragment}
use Rattle.inline_body.specs.declared.names.Names.{Names}
use Rattle.inline_body.specs.Named.{names_of, Moves, Reached}
use Rattle.inline_body.specs.Inlined.{blocks_from}
use Rattle.inline_ends.specs.declared.trying.TrySite.TheInside.{Inside}
use Rattle.inline_ends.specs.declared.try_body.MadeBlocks.{MadeBlocks}
use Rattle.inline_ends.specs.declared.try_body.OpenBlock.{OpenBlock}
use Rattle.inline_ends.specs.Tried.{OuterTry, plain_calls, block_with}

abbrev pub outer_try : Inside → OuterTry
outer_try s =
    record { tags = s.tags.now; normal = s.normal.now; table = s.table.now; callees = s.own.now ++ s.added.now }

abbrev pub made_blocks : MadeBlocks → List Block
made_blocks m = blocks_from m.block_params.items m.block_lines.items

abbrev pub AsMany : MadeBlocks → Type 0
AsMany m = length m.block_params.items ≡ length m.block_lines.items

-- the blocks made, and the open one with further lines and the blocks that follow it
abbrev pub with_rest : OpenBlock → Fragment → List Block
with_rest o rest =
    made_blocks o.made
    ++ block_with o.block o.params (record { lines = map line_of o.lines.items ++ rest.lines; more = rest.more })

-- each number of a block has one, and there are numbers for the blocks behind its calls
pub record CanTry (n : Names) (b : Block) : Type 0 where
  pub number : b.number < length n.blocks
  pub params : Each (Moves n.values) b.params
  pub lines : Each (Reached n) b.lines
  pub few_results : Each (λ (l : Line). length l.results < 2 ^ 32) b.lines
  pub numbers : (names_of n).block b.number + plain_calls b.lines + 1 < 2 ^ 32

-- each callee's number is that of a declaration
abbrev pub Called : Names → OuterTry → Type 0
Called n s = Below (length s.callees) n.callees
