use Rattle.std.proofs.Common.{◌≡◌, take, map}
use Rattle.std.specs.List.{enumerate_from}
use Rattle.clif_resolve.specs.Filling.{empty_block}
use Rattle.clif_resolve.proofs.functions.add_each_block.Given as goal

abbrev pub invariant-loop-block : goal.invariant-loop-block
invariant-loop-block l =
    l.func.function ≡ record l.initial.func.function { blocks = map empty_block (enumerate_from 0 (take l._block-index l.blocks)) }
