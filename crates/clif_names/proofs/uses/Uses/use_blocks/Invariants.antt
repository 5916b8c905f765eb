use Rattle.std.proofs.Common.{◌≡◌, take}
use Rattle.std.specs.Prelude.{fold}
use Rattle.clif_names.specs.Using as spec
use Rattle.clif_names.proofs.uses.Uses.use_blocks.Given as goal

abbrev pub invariant-loop-block : goal.invariant-loop-block
invariant-loop-block l = l.self ≡ fold (spec.use_block l.ends) l.initial.self (take l.block-index l.blocks)
