use Rattle.std.proofs.Common.{◌≡◌, take}
use Rattle.std.specs.Prelude.{fold}
use Rattle.name_tables.specs.Defining.{define_block}
use Rattle.name_tables.proofs.tables.Tables.define_blocks.Given as goal

abbrev pub invariant-loop-block : goal.invariant-loop-block
invariant-loop-block l = l.self ≡ fold define_block l.initial.self (take l.block-index l.blocks)
