use Rattle.std.proofs.Common.{◌≡◌, take}
use Rattle.std.specs.Prelude.{flat_map}
use Rattle.name_tables.specs.Definitions.{block_steps}
use Rattle.clif_lines.specs.WordRenaming.{renaming}
use Rattle.clif_resolve.specs.FormTypes.{types_along}
use Rattle.clif_resolve.proofs.types.value_types.Given as goal

abbrev pub invariant-loop-block : goal.invariant-loop-block
invariant-loop-block l = l.types.items ≡ types_along l.func.function (renaming l.words) (flat_map block_steps (take l.block-index l.blocks))
