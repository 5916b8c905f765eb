-- The size of a function does not depend on its numbers.
use Rattle.std.proofs.Common.{◌+◌, List, length, ap, ap₂, ◌∙◌}
use Rattle.ir_core.specs.declared.declarations.Callee.{Callee}
use Rattle.ir_core.specs.declared.declarations.SlotDecl.{SlotDecl}
use Rattle.ir_core.specs.Size.{block_size, sig_size, total}
use Rattle.ir_semantics.specs.Renaming.{block_under}
use Rattle.inline_acceptance.proofs.KeptSizes.{block_same, total_map}
use Rattle.inline_numbering.specs.Renamed.{RenamedKeepsSize}

pub size_renamed : RenamedKeepsSize
size_renamed r f g h =
    ap₂ (λ x y. x + y)
    (ap₂ (λ x y. x + y) (ap₂ (λ x y. x + y) (ap (λ (z : List SlotDecl). length z) h.slots) (ap (λ (z : List Callee). length z) h.callees)) (ap (total sig_size) h.sigs))
    (ap (total block_size) h.blocks ∙ total_map (block_under r) block_size block_size (block_same r) f.blocks)
