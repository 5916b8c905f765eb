use Rattle.std.proofs.Common.{◌≡◌, take}
use Rattle.std.specs.Prelude.{flat_map}
use Rattle.clif_meaning.specs.Meaning.{decl_slots}
use Rattle.clif_resolve.proofs.declarations.slots.Given as goal

abbrev pub invariant-loop-decl : goal.invariant-loop-decl
invariant-loop-decl l = l.list.items ≡ flat_map decl_slots (take l.decl-index l.decls)
