use Rattle.std.proofs.Common.{◌≡◌, take}
use Rattle.ir_core.specs.Size.{capped, total}
use Rattle.clif_names.specs.Sizes as spec
use Rattle.clif_names.proofs.sizes.decls_size.Given as goal

abbrev pub invariant-loop-decl : goal.invariant-loop-decl
invariant-loop-decl l = l.size ≡ capped (total spec.decl_size (take l.decl-index l.decls))
