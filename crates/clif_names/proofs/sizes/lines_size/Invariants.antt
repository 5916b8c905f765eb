use Rattle.std.proofs.Common.{◌≡◌, take}
use Rattle.ir_core.specs.Size.{capped, total}
use Rattle.clif_names.specs.Sizes as spec
use Rattle.clif_names.proofs.sizes.lines_size.Given as goal

abbrev pub invariant-loop-line : goal.invariant-loop-line
invariant-loop-line l = l.size ≡ capped (total spec.line_size (take l.line-index l.lines))
