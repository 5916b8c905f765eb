use Rattle.std.proofs.Common.{◌≡◌, take}
use Rattle.std.specs.Prelude.{fold}
use Rattle.clif_meaning.specs.Meaning.{with_attribute}
use Rattle.clif_lines.proofs.signatures.param.Given as goal

abbrev pub invariant-loop-attribute : goal.invariant-loop-attribute
invariant-loop-attribute l = l.param ≡ fold with_attribute l.initial.param (take l.attribute-index l.attributes)
