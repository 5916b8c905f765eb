use Rattle.std.proofs.Common.{◌≡◌, take, map}
use Rattle.clif_meaning.specs.Meaning.{param_of}
use Rattle.clif_lines.proofs.signatures.many_params.Given as goal

abbrev pub invariant-loop-item : goal.invariant-loop-item
invariant-loop-item l = l.list.items ≡ map param_of (take l.item-index l.written)
