use Rattle.std.proofs.Common.{◌≡◌, take}
use Rattle.std.specs.Prelude.{fold}
use Rattle.clif_names.specs.Using as spec
use Rattle.clif_names.proofs.uses.Uses.use_tags.Given as goal

abbrev pub invariant-loop-tag : goal.invariant-loop-tag
invariant-loop-tag l = l.self ≡ fold spec.use_tag l.initial.self (take l.tag-index l.tags)
