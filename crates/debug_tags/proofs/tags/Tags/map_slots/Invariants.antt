use Rattle.std.proofs.Common.{◌≡◌, ◌++◌, map, take, drop}
use Rattle.debug_tags.specs.Tags.{moved}
use Rattle.debug_tags.proofs.tags.Tags.map_slots.Given as goal

abbrev pub invariant-loop-tag : goal.invariant-loop-tag
invariant-loop-tag l =
    l.tag-items ≡ map (moved l.by) (take l.tag-index l.initial.tag-items) ++ drop l.tag-index l.initial.tag-items
