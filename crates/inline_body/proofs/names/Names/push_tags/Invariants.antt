use Rattle.std.proofs.Common.{◌≡◌, ◌++◌, drop, map}
use Rattle.ir_core.specs.Lists.{Each}
use Rattle.ir_semantics.specs.Renaming.{tag_under}
use Rattle.ir_core.specs.Uses.{slots_shown}
use Rattle.inline_body.specs.Named.{names_of, Moves}
use Rattle.inline_body.proofs.names.Names.push_tags.Given as goal

abbrev pub invariant-loop-tag : goal.invariant-loop-tag
invariant-loop-tag l = (l.list.items ++ map (tag_under (names_of l.fn.self)) (drop l.tag-index l.tags) ≡ l.fn.list.items ++ map (tag_under (names_of l.fn.self)) l.tags) × Each (Moves l.fn.self.slots) (slots_shown (drop l.tag-index l.tags))
