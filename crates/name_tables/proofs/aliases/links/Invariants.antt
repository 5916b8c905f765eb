use Rattle.std.proofs.Common.{◌≡◌, take, map}
use Rattle.name_tables.specs.Aliases.{link_of}
use Rattle.name_tables.proofs.aliases.links.Given as goal

abbrev pub invariant-loop-first : goal.invariant-loop-first
invariant-loop-first l = l.links.items ≡ map (link_of l.words) (take l.first-index l.firsts)
