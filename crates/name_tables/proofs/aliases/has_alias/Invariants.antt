use Rattle.std.proofs.Common.{◌≡◌, false, take}
use Rattle.std.specs.List.{list_any}
use Rattle.name_tables.specs.Aliases.{is_alias}
use Rattle.name_tables.proofs.aliases.has_alias.Given as goal

abbrev pub invariant-loop-first : goal.invariant-loop-first
invariant-loop-first l = list_any is_alias (take l.first-index l.firsts) ≡ false
