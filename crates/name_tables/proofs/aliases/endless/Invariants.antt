use Rattle.std.proofs.Common.{◌≡◌, take}
use Rattle.name_tables.specs.Aliases.{least_endless}
use Rattle.name_tables.proofs.aliases.endless.Given as goal

abbrev pub invariant-loop-place : goal.invariant-loop-place
invariant-loop-place l = l.least ≡ least_endless (take l.place l.firsts) l.ends
